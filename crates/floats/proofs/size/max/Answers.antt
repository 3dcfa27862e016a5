-- `max` meets its contract: the three cases of the code are those of the definition. Assumes nothing.
use Rattle.floats.specs.Size.{max_of}
use Rattle.floats.proofs.Signs.{nan_is, nan_is_not}
use Rattle.floats.proofs.size.max.Goals as goal

pub returns-then-a-b : goal.returns-then-a-b
unfolding max_of
returns-then-a-b c = rw c.if-a-b.true

pub returns-then-a : goal.returns-then-a
unfolding max_of
returns-then-a c = rw (c.if-a-b.false, nan_is c.args.a c.if-a.true)

pub returns : goal.returns
unfolding max_of
returns c = rw (c.if-a-b.false, nan_is_not c.args.a c.if-a.false)
