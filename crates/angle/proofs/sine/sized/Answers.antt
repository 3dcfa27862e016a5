-- `sized` meets its contract: the two cases of the code are those of the test. Assumes nothing.
use Rattle.std.proofs.Common.{Bool, cond, sym, ap}
use lib.Ieee.{neg}
use Rattle.angle.specs.Sine.{sized_of}
use Rattle.angle.proofs.sine.sized.Goals as goal

pub returns-then-d : goal.returns-then-d
unfolding sized_of
returns-then-d c = let d = c.args.d in sym (ap (λ (b : Bool). cond b (neg d) d) c.if-d.true)

pub returns : goal.returns
unfolding sized_of
returns c = let d = c.args.d in sym (ap (λ (b : Bool). cond b (neg d) d) c.if-d.false)
