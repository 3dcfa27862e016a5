-- `larger` meets its contract: the two cases of the code are those of the test. Assumes nothing.
use Rattle.std.proofs.Common.{Bool, cond, sym, ap}
use Rattle.angle.specs.Sine.{larger_of}
use Rattle.angle.proofs.sine.larger.Goals as goal

pub returns-then-a-b : goal.returns-then-a-b
unfolding larger_of
returns-then-a-b c = let a = c.args in sym (ap (λ (g : Bool). cond g a.a a.b) c.if-a-b.true)

pub returns : goal.returns
unfolding larger_of
returns c = let a = c.args in sym (ap (λ (g : Bool). cond g a.a a.b) c.if-a-b.false)
