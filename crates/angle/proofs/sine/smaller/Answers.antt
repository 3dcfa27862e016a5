-- `smaller` meets its contract: the two cases of the code are those of the test. Assumes nothing.
use Rattle.std.proofs.Common.{Bool, cond, sym, ap}
use Rattle.angle.specs.Sine.{smaller_of}
use Rattle.angle.proofs.sine.smaller.Goals as goal

pub returns-then-a-b : goal.returns-then-a-b
unfolding smaller_of
returns-then-a-b c = let a = c.args in sym (ap (λ (g : Bool). cond g a.a a.b) c.if-a-b.true)

pub returns : goal.returns
unfolding smaller_of
returns c = let a = c.args in sym (ap (λ (g : Bool). cond g a.a a.b) c.if-a-b.false)
