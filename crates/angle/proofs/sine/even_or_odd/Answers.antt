-- `even_or_odd` meets its contract: the two cases of the code are those of the test. Assumes nothing.
use Rattle.std.proofs.Common.{Bool, cond, sym, ap, eq-eqb, ne_eqb}
use Rattle.angle.proofs.sine.even_or_odd.Goals as goal

pub returns-then-k-eq0 : goal.returns-then-k-eq0
returns-then-k-eq0 c = let a = c.args in sym (ap (λ (b : Bool). cond b a.s a.c) (eq-eqb _ _ c.if-k-eq0.true))

pub returns : goal.returns
returns c = let a = c.args in sym (ap (λ (b : Bool). cond b a.s a.c) (ne_eqb _ _ c.if-k-eq0.false))
