-- `mix` takes the rule that its number names.
use mathlib.Core.Path.{subst, sym}
use Prim.Native.Nat.{ℕ, ◌<◌}
use lib.Ieee.Casts.{to_unsigned-lt}
use Rattle.blending.specs.Inner.{mixed}
use Rattle.blending.proofs.Laws.{first, second}
use Rattle.blending.proofs.mix.Goals as goal

pub returns-then-rule-eq2 : goal.returns-then-rule-eq2
unfolding mixed
returns-then-rule-eq2 c =
    let x = c.args in
    let k = second x.rule c.if-rule-eq2.true in
    let e = c.nearest.ensures in
    (rw k e.0, e.1)

pub returns : goal.returns
unfolding mixed
returns c =
    let k = first c.args.rule c.if-rule-eq2.false in
    let e = c.cut.ensures in
    (rw k e, subst (λ (n : ℕ). n < 256) (sym e) (to_unsigned-lt 8 _))
