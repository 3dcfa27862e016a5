-- The place is taken. Assumes nothing.
use Rattle.std.proofs.Common.{◌≡◌, ◌+◌, ◌-◌, sym, ap, ◌∙◌, subst, arith}
use Rattle.curves.specs.Bulges.{has_at, Run}
use Rattle.curves.proofs.Near.{run_at}
use Rattle.curves.proofs.bulges.outward.Goals as goal

pub loop-i-init : goal.loop-i-init
loop-i-init c = c.requires.1.1

pub has-requires : goal.has-requires
has-requires c = (c.requires.0, omega (arith, c.loop-i.invariant.0))

pub returns-then-not-has : goal.returns-then-not-has
returns-then-not-has c =
    let a = c.args in
    let i = c.loop-i.i in
    let e : i ≡ i - 1 + 1 = omega arith in
    subst (Run (has_at a.s a.row) a.s.count) e
    (run_at (has_at a.s a.row) a.s.count i c.requires.1.0 (omega (arith, c.loop-i.invariant.0))
    (λ l. c.loop-i.invariant.1) (λ l. sym c.has.ensures ∙ c.if-not-has.true))

pub loop-i-preserved : goal.loop-i-preserved
loop-i-preserved c = (omega (arith, c.loop-i.invariant.0), sym c.has.ensures ∙ c.if-not-has.false)

pub returns : goal.returns
returns c =
    let a = c.args in
    let e : c.loop-i.i ≡ 0 = omega arith in
    run_at (has_at a.s a.row) a.s.count 0 c.requires.1.0 (omega arith) (λ l. ap (has_at a.s a.row) (sym e) ∙ c.loop-i.invariant.1) (λ l. absurd (omega arith))
