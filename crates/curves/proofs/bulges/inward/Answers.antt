-- None before here is taken. Assumes nothing.
use Rattle.std.proofs.Common.{◌≡◌, ℕ, ◌+◌, ◌-◌, ◌/◌, sym, ap, ◌∙◌, arith}
use Rattle.curves.specs.Bulges.{has_at}
use Rattle.curves.proofs.Near.{run_at, back}
use Rattle.curves.proofs.bulges.inward.Goals as goal

pub overflow_add-half : goal.overflow_add-half
overflow_add-half c = record { fits = omega (arith, c.requires.0.few) }

pub loop-i-init : goal.loop-i-init
loop-i-init c = c.requires.1.1

pub has-requires : goal.has-requires
has-requires c = (c.requires.0, omega (arith, c.loop-i-test.true, c.requires.0.some))

pub returns-then-has : goal.returns-then-has
returns-then-has c =
    let a = c.args in
    run_at (has_at a.s a.row) a.s.count c.loop-i.i c.requires.1.0 c.loop-i.invariant.1.0
    (λ l. sym c.has.ensures ∙ c.if-has.true) (λ l. c.loop-i.invariant.1.1)

pub loop-i-preserved : goal.loop-i-preserved
loop-i-preserved c =
    let a = c.args in
    (omega arith, (omega (arith, c.loop-i-test.true), ap (has_at a.s a.row) (back c.loop-i.i) ∙ sym c.has.ensures ∙ c.if-has.false))

pub returns : goal.returns
returns c =
    let a = c.args in
    let i = c.loop-i.i in
    let half = (a.s.count + 1) / 2 in
    let e : half ≡ i = omega (arith, c.loop-i-test.false, c.loop-i.invariant.1.0) in
    run_at (has_at a.s a.row) a.s.count half c.requires.1.0 (omega arith) (λ l. absurd (omega arith))
    (λ l. ap (λ (k : ℕ). has_at a.s a.row (k - 1)) e ∙ c.loop-i.invariant.1.1)
