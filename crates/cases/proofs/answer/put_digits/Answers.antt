-- `put_digits` puts the last digit first: the digits still to come, put after those that stand, are all.
use mathlib.Core.Path.{refl, sym, ◌∙◌, ap}
use Prim.Native.Nat.{ℕ, ◌+◌}
use native.Mathlib.Nat.{mod-lt, lt_of_lt_of_le}
use native.Mathlib.Omega.{arith}
use Rattle.cases.proofs.Texts.{length-spelled, digit_before, all_digits}
use Rattle.cases.proofs.answer.put_digits.Goals as goal

pub loop-i-init : goal.loop-i-init
loop-i-init c = refl

pub glyph-requires : goal.glyph-requires
glyph-requires c = lt_of_lt_of_le (mod-lt c.loop-i.rest (omega (arith, c.requires.lt_base.0))) c.requires.lt_base.1

pub overflow_add-out : goal.overflow_add-out
overflow_add-out c = omega (arith, c.requires.k_in_bounds, c.well_formed.0.0)

pub bounds-out-at : goal.bounds-out-at
bounds-out-at c = omega (arith, c.requires.k_in_bounds)

pub loop-i-preserved : goal.loop-i-preserved
loop-i-preserved c =
    let a = c.args in
    let l = c.loop-i in
    let glyph = c.glyph in
    digit_before l.out a.at a.base l.i l.rest glyph.result c.loop-i-test.true glyph.ensures ∙ l.invariant

pub overflow_add-result : goal.overflow_add-result
overflow_add-result c = omega (arith, c.requires.k_in_bounds, c.well_formed.0.0)

pub returns : goal.returns
returns c =
    let a = c.args in
    let l = c.loop-i in
    record { same = all_digits l.out a.at a.base l.i l.rest c.loop-i-test.false l.invariant; to = ap (λ (m : ℕ). a.at + m) (sym (length-spelled a.base a.k a.n)) }
