-- `number` takes digits in up to the word's end.
use mathlib.Core.Path.{refl, sym, ◌∙◌}
use Prim.Native.Nat.{◌+◌, ◌*◌, ◌≤◌}
use native.Mathlib.Omega.{arith}
use borrow.Author.Tests.{eqb-true, eqb-false}
use Rattle.std.proofs.lemmas.List.{take_rest}
use Rattle.cases.specs.Line.{words_of}
use Rattle.cases.specs.Number.{number_of}
use Rattle.cases.proofs.Numbers.{from_byte, number_ends, number_stops, number_beyond, number_more, number_ended, no_number}
use Rattle.cases.proofs.number.number.Goals.{then-b-ne32-via-then-b-ne32, then-b-ne32-via-else-b-ne32+then-i-eq0}
use Rattle.cases.proofs.number.number.Goals as goal

pub loop-i-init : goal.loop-i-init
unfolding number_of from_byte
loop-i-init c = record { within = omega arith; none_yet = λ e. e; still = refl }

pub returns-then-b-ne32 : goal.returns-then-b-ne32
returns-then-b-ne32 c =
    let a = c.args in
    let l = c.loop-i in
    number_stops a.most a.text.now l.i l.value l.invariant.none_yet l.invariant.still _ c.loop-i-test.true refl
    (elim c.then-b-ne32.branch [ then-b-ne32-via-then-b-ne32 w ↦ λ e. absurd (w.if-b-ne32.true e) | then-b-ne32-via-else-b-ne32+then-i-eq0 w ↦ λ e. w.if-i-eq0.true ])
    c.if-not-is_ascii_digit.ensures.cases

pub returns-then-not-is_ascii_digit : goal.returns-then-not-is_ascii_digit
unfolding words_of
returns-then-not-is_ascii_digit c =
    let a = c.args in
    let l = c.loop-i in
    rw take_rest (number_ends a.most a.text.now l.i l.value l.invariant.none_yet l.invariant.still _ c.loop-i-test.true refl c.if-b-ne32.false c.if-i-eq0.false)

pub returns-then-from-longer : goal.returns-then-from-longer
returns-then-from-longer c =
    let a = c.args in
    let l = c.loop-i in
    let d = c.if-not-is_ascii_digit.ensures.cases in
    number_beyond a.most a.text.now l.i l.value l.invariant.none_yet l.invariant.still _ c.loop-i-test.true refl d.0 d.1
    (omega (arith, c.from.ensures, c.from-in-loop-i.ensures, c.from-in-loop-i-2.ensures))

pub loop-i-preserved : goal.loop-i-preserved
loop-i-preserved c =
    let a = c.args in
    let l = c.loop-i in
    let d = c.if-not-is_ascii_digit.ensures.cases in
    let fits : c.from.result * 10 + c.from-in-loop-i.result ≤ a.most = omega (arith, c.from-in-loop-i-2.ensures) in
    record {
      within = fits;
      none_yet = λ e. absurd (omega arith);
      still = rw (c.from.ensures, c.from-in-loop-i.ensures)
          (number_more a.most a.text.now l.i l.value l.invariant.none_yet l.invariant.still _ c.loop-i-test.true refl d.0 d.1 (rw (c.from.ensures, c.from-in-loop-i.ensures) at fits));
    }

pub returns-then-is_empty : goal.returns-then-is_empty
returns-then-is_empty c = no_number c.args.most c.args.text.now (eqb-true _ 0 (sym c.is_empty.ensures ∙ c.if-is_empty.true))

pub returns-else-is_empty : goal.returns-else-is_empty
returns-else-is_empty c =
    let a = c.args in
    let l = c.loop-i in
    number_ended a.most a.text.now l.i l.value l.invariant.none_yet l.invariant.still c.loop-i-test.false (eqb-false _ 0 (sym c.is_empty.ensures ∙ c.if-is_empty.false))
