-- `hex` goes over the digits up to the word's end.
use Rattle.std.proofs.lemmas.List.{take_rest}
use mathlib.Core.Path.{sym, ◌∙◌}
use Rattle.cases.specs.Line.{words_of}
use Rattle.cases.proofs.Seeds.{hex_ends, hex_stops, hex_ended, hex_odd}
use Rattle.cases.proofs.seed.hex.Goals.{then-b-ne32-via-then-b-ne32, then-b-ne32-via-else-b-ne32+then-i-ne0}
use Rattle.cases.proofs.seed.hex.Goals as goal

pub returns-then-b-ne32 : goal.returns-then-b-ne32
returns-then-b-ne32 c =
    let l = c.loop-i in
    hex_stops c.args.text.now l.i l.invariant c.loop-i-test.true (sym c.is_digit.ensures ∙ c.if-not-is_digit.true)
    (elim c.then-b-ne32.branch [ then-b-ne32-via-then-b-ne32 w ↦ λ e. absurd (w.if-b-ne32.true e) | then-b-ne32-via-else-b-ne32+then-i-ne0 w ↦ λ e. w.if-i-ne0.true ])

pub returns-then-not-is_digit : goal.returns-then-not-is_digit
unfolding words_of
returns-then-not-is_digit c =
    let l = c.loop-i in
    rw take_rest (hex_ends c.args.text.now l.i l.invariant c.loop-i-test.true c.if-b-ne32.false c.if-i-ne0.false)

pub returns-then-text-ne0 : goal.returns-then-text-ne0
returns-then-text-ne0 c = hex_odd c.args.text.now c.loop-i.i c.loop-i.invariant c.loop-i-test.false c.if-text-ne0.true

pub returns : goal.returns
returns c = hex_ended c.args.text.now c.loop-i.i c.loop-i.invariant c.loop-i-test.false c.if-text-ne0.false
