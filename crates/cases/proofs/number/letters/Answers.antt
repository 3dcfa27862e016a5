-- `letters` takes letters in up to the word's end.
use Rattle.std.proofs.lemmas.List.{take_rest}
use mathlib.Core.Path.{refl}
use Rattle.cases.specs.Line.{words_of}
use Rattle.cases.specs.Number.{name_of}
use Rattle.cases.proofs.Numbers.{name_ends, no_letter, too_long, name_more, name_ended}
use Rattle.cases.proofs.number.letters.Goals.{then-b-eq0-via-then-b-eq0, then-b-eq0-via-else-b-eq0+then-value-gt281474976710655}
use Rattle.cases.proofs.number.letters.Goals as goal

pub loop-i-init : goal.loop-i-init
unfolding name_of
loop-i-init c = refl

pub returns-then-b-eq32 : goal.returns-then-b-eq32
unfolding words_of
returns-then-b-eq32 c =
    let l = c.loop-i in
    rw take_rest (name_ends c.args.text.now l.i l.value l.invariant _ c.loop-i-test.true refl c.if-b-eq32.true)

pub returns-then-b-eq0 : goal.returns-then-b-eq0
returns-then-b-eq0 c =
    let l = c.loop-i in
    let w = c.args.text.now in
    elim c.then-b-eq0.branch [
      | then-b-eq0-via-then-b-eq0 t ↦ no_letter w l.i l.value l.invariant _ c.loop-i-test.true refl c.if-b-eq32.false t.if-b-eq0.true
      | then-b-eq0-via-else-b-eq0+then-value-gt281474976710655 t ↦ too_long w l.i l.value l.invariant _ c.loop-i-test.true refl c.if-b-eq32.false t.if-b-eq0.false t.if-value-gt281474976710655.true
    ]

pub loop-i-preserved : goal.loop-i-preserved
loop-i-preserved c =
    let l = c.loop-i in
    rw c.from.ensures (name_more c.args.text.now l.i l.value l.invariant _ c.loop-i-test.true refl c.if-b-eq32.false c.if-b-eq0.false c.if-value-gt281474976710655.false)

pub returns : goal.returns
returns c =
    let l = c.loop-i in
    name_ended c.args.text.now l.i l.value l.invariant c.loop-i-test.false
