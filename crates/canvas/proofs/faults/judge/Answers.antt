-- The tests in the order of the code, and the first fault in the order of the refusals.
use Rattle.std.proofs.Common.{sym, refl, ◌∙◌, le-ltb, lt-ltb}
use borrow.Author.Tests.{not-true, not-false}
use Rattle.canvas.specs.Faults.{format_fault, or_else, first, verdict}
use Rattle.canvas.proofs.faults.Verdicts.{rule_first, size-first, row_first, length-first, none_first, narrow, rows_even}
use Rattle.canvas.proofs.faults.judge.Goals as goal

pub returns-then-canvas-gt4 : goal.returns-then-canvas-gt4
unfolding verdict first format_fault or_else
returns-then-canvas-gt4 c = rw (lt-ltb _ _ c.if-canvas-gt4.true) refl

pub returns-then-is_unruly : goal.returns-then-is_unruly
returns-then-is_unruly c =
    rule_first _ _ (le-ltb _ _ c.if-canvas-gt4.false) (sym c.is_unruly.ensures ∙ c.if-is_unruly.true)

pub returns-then-is_large : goal.returns-then-is_large
returns-then-is_large c =
    let f = le-ltb _ _ c.if-canvas-gt4.false in
    let k = sym c.is_unruly.ensures ∙ c.if-is_unruly.false in
    size-first _ _ f k (sym c.is_large.ensures ∙ c.if-is_large.true)

pub returns-then-canvas : goal.returns-then-canvas
returns-then-canvas c =
    let f = le-ltb _ _ c.if-canvas-gt4.false in
    let k = sym c.is_unruly.ensures ∙ c.if-is_unruly.false in
    let s = sym c.is_large.ensures ∙ c.if-is_large.false in
    length-first _ _ f k s (rows_even c.args.canvas s c.if-canvas.true) (sym c.is_whole.ensures ∙ not-true _ c.if-not-is_whole.true-raw)

pub is_off-requires : goal.is_off-requires
is_off-requires c =
    narrow c.args.canvas (sym c.is_large.ensures ∙ c.if-is_large.false)

pub returns-then-is_off : goal.returns-then-is_off
returns-then-is_off c =
    let f = le-ltb _ _ c.if-canvas-gt4.false in
    let k = sym c.is_unruly.ensures ∙ c.if-is_unruly.false in
    let s = sym c.is_large.ensures ∙ c.if-is_large.false in
    row_first _ _ f k s (sym c.is_off.ensures ∙ c.if-is_off.true)

pub returns-then-not-is_whole : goal.returns-then-not-is_whole
returns-then-not-is_whole c =
    let f = le-ltb _ _ c.if-canvas-gt4.false in
    let k = sym c.is_unruly.ensures ∙ c.if-is_unruly.false in
    let s = sym c.is_large.ensures ∙ c.if-is_large.false in
    length-first _ _ f k s (sym c.is_off.ensures ∙ c.if-is_off.false) (sym c.is_whole.ensures ∙ not-true _ c.if-not-is_whole.true-raw)

pub is_off-requires-2 : goal.is_off-requires-2
is_off-requires-2 c =
    narrow c.args.canvas (sym c.is_large.ensures ∙ c.if-is_large.false)

pub returns-then-not-is_off : goal.returns-then-not-is_off
returns-then-not-is_off c =
    let f = le-ltb _ _ c.if-canvas-gt4.false in
    let k = sym c.is_unruly.ensures ∙ c.if-is_unruly.false in
    let s = sym c.is_large.ensures ∙ c.if-is_large.false in
    none_first _ _ f k s (sym c.is_off-2.ensures ∙ not-true _ c.if-not-is_off.true-raw) (sym c.is_whole.ensures ∙ not-false _ c.if-not-is_whole.false-raw)

pub returns : goal.returns
returns c =
    let f = le-ltb _ _ c.if-canvas-gt4.false in
    let k = sym c.is_unruly.ensures ∙ c.if-is_unruly.false in
    let s = sym c.is_large.ensures ∙ c.if-is_large.false in
    row_first _ _ f k s (sym c.is_off-2.ensures ∙ not-false _ c.if-not-is_off.false-raw)
