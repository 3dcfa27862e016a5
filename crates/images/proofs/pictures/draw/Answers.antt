-- A refusal is the first fault, the canvas's before the source's; else what is shown is drawn.
use native.Mathlib.Omega.{arith}
use mathlib.Core.Path.{refl, sym, ap, ◌∙◌}
use mathlib.Core.List.{List}
use Prim.Native.Nat.{ℕ}
use mir.Syntax.{w32}
use mir.ValLaws.{to_z-of_z}
use Rattle.pixels.specs.Hits.{Hit, paint}
use Rattle.canvas.specs.Boxes.{shown}
use Rattle.canvas.specs.Plot.{Dye, over}
use Rattle.canvas.specs.Call.{source_color, dots, brush}
use Rattle.canvas.proofs.faults.Verdicts.{sized}
use Rattle.canvas.proofs.plot.Answers.{canvas_first, own_next, source_sized, declines, finishes}
use Rattle.images.proofs.parts.Landed.{part_did}
use Rattle.images.proofs.pictures.Overlays.{picture-spots, draws_over}
use Rattle.images.proofs.pictures.draw.Goals as goal

pub draw_part-requires-clause-sized : goal.draw_part-requires-clause-sized
draw_part-requires-clause-sized c = sized c.args.canvas c.args.bytes.now (sym c.in_ok-judge.ensures)

pub draw_part-requires-clause-source_sized : goal.draw_part-requires-clause-source_sized
draw_part-requires-clause-source_sized c = source_sized c.args.source c.args.image.now c.in_ok-judge_source.ensures

pub pixels-requires-clause-wide : goal.pixels-requires-clause-wide
pixels-requires-clause-wide c = omega (arith, c.shown-part.ensures.placed.wide, (sized c.args.canvas c.args.bytes.now (sym c.in_ok-judge.ensures)).wide)

pub pixels-requires-clause-high : goal.pixels-requires-clause-high
pixels-requires-clause-high c = omega (arith, c.shown-part.ensures.placed.high, (sized c.args.canvas c.args.bytes.now (sym c.in_ok-judge.ensures)).high)

pub returns-in_err-judge : goal.returns-in_err-judge
returns-in_err-judge c =
    let a = c.args in
    declines a.canvas a.bytes.now _ _ _ c.from_residual.ensures.1 (canvas_first _ c.in_err-judge.ensures)

pub returns-in_err-judge_source : goal.returns-in_err-judge_source
returns-in_err-judge_source c =
    let a = c.args in
    declines a.canvas a.bytes.now _ _ _ c.from_residual-in_err-judge_source.ensures.1 (own_next c.in_ok-judge.ensures c.in_err-judge_source.ensures)

pub returns : goal.returns
unfolding dots
returns c =
    let a = c.args in
    let f = c.ranges in
    let xs : List ℕ = shown a.dx a.sx a.w a.source.width a.canvas.width in
    let ys : List ℕ = shown a.dy a.sy a.h a.source.height a.canvas.height in
    let dye : ℕ → ℕ → Dye = λ i j. over (source_color a.source a.image.now a.dx a.dy a.sx a.sy i j) in
    let shows = rw (to_z-of_z w32 a.dx f.dx, to_z-of_z w32 a.dy f.dy, to_z-of_z w32 a.sx f.sx, to_z-of_z w32 a.sy f.sy) at c.shown-part.ensures.shows in
    let same = draws_over a.canvas a.source a.image.now a.dx a.dy a.sx a.sy a.w a.h a.clip c.shown-part.result shows in
    rw (picture-spots (brush a.canvas) dye xs ys)
    (finishes a.canvas a.bytes.now a.clip _ _ (record { landed = 0 }) _ _ (own_next c.in_ok-judge.ensures c.in_ok-judge_source.ensures) refl
    (part_did a.canvas a.clip _ _ c.shown-part.result _ _ _ (shows.lands (λ i j. brush a.canvas (dye i j)))
    (c.draw_part.ensures ∙ ap (λ (hs : List Hit). paint a.canvas hs a.bytes.now) (sym same)) c.pixels.ensures))
