-- A refusal is the first fault, the canvas's before the call's own; else the points are plotted with the colour's ink.
use Rattle.std.proofs.Common.{refl, w32}
use mir.ValLaws.{to_z-of_z}
use Rattle.ovals.specs.Faults.{shape_fault}
use Rattle.ovals.specs.Strokes.{round_outline}
use Rattle.canvas.specs.Call.{dots}
use Rattle.ovals.proofs.faults.Bounds.{shape_of, shape-known}
use Rattle.canvas.proofs.plot.Answers.{ink-keeps, declines, canvas_first, own_next, start-sized, start_own, start_draws}
use Rattle.ovals.proofs.rounds.draw_round_rect.Goals as goal

pub round_outline_in-requires : goal.round_outline_in-requires
round_outline_in-requires c =
    let a = c.args in
    let f = c.ranges in
    let ink = c.plot_ink-ink in
    let own = shape_fault a.x a.y a.w a.h in
    let h = own_next {own = own} c.in_ok-judge.ensures (shape_of a.x a.y a.w a.h _ f.x f.y c.in_ok-shape_fault.ensures) in
    let g = c.well_formed.1.1.1.1.1.1.1.1.0.1 in (
      start-sized a.canvas a.bytes.now own h,
      (
        refl,
        (
          ink-keeps a.canvas a.color _ (record { a = g.1.0.1; r = g.1.1.0.1; g = g.1.1.1.0.1; b = g.1.1.1.1.0.1 }) ink.ensures,
          rw (to_z-of_z w32 a.x f.x, to_z-of_z w32 a.y f.y) (shape-known a.x a.y a.w a.h (start_own a.canvas a.bytes.now own h)),
        ),
      ),
    )

pub returns-in_err-judge : goal.returns-in_err-judge
returns-in_err-judge c =
    let a = c.args in
    declines a.canvas a.bytes.now _ _ _ c.from_residual.ensures.1 (canvas_first (shape_fault a.x a.y a.w a.h) c.in_err-judge.ensures)

pub returns-in_err-shape_fault : goal.returns-in_err-shape_fault
returns-in_err-shape_fault c =
    let a = c.args in
    let f = c.ranges in
    declines a.canvas a.bytes.now _ _ _ c.from_residual-in_err-shape_fault.ensures.1
    (own_next c.in_ok-judge.ensures (shape_of a.x a.y a.w a.h _ f.x f.y c.in_err-shape_fault.ensures))

pub returns : goal.returns
unfolding dots
returns c =
    let a = c.args in
    let f = c.ranges in
    let ink = c.plot_ink-ink in
    let slice-known = c.slice_known-1 in
    let g = c.well_formed.1.1.1.1.1.1.1.1.0.1 in
    start_draws a.canvas a.bytes.now (shape_fault a.x a.y a.w a.h)
    (own_next c.in_ok-judge.ensures (shape_of a.x a.y a.w a.h _ f.x f.y c.in_ok-shape_fault.ensures))
    a.color _ ink.ensures a.clip (round_outline a.canvas a.x a.y a.w a.h a.aw a.ah) _ _
    (record { byte = λ i. (slice-known.given i).fits })
    (record { a = g.1.0.1; r = g.1.1.0.1; g = g.1.1.1.0.1; b = g.1.1.1.1.0.1 })
    (rw (to_z-of_z w32 a.x f.x, to_z-of_z w32 a.y f.y) at c.round_outline_in.ensures)
