-- A refusal is the first fault, the canvas's before the call's own; else the points are plotted with the colour's ink.
use Rattle.std.proofs.Common.{refl, w32}
use mir.ValLaws.{to_z-of_z}
use Rattle.ovals.specs.Faults.{arc_fault}
use Rattle.ovals.specs.Curves.{pie}
use Rattle.canvas.specs.Call.{dots}
use Rattle.ovals.proofs.faults.Bounds.{arc_of, arc-known}
use Rattle.canvas.proofs.plot.Draws.{ready_few}
use Rattle.canvas.proofs.plot.Answers.{declines, canvas_first, own_next, start-sized, start_own, start_draws}
use Rattle.canvas.proofs.boxes.Boxes.{inks-few}
use Rattle.ovals.proofs.fills.Sieves.{pie-le}
use Rattle.ovals.proofs.fills.fill_arc.Goals as goal

pub pie_in-requires : goal.pie_in-requires
pie_in-requires c =
    let a = c.args in
    let f = c.ranges in
    let own = arc_fault a.x a.y a.w a.h a.start a.arc in
    let h = own_next {own = own} c.in_ok-judge.ensures (arc_of a.x a.y a.w a.h a.start a.arc _ f.x f.y f.start f.arc c.in_ok-arc_fault.ensures) in
    let s = start-sized a.canvas a.bytes.now own h in
    rw (to_z-of_z w32 a.x f.x, to_z-of_z w32 a.y f.y, to_z-of_z w32 a.start f.start, to_z-of_z w32 a.arc f.arc) (
      ready_few s refl (inks-few _ _ (pie-le a.canvas a.x a.y a.w a.h a.start a.arc s.wide s.high)),
      arc-known a.x a.y a.w a.h a.start a.arc (start_own a.canvas a.bytes.now own h),
    )

pub returns-in_err-judge : goal.returns-in_err-judge
returns-in_err-judge c =
    let a = c.args in
    declines a.canvas a.bytes.now _ _ _ c.from_residual.ensures.1 (canvas_first (arc_fault a.x a.y a.w a.h a.start a.arc) c.in_err-judge.ensures)

pub returns-in_err-arc_fault : goal.returns-in_err-arc_fault
returns-in_err-arc_fault c =
    let a = c.args in
    let f = c.ranges in
    declines a.canvas a.bytes.now _ _ _ c.from_residual-in_err-arc_fault.ensures.1
    (own_next c.in_ok-judge.ensures (arc_of a.x a.y a.w a.h a.start a.arc _ f.x f.y f.start f.arc c.in_err-arc_fault.ensures))

pub returns : goal.returns
unfolding dots
returns c =
    let a = c.args in
    let f = c.ranges in
    let ink = c.plot_ink-ink in
    let slice-known = c.slice_known-1 in
    let g = c.well_formed.1.1.1.1.1.1.1.1.0.1 in
    start_draws a.canvas a.bytes.now (arc_fault a.x a.y a.w a.h a.start a.arc)
    (own_next c.in_ok-judge.ensures (arc_of a.x a.y a.w a.h a.start a.arc _ f.x f.y f.start f.arc c.in_ok-arc_fault.ensures))
    a.color _ ink.ensures a.clip (pie a.canvas a.x a.y a.w a.h a.start a.arc) _ _
    (record { byte = λ i. (slice-known.given i).fits })
    (record { a = g.1.0.1; r = g.1.1.0.1; g = g.1.1.1.0.1; b = g.1.1.1.1.0.1 })
    (rw (to_z-of_z w32 a.x f.x, to_z-of_z w32 a.y f.y, to_z-of_z w32 a.start f.start, to_z-of_z w32 a.arc f.arc) at c.pie_in.ensures)
