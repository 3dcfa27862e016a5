-- The angles are asked first, and the first fault is given.
use Rattle.std.proofs.Common.{◌≡◌, ◌∙◌, ap₂, w32}
use mir.ValLaws.{to_z-of_z}
use Rattle.canvas.specs.Faults.{or_else}
use Rattle.ovals.specs.Faults.{angle_fault, arc_fault}
use Rattle.ovals.proofs.faults.Bounds.{shape_of}
use Rattle.ovals.proofs.faults.arc_fault.Goals as goal

pub returns : goal.returns
unfolding arc_fault
returns c =
    let a = c.args in
    let f = c.ranges in
    let angle-fault = c.angle_fault in
    let e : angle-fault.result ≡ angle_fault a.start a.arc = rw (to_z-of_z w32 a.start f.start, to_z-of_z w32 a.arc f.arc) at angle-fault.ensures in
    c.or_else.ensures ∙ ap₂ or_else e (shape_of a.x a.y a.w a.h _ f.x f.y c.shape_fault.ensures)
