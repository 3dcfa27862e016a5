-- The same call, with a place for the count that nobody sees.
use mathlib.Core.Path.{ap}
use mathlib.Core.List.{List}
use Prim.Native.Nat.{ℕ}
use mir.Syntax.{w32}
use mir.ValLaws.{to_z-of_z}
use Rattle.canvas.specs.Call.{Outcome}
use Rattle.images.proofs.copy.copy_area.Goals as goal

pub returns : goal.returns
returns c =
    let a = c.args in
    let f = c.ranges in
    rw (to_z-of_z w32 a.dx f.dx, to_z-of_z w32 a.dy f.dy, to_z-of_z w32 a.sx f.sx, to_z-of_z w32 a.sy f.sy)
    at (ap (λ (t : Outcome × List ℕ). t.0) c.copy_counted.ensures)
