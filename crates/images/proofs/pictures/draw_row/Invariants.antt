-- What is done leaves the rest of the row as it was.
use Prim.Native.Nat.{◌-◌}
use Rattle.images.proofs.pictures.Overlays.{Overlaid}
use Rattle.images.proofs.pictures.draw_row.Given as goal

abbrev pub invariant-loop-k : goal.invariant-loop-k
invariant-loop-k l = Overlaid l.canvas l.source l.image l.initial.b l.x l.y l.sx l.sy l.n l.k l.b

abbrev pub decreases-loop-k : goal.decreases-loop-k
decreases-loop-k l = l.n - l.k
