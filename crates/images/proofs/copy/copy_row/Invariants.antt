-- What is done was not read again after it was written.
use Prim.Native.Nat.{◌-◌}
use Rattle.images.proofs.copy.Moves.{Moved}
use Rattle.images.proofs.copy.copy_row.Given as goal

abbrev pub invariant-loop-k : goal.invariant-loop-k
invariant-loop-k l = Moved l.canvas l.initial.b l.x l.y l.sx l.sy l.n l.right l.k l.b

abbrev pub decreases-loop-k : goal.decreases-loop-k
decreases-loop-k l = l.n - l.k
