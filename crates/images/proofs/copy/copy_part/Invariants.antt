-- What is done was not read again after it was written.
use Rattle.images.proofs.copy.Moves.{Rows}
use Rattle.images.proofs.copy.copy_part.Given as goal

abbrev pub invariant-loop-k : goal.invariant-loop-k
invariant-loop-k l = Rows l.canvas l.initial.b l.x l.y l.sx l.sy l.w l.h l.below l.k l.b
