-- The words before the index are cleared.
use Rattle.images.proofs.copy.Moves.{Cleared}
use Rattle.images.proofs.copy.clear_tops.Given as goal

abbrev pub invariant-loop-w : goal.invariant-loop-w
invariant-loop-w l = Cleared l.w-index l.ws l.initial.ws
