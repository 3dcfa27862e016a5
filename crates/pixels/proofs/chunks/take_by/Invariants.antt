-- The words before i are taken.
use Rattle.pixels.proofs.chunks.Chunks.{Filled}
use Rattle.pixels.proofs.chunks.take_by.Given as goal

abbrev pub invariant-loop-i : goal.invariant-loop-i
invariant-loop-i g l = Filled l.canvas l.b l.y l.x l.i l.ws l.initial.ws
