-- The words before the index are cleared.
use native.Mathlib.Omega.{arith}
use Rattle.images.proofs.copy.Moves.{cleared_more}
use Rattle.images.proofs.copy.clear_tops.Goals as goal

pub loop-w-preserved : goal.loop-w-preserved
loop-w-preserved c = cleared_more c.loop-w.invariant (omega arith)
