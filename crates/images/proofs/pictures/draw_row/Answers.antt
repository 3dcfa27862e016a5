-- What is done leaves the rest of the row as it was.
use native.Mathlib.Omega.{arith}
use Rattle.images.proofs.pictures.Overlays.{over_none, over-more}
use Rattle.images.proofs.pictures.draw_row.Goals as goal

pub loop-k-init : goal.loop-k-init
loop-k-init c = over_none

pub loop-k-preserved : goal.loop-k-preserved
loop-k-preserved c = over-more _ _ _ _ _ _ _ _ _ _ _ _ _ c.loop-k.invariant (omega arith) c.draw_chunk.ensures
