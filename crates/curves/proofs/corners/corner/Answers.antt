-- `corner` meets its contract: both coordinates of the centre are chosen. Assumes nothing.
use Rattle.std.proofs.Common.{arith}
use Rattle.std.proofs.lemmas.Grind.{common_steps}
use Rattle.curves.specs.Corners.{corner_of}
use Rattle.curves.proofs.corners.corner.Goals as goal

pub returns-then-bottom : goal.returns-then-bottom
unfolding corner_of
returns-then-bottom c = grind (arith, common_steps)

pub returns-else-bottom : goal.returns-else-bottom
unfolding corner_of
returns-else-bottom c = grind (arith, common_steps)
