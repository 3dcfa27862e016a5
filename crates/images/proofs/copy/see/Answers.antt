-- Only Rgb8 has bytes that reading does not see.
use Rattle.images.proofs.copy.Moves.{seen_same, rgb8-is}
use Rattle.images.proofs.copy.see.Goals as goal

pub returns-then-format-eq2 : goal.returns-then-format-eq2
returns-then-format-eq2 c = rw (rgb8-is _ c.if-format-eq2.true) c.clear_tops.ensures

pub returns-else-format-eq2 : goal.returns-else-format-eq2
returns-else-format-eq2 c = seen_same _ _ c.if-format-eq2.false
