-- The count byte is missing, or the next record stands behind the frames.
use Rattle.res.proofs.records.Steps.{moving_short, moving-whole}
use Rattle.res.proofs.records.moving_at.Goals as goal

pub returns-then-file-at : goal.returns-then-file-at
returns-then-file-at c = moving_short _ _ c.if-file-at.true

pub returns : goal.returns
returns c = moving-whole _ _ _ _ c.if-file-at.false c.u8_at.ensures.0 c.area_at.ensures.0
