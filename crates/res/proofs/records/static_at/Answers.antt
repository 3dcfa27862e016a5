-- The pixels are missing, or the icon stands behind the header.
use Rattle.res.proofs.records.Steps.{static_short, static-whole}
use Rattle.res.proofs.records.static_at.Goals as goal

pub returns-then-file-at : goal.returns-then-file-at
returns-then-file-at c = static_short _ _ _ c.area_at.ensures.0 c.requires c.if-file-at.true

pub returns : goal.returns
returns c =
    static-whole _ _ _ c.area_at.ensures.0 c.requires _ _ c.if-file-at.false c.u8_at.ensures.0 c.u8_at-2.ensures.0
