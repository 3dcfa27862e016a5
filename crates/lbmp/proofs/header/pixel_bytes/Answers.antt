-- The part begins after the header and is as long as the pixels are.
use Rattle.lbmp.proofs.header.Parts.{pixels_are}
use Rattle.lbmp.proofs.header.pixel_bytes.Goals as goal

pub returns : goal.returns
returns c = pixels_are _ _ _ c.requires.0 c.pixel_size.ensures.0
