-- The part begins after the pixels and is as long as the mask is.
use Rattle.lbmp.proofs.header.Parts.{mask_is}
use Rattle.lbmp.proofs.header.mask_bytes.Goals as goal

pub returns : goal.returns
returns c = mask_is _ _ _ _ c.requires.0 c.pixel_size.ensures.0 c.mask_size.ensures.0
