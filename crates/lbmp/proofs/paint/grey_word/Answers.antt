-- The colour of the grey, and its word.
use Rattle.words.specs.Format.{format_of}
use Rattle.lbmp.specs.Image.{grey, grey_color}
use Rattle.lbmp.proofs.paint.grey_word.Goals as goal

pub returns : goal.returns
unfolding grey_color grey format_of
returns c = rw (← c.bit.ensures.0, ← c.bit-2.ensures.0) c.from_color.ensures
