-- A word of the format ARGB.
use Rattle.words.specs.Format.{format_of}
use Rattle.tuyrashka.proofs.records.color_of.Goals as goal

pub returns : goal.returns
unfolding format_of
returns c = c.to_color.ensures
