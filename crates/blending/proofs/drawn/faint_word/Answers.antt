-- `faint_word` meets its contract, which says the same.
use Rattle.words.specs.Word.{to_color}
use Rattle.blending.specs.Inner.{faint}
use Rattle.blending.proofs.drawn.faint_word.Goals as goal

pub returns : goal.returns
unfolding faint to_color
returns g c = cc
