-- `Rgb332::color` meets its contract, which says the same.
use mathlib.Core.Path.{refl}
use Rattle.words.specs.Word.{to_color}
use Rattle.words.proofs.layout.Rgb332Layout.color.Goals as goal

pub returns : goal.returns
unfolding to_color
returns c = refl
