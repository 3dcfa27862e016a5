-- `Rgb8::color` meets its contract: the bytes of the word, the highest first.
use mathlib.Core.Path.{refl}
use Rattle.words.specs.Word.{to_color}
use Rattle.words.proofs.layout.Rgb8Layout.color.Goals as goal

pub returns : goal.returns
unfolding to_color
returns c = rw c.to_be_bytes.ensures refl
