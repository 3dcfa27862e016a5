-- `Abgr::color` meets its contract: the bytes of the word, the lowest first.
use mathlib.Core.Path.{refl}
use Rattle.words.specs.Word.{to_color}
use Rattle.words.proofs.layout.AbgrLayout.color.Goals as goal

pub returns : goal.returns
unfolding to_color
returns c = rw c.to_le_bytes.ensures refl
