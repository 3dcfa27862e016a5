-- `Rgb332::word` meets its contract, whose sum it is; no part of the sum wraps, as each channel is a byte.
use mathlib.Core.Path.{refl}
use Rattle.words.specs.Word.{from_color}
use Rattle.words.proofs.layout.Rgb332Layout.word.Goals as goal

pub returns : goal.returns
unfolding from_color
returns c = refl
