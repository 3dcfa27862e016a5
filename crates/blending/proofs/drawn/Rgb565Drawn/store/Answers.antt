-- `Rgb565::store` meets its contract, whose sum it is.
use mathlib.Core.Path.{refl}
use Rattle.words.specs.Word.{from_color, to_color}
use Rattle.blending.proofs.drawn.Rgb565Drawn.store.Goals as goal

pub returns : goal.returns
unfolding from_color to_color
returns c = refl
