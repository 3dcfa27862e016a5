-- `Rgb565::flip` meets its contract: alpha is not kept.
use mathlib.Core.Path.{refl}
use Rattle.words.specs.Ink.{keeps_alpha}
use Rattle.blending.proofs.drawn.Rgb565Drawn.flip.Goals as goal

pub flip_bare-requires : goal.flip_bare-requires
unfolding keeps_alpha
flip_bare-requires c = refl
