-- `shares_of` meets its contract, which says the same.
use mathlib.Core.Path.{refl}
use lib.Ieee.{of_bits, of_int}
use Rattle.blending.specs.Blend.{factor, others}
use Rattle.blending.proofs.shares_of.Goals as goal

pub returns : goal.returns
unfolding factor others of_bits of_int
returns c = (refl, (refl, refl))
