-- The worked examples of blending, computed.
use mathlib.Core.Path.{◌≡◌, refl}
use lib.Ieee.{of_int, add, sub, mul, div, to_unsigned}
use Rattle.blending.specs.Blend.{part, factor, others, rule1, mix}

-- "Blend 200 at alpha 128 over 100: 150."
blended : mix rule1 128 200 100 ≡ 150
unfolding mix factor others of_int add sub mul div to_unsigned
blended = refl

-- "In XOR, 200 at 128 becomes 100."
scaled-down : part 128 200 ≡ 100
scaled-down = refl
