-- Degrees: into radians, and into one turn. Definitions only.
use Rattle.std.specs.Prelude.{false, cond, pos, from_bits, Float}
use Rattle.std.specs.Float.{fin, binary32}
use Rattle.std.specs.Float.Ieee.{lt, rem, add, mul}
use Rattle.floats.specs.Size.{plus_zero}

-- "the constant of bits 3C8EFA35"
abbrev pub degree : Float
degree = from_bits binary32 0x3C8E_FA35

-- "Degrees become radians by one f32 product with the constant"
unfoldable pub radians_of : Float → Float
radians_of x = mul binary32 x degree

abbrev pub turn : Float
turn = fin false 45 (pos 3)

-- "remainder by 360 with the sign kept, then 360 added if below 0"
unfoldable pub rem_euclid360 : Float → Float
rem_euclid360 x = let r = rem binary32 x turn in cond (lt r plus_zero) (add binary32 r turn) r
