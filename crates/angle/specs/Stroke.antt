-- The angles of a stroke. Definitions only.
use Rattle.std.specs.Prelude.{ℕ, ℤ, pos, Float}
use Rattle.std.specs.Float.{binary32}
use Rattle.std.specs.Float.Ieee.{of_int, add, mul, div}
use Rattle.floats.specs.Degrees.{radians_of}

-- Whole degrees in radians.
abbrev pub radians : ℤ → Float
radians z = radians_of (of_int binary32 z)

-- "t = start + (sweep*i)/steps in f32 radians"
unfoldable pub stroke_angle : Float → Float → ℕ → ℕ → Float
stroke_angle start sweep i steps = add binary32 start (div binary32 (mul binary32 sweep (of_int binary32 (pos i))) (of_int binary32 (pos steps)))
