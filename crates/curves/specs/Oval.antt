-- Ovals: centre and half axes, and how far a point lies from the centre. Definitions only.
use Rattle.std.specs.Prelude.{ℕ, false, ℤ, pos, negsuc, Float}
use Rattle.std.specs.Float.{fin, binary32}
use Rattle.std.specs.Float.Ieee.{of_int, add, sub, div}
use Rattle.floats.specs.Size.{one}
use Rattle.curves.specs.declared.oval.Oval.{Oval}

abbrev pub half : Float
half = fin false 1 (negsuc 0)

abbrev pub two : Float
two = fin false 1 (pos 1)

-- "a=(w-1)/2, cx=x+a, and b, cy alike"
unfoldable pub half_axis : ℕ → Float
half_axis w = div binary32 (sub binary32 (of_int binary32 (pos w)) one) two

unfoldable pub centre : ℤ → ℕ → Float
centre x w = add binary32 (of_int binary32 x) (half_axis w)

-- px - cx
unfoldable pub offset : ℤ → ℤ → ℕ → Float
offset p x w = sub binary32 (of_int binary32 p) (centre x w)

-- "Centre and half axes are four f32 values carried together"
unfoldable pub oval_of : ℤ → ℤ → ℕ → ℕ → Oval
oval_of x y w h = record { cx = centre x w; cy = centre y h; a = half_axis w; b = half_axis h }
