-- The worked examples of pies, and a few places of strokes and round corners, computed.
use Rattle.std.proofs.Common.{◌≡◌, ℕ, Bool, true, false, [], ◌∷◌, pos, refl}
use lib.Ieee.{Float, binary32, is_nan, of_bits, of_int, add, sub, mul, div, lt, le}
use Rattle.floats.specs.Degrees.{radians_of}
use Rattle.floats.specs.Size.{plus_zero, one, abs_of, max_of}
use Rattle.floats.specs.Whole.{round_size, round_as, ceil_size}
use Rattle.curves.specs.Oval.{half_axis, centre, offset, oval_of}
use Rattle.curves.specs.Strokes.{stroke_radius, steps_of, x_at, y_at, spot_of}
use Rattle.curves.specs.Pies.{sweep_of, in_sweep, in_pie}
use Rattle.curves.specs.Corners.{radius_of, inset_of, corners_of, nearest_centre, in_round}

abbrev full : ℕ → ℕ → ℕ → ℕ → Bool
full w h i j = in_pie (pos 0) (pos 0) w h (pos 0) (pos 360) i j

-- "Full pie 3x3: 5 pixels, a plus."
plus : (full 3 3 0 0 ∷ full 3 3 1 0 ∷ full 3 3 2 0 ∷ full 3 3 0 1 ∷ full 3 3 1 1 ∷ full 3 3 2 1 ∷ full 3 3 0 2 ∷ full 3 3 1 2 ∷ full 3 3 2 2 ∷ [])
    ≡ false ∷ true ∷ false ∷ true ∷ true ∷ true ∷ false ∷ true ∷ false ∷ []
unfolding in_pie in_sweep sweep_of offset centre half_axis max_of is_nan abs_of of_int add sub mul div lt le
plus = refl

-- "2x2: none."
two_by_two : (full 2 2 0 0 ∷ full 2 2 1 0 ∷ full 2 2 0 1 ∷ full 2 2 1 1 ∷ []) ≡ false ∷ false ∷ false ∷ false ∷ []
unfolding in_pie in_sweep sweep_of offset centre half_axis max_of is_nan abs_of of_int add sub mul div lt le
two_by_two = refl

-- "2x1: two."
two_by_one : (full 2 1 0 0 ∷ full 2 1 1 0 ∷ []) ≡ true ∷ true ∷ []
unfolding in_pie in_sweep sweep_of offset centre half_axis max_of is_nan abs_of of_int add sub mul div lt le
two_by_one = refl

-- The sum is 1 and 1 / 12531600 before it is rounded.
by_rounding : full 119 121 1 49 ≡ true
unfolding in_pie in_sweep sweep_of offset centre half_axis max_of is_nan abs_of of_int add sub mul div lt le
by_rounding = refl

-- A sweep of 0 is one step; a whole turn in a box of one pixel is 14.
one-step : steps_of (oval_of (pos 0) (pos 0) 9 9) (radians_of (of_int binary32 (pos 0))) 240 320 ≡ 1
unfolding steps_of stroke_radius oval_of centre half_axis radians_of ceil_size max_of is_nan abs_of of_bits of_int add sub mul div lt
one-step = refl

fourteen : steps_of (oval_of (pos 0) (pos 0) 1 1) (radians_of (of_int binary32 (pos 360))) 240 320 ≡ 14
unfolding steps_of stroke_radius oval_of centre half_axis radians_of ceil_size max_of is_nan abs_of of_bits of_int add sub mul div lt
fourteen = refl

-- A quarter turn on, a stroke is at the top.
top : spot_of (oval_of (pos 0) (pos 0) 9 9) (record { sine = one; cosine = plus_zero }) ≡ record { x = pos 4; y = pos 0 }
unfolding spot_of x_at y_at oval_of centre half_axis round_as round_size of_int add sub mul div lt
top = refl

-- A radius of a half is an inset of 1.
inset_1 : inset_of (radius_of 1 9) ≡ 1
unfolding inset_of radius_of round_as round_size max_of is_nan of_int div lt
inset_1 = refl

-- With radii of 2 the centres of a box of 9 by 9 are 2 in from its corners.
abbrev whole : ℕ → Float
whole n = of_int binary32 (pos n)

centres : corners_of (pos 0) (pos 0) (pos 8) (pos 8) (whole 2) (whole 2) ≡ record { left = whole 2; right = whole 6; top = whole 2; bottom = whole 6; rx = whole 2; ry = whole 2 }
unfolding corners_of of_int add sub
centres = refl

-- A round fill of a box of 2 by 2 is empty, and one of 3 by 3 with arcs of 3 is its middle.
abbrev rounded : ℕ → ℕ → ℕ → ℕ → Bool
rounded s a i j = in_round (pos 0) (pos 0) s s a a i j

empty : (rounded 2 1 0 0 ∷ rounded 2 1 1 0 ∷ rounded 2 1 0 1 ∷ rounded 2 1 1 1 ∷ []) ≡ false ∷ false ∷ false ∷ false ∷ []
unfolding in_round nearest_centre radius_of max_of is_nan of_int add sub mul div lt le
empty = refl

middle : (rounded 3 3 0 0 ∷ rounded 3 3 1 0 ∷ rounded 3 3 2 0 ∷ rounded 3 3 0 1 ∷ rounded 3 3 1 1 ∷ rounded 3 3 2 1 ∷ rounded 3 3 0 2 ∷ rounded 3 3 1 2 ∷ rounded 3 3 2 2 ∷ [])
    ≡ false ∷ false ∷ false ∷ false ∷ true ∷ false ∷ false ∷ false ∷ false ∷ []
unfolding in_round nearest_centre radius_of max_of is_nan of_int add sub mul div lt le
middle = refl
