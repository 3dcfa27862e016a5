-- "one written rule that determines the answer": the angle's size brought near 0 by quarters, and the sine and the cosine of the
-- rest by two polynomials, all in f64, each rounded to f32 once. Definitions only.
use Rattle.std.specs.Prelude.{ℕ, ◌+◌, ◌-◌, ◌/◌, ◌%◌, Bool, false, cond, pos, negsuc, from_bits, to_bits, Float}
use Rattle.std.specs.Float.{fin, binary32, binary64}
use Rattle.std.specs.Float.Ieee.{neg, add, sub, mul, le, lt}
use Rattle.angle.specs.declared.sine.SineCosine.{SineCosine}
use Rattle.angle.specs.Meaning.{placed}

-- ---- the angle's size

-- 2 ^ -12 and 26.
abbrev pub least : Float
least = fin false 1 (negsuc 11)

abbrev pub most : Float
most = fin false 13 (pos 1)

-- The larger of two, and the smaller; the second where the first is a NaN.
unfoldable pub larger_of : Float → Float → Float
larger_of a b = cond (lt b a) a b

unfoldable pub smaller_of : Float → Float → Float
smaller_of a b = cond (le a b) a b

-- The size of t, held to 2 ^ -12 from below and to 26 from above; 2 ^ -12 for a NaN.
unfoldable pub size_of : Float → Float
size_of t = smaller_of (larger_of (neg t) (larger_of t least)) most

-- ---- the quarters nearest to it, and the rest

-- The f64 nearest to 2 / pi, the quarters in a radian.
abbrev pub per_radian : Float
per_radian = from_bits binary64 0x3FE4_5F30_6DC9_C883

-- 1.5 * 2 ^ 52: a sum with it has its last digit at 1, so that its last digits are those of the nearest whole number.
abbrev pub many : Float
many = from_bits binary64 0x4338_0000_0000_0000

-- x * per_radian + many
unfoldable pub counted_of : Float → Float
counted_of x = add binary64 (mul binary64 x per_radian) many

-- The f64 nearest to a right angle, in two parts: a few quarters times the first are exact.
abbrev pub high : Float
high = from_bits binary64 0x3FF9_21FB_5444_2D00

abbrev pub small : Float
small = from_bits binary64 0x3CF8_0000_0000_0000

abbrev pub zero : Float
zero = from_bits binary64 0

-- (x - j * high) - j * small, and its size
unfoldable pub off_of : Float → Float → Float
off_of x j = sub binary64 (sub binary64 x (mul binary64 j high)) (mul binary64 j small)

unfoldable pub sized_of : Float → Float
sized_of d = cond (lt d zero) (neg d) d

-- What is left of x by the quarters nearest to it; it is negative where they are more than x.
unfoldable pub rest_of : Float → Float
rest_of x = off_of x (sub binary64 (counted_of x) many)

-- ---- the polynomials, in f64

abbrev pub one : Float
one = from_bits binary64 0x3FF0_0000_0000_0000

abbrev pub s1 : Float
s1 = from_bits binary64 0x3FC5_5554_5995_A603

abbrev pub s2 : Float
s2 = from_bits binary64 0x3F81_1076_0523_0BC4

abbrev pub s3 : Float
s3 = from_bits binary64 0x3F29_94EB_3774_CF24

abbrev pub c1 : Float
c1 = from_bits binary64 0x3FDF_FFFF_FD0C_621C

abbrev pub c2 : Float
c2 = from_bits binary64 0x3FA5_5553_E106_8F19

abbrev pub c3 : Float
c3 = from_bits binary64 0x3F56_C087_E89A_359D

abbrev pub c4 : Float
c4 = from_bits binary64 0x3EF9_9343_027B_F8C3

-- (r - x3 * s1) + (x3 * z) * (s2 - z * s3), where z is the square of r and x3 the cube.
unfoldable pub sine_on : Float → Float → Float → Float
sine_on r z x3 = add binary64 (sub binary64 r (mul binary64 x3 s1)) (mul binary64 (mul binary64 x3 z) (sub binary64 s2 (mul binary64 z s3)))

unfoldable pub sine_from : Float → Float → Float
sine_from r z = sine_on r z (mul binary64 r z)

-- ((1 - z * c1) + z2 * c2) - (z2 * z) * (c3 - z * c4), where z2 is the square of z.
unfoldable pub cosine_on : Float → Float → Float
cosine_on z z2 = sub binary64 (add binary64 (sub binary64 one (mul binary64 z c1)) (mul binary64 z2 c2)) (mul binary64 (mul binary64 z2 z) (sub binary64 c3 (mul binary64 z c4)))

unfoldable pub cosine_from : Float → Float
cosine_from z = cosine_on z (mul binary64 z z)

-- ---- one rounding to f32, by the bits

-- The bits above the last 29, to the nearest, a half going up.
abbrev pub kept_of : ℕ → ℕ
kept_of b = (b + 0x1000_0000) / 0x2000_0000

-- Of d from 2 ^ -126, the first f32 that has all its digits, up to 2. An f32's exponent is 896 less.
unfoldable pub narrow_of : Float → Float
narrow_of d = from_bits binary32 (kept_of (to_bits binary64 d) - 0x1_C000_0000)

-- ---- the answers

-- Up to 2 ^ -12 in size the sine is the angle itself, and the cosine that of 2 ^ -12, which is 1.
unfoldable pub tiny_of : Float → Bool
tiny_of t = le (size_of t) least

-- The sine of the rest d, which is odd, and its cosine, which is even.
unfoldable pub sine_at : Float → Float
sine_at d =
    let r = sized_of d in
    let y = narrow_of (sine_from r (mul binary64 r r)) in
    cond (lt d zero) (neg y) y

unfoldable pub cosine_at : Float → Float
cosine_at d =
    let r = sized_of d in
    narrow_of (cosine_from (mul binary64 r r))

-- Those of an angle's size, placed by the quarters mod 4.
unfoldable pub sine_of_size : Float → Float
sine_of_size x = placed neg (to_bits binary64 (counted_of x) % 4) (sine_at (rest_of x)) (cosine_at (rest_of x))

-- The cosine stands a quarter turn on.
unfoldable pub cosine_of_size : Float → Float
cosine_of_size x = placed neg ((to_bits binary64 (counted_of x) % 4 + 1) % 4) (sine_at (rest_of x)) (cosine_at (rest_of x))

unfoldable pub sine_of : Float → Float
sine_of t =
    let y = sine_of_size (size_of t) in
    cond (tiny_of t) t (cond (lt t (from_bits binary32 0)) (neg y) y)

unfoldable pub cosine_of : Float → Float
cosine_of t = cosine_of_size (size_of t)

unfoldable pub sine_cosine_of : Float → SineCosine
sine_cosine_of t = record { sine = sine_of t; cosine = cosine_of t }
