-- "one written rule that determines the answer": the arctangent in f32 alone, each operation rounded once: the ratio, one of four
-- known angles with a high and a low part, an odd polynomial, the quadrant, and the product to degrees; and what 01 asks of it.
-- Definitions only.
use Rattle.std.specs.Prelude.{◌≡◌, ℕ, ◌+◌, ◌*◌, ◌/◌, ◌%◌, ◌<◌, min, Bool, true, false, cond, ◌&&◌, T, pos, ◌==◌, from_bits, nat_le, Float}
use Rattle.std.specs.Float.{nan, inf, fin, binary32}
use Rattle.std.specs.Float.Ieee.{up, down, add, sub, mul, div, neg, lt, le, eq}
use Rattle.floats.specs.Size.{plus_zero, abs_of, sign_of}
use Rattle.floats.specs.Degrees.{radians_of}
use Rattle.angle.specs.Meaning.{parts, sine, cosine, Along}

-- ---- the polynomial

abbrev f32 : ℕ → Float
f32 n = from_bits binary32 n

-- c + w * p
abbrev pub horner : ℕ → Float → Float → Float
horner c w p = add binary32 (f32 c) (mul binary32 w p)

-- The first, third, .. of eleven coefficients, z * (c0 + w * (c2 + .. w * c10)), where w is the square of z.
unfoldable pub even_of : Float → Float → Float
even_of z w = mul binary32 z (horner 0x3EAAAAAB w (horner 0x3E124925 w (horner 0x3DBA2E6E w (horner 0x3D886B35 w (horner 0x3D4BDA59 w (f32 0x3C8569D7))))))

-- The others, w * (c1 + w * (c3 + .. w * c9)), which are taken off.
unfoldable pub odd_of : Float → Float
odd_of w = mul binary32 w (horner 0x3E4CCCCD w (horner 0x3DE38E38 w (horner 0x3D9D8795 w (horner 0x3D6EF16B w (f32 0x3D15A221)))))

-- What the angle whose tangent is x is less than x.
unfoldable pub less_of : Float → Float
less_of x = let z = mul binary32 x x in let w = mul binary32 z z in mul binary32 x (sub binary32 (even_of z w) (odd_of w))

-- ---- the angle of a ratio, in radians

-- From a known angle, by its high and its low part, on to the one whose tangent from there is x.
unfoldable pub from_of : ℕ → ℕ → Float → Float
from_of high low x = sub binary32 (f32 high) (sub binary32 (sub binary32 (less_of x) (f32 low)) x)

-- (2 * q - 1) / (2 + q): from the angle whose tangent is a half.
unfoldable pub past_half : Float → Float
past_half q = div binary32 (sub binary32 (mul binary32 (f32 0x40000000) q) (f32 0x3F800000)) (add binary32 (f32 0x40000000) q)

-- (q - 1) / (q + 1): from 45 degrees.
unfoldable pub past_one : Float → Float
past_one q = div binary32 (sub binary32 q (f32 0x3F800000)) (add binary32 q (f32 0x3F800000))

-- (q - 3/2) / (1 + 3/2 * q): from the angle whose tangent is 3/2.
unfoldable pub past_three_halves : Float → Float
past_three_halves q = div binary32 (sub binary32 q (f32 0x3FC00000)) (add binary32 (f32 0x3F800000) (mul binary32 (f32 0x3FC00000) q))

-- Below 7/16, 11/16, 19/16, 39/16, and from there on, by the right angle less what the reciprocal has. q is not negative.
unfoldable pub of_ratio : Float → Float
of_ratio q =
    cond (lt q (f32 0x3EE00000)) (sub binary32 q (less_of q))
    (cond (lt q (f32 0x3F300000)) (from_of 0x3EED6338 0x31AC3769 (past_half q))
    (cond (lt q (f32 0x3F980000)) (from_of 0x3F490FDA 0x33222168 (past_one q))
    (cond (lt q (f32 0x401C0000)) (from_of 0x3F7B985E 0x33140FB4 (past_three_halves q))
    (from_of 0x3FC90FDA 0x33A22168 (neg (div binary32 (f32 0x3F800000) q))))))

-- ---- the whole turn

-- The f32 nearest to a half turn, and to a quarter; what the first is more than a half turn.
abbrev pub half_turn : Float
half_turn = f32 0x40490FDB

abbrev pub quarter_turn : Float
quarter_turn = f32 0x3FC90FDB

abbrev pub too_much : Float
too_much = f32 0x33BBBD2E

abbrev pub minus_if : Bool → Float → Float
minus_if s a = cond s (neg a) a

-- Radians, for up y and right x.
unfoldable pub direction_of : Float → Float → Float
direction_of y x =
    cond (eq y plus_zero) (cond (sign_of x) (minus_if (sign_of y) half_turn) y)
    (cond (eq x plus_zero) (minus_if (lt y plus_zero) quarter_turn)
    (let a = of_ratio (abs_of (div binary32 y x)) in
    cond (lt x plus_zero) (cond (lt y plus_zero) (sub binary32 (add binary32 a too_much) half_turn) (sub binary32 half_turn (add binary32 a too_much))) (minus_if (lt y plus_zero) a)))

-- Degrees, by one product, for every y and x.
unfoldable pub arctangent_of : Float → Float → Float
arctangent_of y x = mul binary32 (direction_of y x) (f32 0x42652EE1)

-- ---- what is asked

-- How many halves x is in size: cut to a whole number, 32,766 at most, none for a NaN.
unfoldable pub halves_of : Float → ℕ
halves_of nan = 0
halves_of (inf s) = 32766
halves_of (fin s m e) = min (m * up e * 2 / down e) 32766

-- "multiples of a half up to 16,383 in size"
unfoldable pub is_halves : Float → Bool
is_halves nan = false
is_halves (inf s) = false
is_halves (fin s m e) = m * up e * 2 % down e == 0 && nat_le (m * up e * 2 / down e) 32766

-- "Arctangent of (up, right), multiples of a half up to 16,383 in size"
pub record Halves (y x : Float) : Type 0 where
  pub up : T (is_halves y)
  pub right : T (is_halves x)

-- .. ", not both zero"
pub record Domain (y x : Float) : Type 0 where
  pub halves : Halves y x
  pub some : 0 < halves_of y + halves_of x

-- What is asked of the answer a, for up y and right x.
pub record Arctangent (y x a : Float) : Type 0 where
  -- "answers f32 degrees in -180..180"
  pub low : T (le (fin true 45 (pos 2)) a)
  pub high : T (le a (fin false 45 (pos 2)))
  -- "with S and C those meanings at the answer's f32 product with the constant above"
  pub along : Along (parts y) (parts x) (sine (parts (radians_of a))) (cosine (parts (radians_of a)))
  -- "on the axes it is exactly 0 with up's sign, 90, -90, or 180 for up +0 and -180 for up -0"
  pub axis_right : halves_of y ≡ 0 → lt x plus_zero ≡ false → a ≡ fin (sign_of y) 0 (pos 0)
  pub axis_left : halves_of y ≡ 0 → lt x plus_zero ≡ true → a ≡ fin (sign_of y) 45 (pos 2)
  pub axis_up : halves_of x ≡ 0 → a ≡ fin (sign_of y) 45 (pos 1)
  -- More than 01 asks: 45 and 135 with up's sign on the diagonals.
  pub diagonal_right : halves_of y ≡ halves_of x → lt x plus_zero ≡ false → a ≡ fin (sign_of y) 45 (pos 0)
  pub diagonal_left : halves_of y ≡ halves_of x → lt x plus_zero ≡ true → a ≡ fin (sign_of y) 135 (pos 0)
