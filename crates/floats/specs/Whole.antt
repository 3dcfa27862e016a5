-- Whole numbers out of floats, as the Rust's `round` and `ceil` and its casts say: what is out of range goes to the
-- nearest end, and a NaN to 0. Definitions only.
use Rattle.std.specs.Prelude.{ℕ, ◌+◌, ◌-◌, ◌*◌, ◌/◌, ◌^◌, min, cond, ℤ, pos, negsuc, neg_ℤ, Float}
use Rattle.std.specs.Float.{nan, inf, fin}
use Rattle.std.specs.Float.Ieee.{up, down, to_unsigned}

-- "cut downward to 0..255"
abbrev pub as_u8 : Float → ℕ
as_u8 x = to_unsigned 8 x

-- The size to the nearest whole number, a half going up, and at most c.
unfoldable pub round_size : ℕ → Float → ℕ
round_size c nan = 0
round_size c (inf s) = c
round_size c (fin s m e) = min ((2 * (m * up e) + down e) / (2 * down e)) c

-- "rounded halves away from zero", as a signed integer of a sign and h bits.
unfoldable pub round_as : ℕ → Float → ℤ
unfolding round_size
round_as h nan = pos 0
round_as h (inf s) = cond s (neg_ℤ (pos (round_size (2 ^ h) (inf s)))) (pos (round_size (2 ^ h - 1) (inf s)))
round_as h (fin s m e) = cond s (neg_ℤ (pos (round_size (2 ^ h) (fin s m e)))) (pos (round_size (2 ^ h - 1) (fin s m e)))

-- A signed number of 32 bits as one that is not negative, 2^31 above it.
unfoldable pub lifted : ℤ → ℕ
lifted (pos n) = 0x8000_0000 + n
lifted (negsuc n) = 0x7fff_ffff - n

-- 0 for what is negative.
abbrev pub at_least0 : ℤ → ℕ
at_least0 (pos n) = n
at_least0 (negsuc n) = 0

-- The whole number above, or x itself, up to 2 ^ 63 - 1; 0 for what is negative.
unfoldable pub ceil_size : Float → ℕ
ceil_size nan = 0
ceil_size (inf s) = cond s 0 0x7fff_ffff_ffff_ffff
ceil_size (fin s m e) = cond s 0 (min ((m * up e + (down e - 1)) / down e) 0x7fff_ffff_ffff_ffff)
