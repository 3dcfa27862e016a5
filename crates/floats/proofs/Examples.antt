-- A few numbers, computed.
use Rattle.std.proofs.Common.{◌≡◌, pos, refl}
use lib.Ieee.{binary32, is_nan, of_bits, of_int, mul, lt}
use Rattle.floats.specs.Size.{plus_zero, one, max_of}
use Rattle.floats.specs.Degrees.{radians_of}

-- Half a turn is the f32 nearest to pi.
half-turn : radians_of (of_int binary32 (pos 180)) ≡ of_bits binary32 0x4049_0FDB
unfolding radians_of of_int of_bits mul
half-turn = refl

-- The larger, on either side.
larger : (max_of plus_zero one ≡ one) × (max_of one plus_zero ≡ one)
unfolding max_of is_nan lt
larger = (refl, refl)
