-- The meaning and the rules at a few places, computed: a zero's sine is that zero, and of two k as near the lower is
-- taken. Assumes nothing.
use Rattle.std.proofs.Common.{◌≡◌, ◌+◌, ◌/◌, false, pos, negsuc, neg_ℤ, refl}
use lib.IntN.{pow, one}
use lib.Ieee.{fin, binary32, of_bits, to_bits, round, neg, add, sub, mul, div, le, lt, eq}
use Rattle.floats.specs.Size.{plus_zero, abs_of, sign_of}
use Rattle.angle.specs.Meaning.{H, nearestK, rest, whole, coef, term, terms, mod4, placed, sine, cosine}
use Rattle.angle.specs.Sine.{counted_of, rest_of, larger_of, smaller_of, size_of, off_of, sized_of, tiny_of, sine_from, sine_on, cosine_from, cosine_on, narrow_of, sine_at, cosine_at, sine_of_size, cosine_of_size, sine_of, cosine_of}
use Rattle.angle.specs.Arctangent.{even_of, odd_of, less_of, from_of, past_one, of_ratio, direction_of, arctangent_of}

-- ---- k and the rest
tie_above : nearestK (pos (H / 2)) ≡ pos 0
unfolding nearestK H
tie_above = refl

tie_below : nearestK (neg_ℤ (pos (H / 2))) ≡ negsuc 0
unfolding nearestK H
tie_below = refl

past_the_tie : nearestK (pos (H / 2 + 1)) ≡ pos 1
unfolding nearestK H
past_the_tie = refl

-- ---- the meaning at 0 and a quarter turn on
sine_0 : sine (pos 0) ≡ pos 0
unfolding sine nearestK H rest terms term coef pow one placed mod4
sine_0 = refl

cosine_0 : cosine (pos 0) ≡ pos whole
unfolding cosine nearestK H rest terms term coef pow one placed mod4 whole
cosine_0 = refl

sine-H : sine (pos H) ≡ pos whole
unfolding sine nearestK H rest terms term coef pow one placed mod4 whole
sine-H = refl

-- ---- the rule of the sine and the cosine
minus-zero : sine_of (neg plus_zero) ≡ neg plus_zero
unfolding sine_of sine_of_size counted_of le lt eq add round to_bits rest_of sine_at cosine_at sine_from cosine_from size_of larger_of smaller_of off_of sized_of tiny_of sine_on cosine_on narrow_of placed mul sub neg of_bits
minus-zero = refl

zero-stays : sine_of plus_zero ≡ plus_zero
unfolding sine_of sine_of_size counted_of le lt eq add round to_bits rest_of sine_at cosine_at sine_from cosine_from size_of larger_of smaller_of off_of sized_of tiny_of sine_on cosine_on narrow_of placed mul sub of_bits
zero-stays = refl

-- sin 1 and cos 1
sine_1 : sine_of (of_bits binary32 0x3F80_0000) ≡ of_bits binary32 0x3F57_6AA4
unfolding sine_of sine_of_size counted_of le lt eq add round to_bits rest_of sine_at cosine_at sine_from cosine_from size_of larger_of smaller_of off_of sized_of tiny_of sine_on cosine_on narrow_of placed mul sub neg of_bits
sine_1 = refl

cosine_1 : cosine_of (of_bits binary32 0x3F80_0000) ≡ of_bits binary32 0x3F0A_5140
unfolding cosine_of cosine_of_size counted_of le lt eq add round to_bits rest_of sine_at cosine_at sine_from cosine_from size_of larger_of smaller_of off_of sized_of tiny_of sine_on cosine_on narrow_of placed mul sub neg of_bits
cosine_1 = refl

-- ---- the rule of the arctangent, outside its domain too
north_east : arctangent_of (of_bits binary32 0x3F80_0000) (of_bits binary32 0x3F80_0000) ≡ fin false 45 (pos 0)
unfolding arctangent_of direction_of of_ratio from_of past_one less_of even_of odd_of abs_of sign_of eq lt add sub mul div neg round of_bits
north_east = refl

nowhere : arctangent_of plus_zero plus_zero ≡ plus_zero
unfolding arctangent_of direction_of sign_of eq lt mul round of_bits
nowhere = refl
