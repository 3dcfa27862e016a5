-- A fraction from 2 ^ 52 up to 2 ^ 53 is rounded to a whole number, whose last digits are those of its bits. Assumes nothing.
use Rattle.std.proofs.Common.{◌≡◌, ℕ, suc, ◌+◌, ◌-◌, ◌*◌, ◌/◌, ◌^◌, ◌<◌, ◌≤◌, true, false, not, T, sym, ap, ◌∙◌, subst, true≢false, lt_of_lt_of_le, mul-le-mul_right, div-lt_iff_lt-mul, le_antisymm, lt_of_mul-lt-mul_right, mul-lt-mul_of_pos_right, mul-pos, lt_of_not-le, le-div_iff_mul-le, not-le_of_lt, le_of_mul-le-mul_right, mul-div_cancel, arith, lit≤, pow_pos, pow_mono, pow-add, shl_lt}
use lib.Ieee.{Float, nan, inf, fin, binary64, up, down, size, units, round, to_bits, is_nan}
use lib.Ieee.Fits.{down_pos, core, round_is}
use lib.Ieee.Digits.{size-lt, size-le}
use lib.Ieee.Exact.{HasValue, units_val}
use lib.Ieee.Nearest.{closest, closest_same}
use Rattle.floats.proofs.Closest.{Within, closest_within}

pub size_is : (p n : ℕ) → 2 ^ p ≤ n → n < 2 ^ suc p → size n ≡ suc p
size_is p n lo hi =
    le_antisymm (size-le n (suc p) hi) (lt_of_not-le (λ (g : size n ≤ p). not-le_of_lt (lt_of_lt_of_le (size-lt n) (pow_mono g)) lo))

pub is_number : (y : Float) (a c : ℕ) → HasValue y false a c → T (not (is_nan y))
unfolding is_nan
is_number nan a c v = absurd v
is_number (inf s) a c v = absurd v
is_number (fin s m e) a c v = tt

-- ---- num / den, from 2 ^ 52 up to 2 ^ 53, rounded
module _ (num den : ℕ) (dp : 0 < den) (lo : 2 ^ 52 * den ≤ num) (hi : num + den ≤ 2 ^ 53 * den) where
  size-at : size (num * 2 ^ 1074 / den) ≡ 1127
  size-at =
      size_is 1126 (num * 2 ^ 1074 / den) ((le-div_iff_mul-le dp).1 (low (2 ^ 1074) (2 ^ 1126) (pow-add 2 52 1074)))
      ((div-lt_iff_lt-mul dp).1 (top (2 ^ 1074) (2 ^ 1127) (pow-add 2 53 1074) (pow_pos 1074)))
    where
      low : (r k : ℕ) → k ≡ 2 ^ 52 * r → k * den ≤ num * r
      low r k e = omega (arith, mul-le-mul_right r lo, ap (λ (z : ℕ). z * den) e)

      top : (r k : ℕ) → k ≡ 2 ^ 53 * r → 0 < r → num * r < k * den
      top r k e p = omega (arith, mul-le-mul_right r hi, ap (λ (z : ℕ). z * den) e, mul-pos dp p)

  pub q : ℕ
  q = closest num den

  same : closest (num * 2 ^ 1074) (den * 2 ^ 1074) ≡ closest num den
  same = closest_same (num * 2 ^ 1074) (den * 2 ^ 1074) num den (mul-pos dp (pow_pos 1074)) dp (turn (2 ^ 1074))
    where
      turn : (r : ℕ) → num * r * den ≡ num * (den * r)
      turn r = omega arith

  is : round binary64 false num den ≡ units binary64 false q 1074
  unfolding q
  is =
      round_is binary64 false num den
      ∙ ap (λ (k : ℕ). core binary64 false (num * 2 ^ 1074) den (k - 53)) size-at
      ∙ ap (λ (z : ℕ). units binary64 false z 1074) same

  pub near : Within (q * den) num den
  unfolding q
  near = closest_within num den dp

  pub at_least : 2 ^ 52 ≤ q
  at_least = half (le_of_mul-le-mul_right {k = den} (omega (arith, near.1, lo)) dp)
    where
      half : 2 ^ 53 ≤ 2 * q + 1 → 2 ^ 52 ≤ q
      half h = omega arith

  pub at_most : q < 2 ^ 53
  at_most = half (lt_of_mul-lt-mul_right den (omega (arith, near.0, hi, dp)))
    where
      half : 2 * q < 2 ^ 54 → q < 2 ^ 53
      half h = omega arith

  pub value : HasValue (round binary64 false num den) false (q * 2 ^ 1074) (2 ^ 1074)
  value =
      subst (λ (y : Float). HasValue y false (q * 2 ^ 1074) (2 ^ 1074)) (sym is)
      (units_val binary64 false q 1074 (lt_of_lt_of_le (shl_lt 53 1074 at_most) (pow_mono {i = 53 + 1074} {j = 1074 + 1024} (lit≤ tt))))

-- ---- its bits
pub bits_is : (y : Float) (q : ℕ) → HasValue y false (q * 2 ^ 1074) (2 ^ 1074) → 2 ^ 52 ≤ q → q < 2 ^ 53 → to_bits binary64 y ≡ 1074 * 2 ^ 52 + q
unfolding to_bits
bits_is nan q v lo hi = absurd v
bits_is (inf s) q v lo hi = absurd v
bits_is (fin true m e) q v lo hi = absurd (true≢false v.0)
bits_is (fin false m e) q v lo hi =
    let w : m * up e * 2 ^ 1074 / down e ≡ q * 2 ^ 1074 = ap (λ (x : ℕ). x / down e) v.1 ∙ mul-div_cancel (q * 2 ^ 1074) (down_pos e) in
    let z : size (q * 2 ^ 1074) ≡ 1127 = size_is 1126 (q * 2 ^ 1074) (low (2 ^ 1074) (2 ^ 1126) (pow-add 2 52 1074)) (top (2 ^ 1074) (2 ^ 1127) (pow-add 2 53 1074) (pow_pos 1074)) in
    ap (λ (x : ℕ). 0 + (size x - 53) * 2 ^ 52 + x / 2 ^ (size x - 53)) w
    ∙ ap (λ (k : ℕ). 0 + (k - 53) * 2 ^ 52 + q * 2 ^ 1074 / 2 ^ (k - 53)) z
    ∙ ap (λ (x : ℕ). 0 + 1074 * 2 ^ 52 + x) (mul-div_cancel q (pow_pos 1074))
  where
    low : (r k : ℕ) → k ≡ 2 ^ 52 * r → k ≤ q * r
    low r k e = omega (arith, mul-le-mul_right r lo)

    top : (r k : ℕ) → k ≡ 2 ^ 53 * r → 0 < r → q * r < k
    top r k e p = omega (arith, mul-lt-mul_of_pos_right hi p)
