-- Rounding to f32 moves a fraction below 256 by half of 2 ^ -16 at most, since its last digit is 2 ^ -16 or less. Products, sums and cuts
-- of floats follow from it. A float is counted in 2 ^ -149, the smallest one, of which 2 ^ 133 make that digit. Assumes nothing.
use mathlib.Core.Path.{◌≡◌, refl, ap, subst}
use mathlib.Core.Bool.{true, false, true≢false}
use Prim.Native.Nat.{ℕ, ◌+◌, ◌-◌, ◌*◌, ◌/◌, ◌^◌, ◌≤◌, ◌<◌, min}
use native.Mathlib.Nat.{lt_of_lt_of_le, lt_of_mul-lt-mul_right, mul-pos, mul-le-mul_right, div-lt_iff_lt-mul}
use native.Mathlib.Omega.{arith}
use lib.Dec.{lit≤}
use lib.Pow.{pow_pos, pow_mono}
use lib.Ieee.{Float, nan, inf, fin, binary32, up, down, size, round, add, mul, to_unsigned}
use lib.Ieee.Fits.{down_pos}
use lib.Ieee.Digits.{size-le}
use lib.Ieee.Exact.{HasValue}
use lib.Ieee.Nearest.{div_same}
use lib.Ieee.Order.{drop, kept}
use lib.Ieee.Scale.{grid, round_val, round_same}
use Rattle.floats.specs.Whole.{as_u8}
use Rattle.floats.proofs.Closest.{Within, closest_within, wider}

-- ---- a fraction rounded

-- The float y is g / 2 ^ 149, and within half of 2 ^ -16 of n / d.
pub record Rounded (n d : ℕ) (y : Float) : Type 0 where
  pub g : ℕ
  pub value : HasValue y false g (2 ^ 149)
  pub near : Within (g * d) (n * 2 ^ 149) (d * 2 ^ 133)

module _ (n d : ℕ) (D : 0 < d) (h : n < 256 * d) where
  scaled : (l k : ℕ) → k ≡ 256 * l → 0 < l → n * l < k * d
  scaled l k e p = omega (arith, mul-le-mul_right l h, ap (λ (z : ℕ). z * d) e)

  few : drop 24 (n * 2 ^ 149) d ≤ 133
  few = less (size (n * 2 ^ 149 / d)) (size-le (n * 2 ^ 149 / d) 157 ((div-lt_iff_lt-mul D).1 (scaled (2 ^ 149) (2 ^ 157) refl (pow_pos 149))))
    where
      less : (z : ℕ) → z ≤ 157 → z - 24 ≤ 133
      less z g = omega arith

  near_grid : Within (grid binary32 n d * d) (n * 2 ^ 149) (d * 2 ^ 133)
  near_grid =
      let k = drop 24 (n * 2 ^ 149) d in
      wider (grid binary32 n d * d) (n * 2 ^ 149) (d * 2 ^ k) (d * 2 ^ 133) (more (2 ^ k) (2 ^ 133) (pow_mono few))
      (subst (λ (x : ℕ). Within x (n * 2 ^ 149) (d * 2 ^ k)) (turn (kept 24 (n * 2 ^ 149) d) (2 ^ k)) (closest_within (n * 2 ^ 149) (d * 2 ^ k) (mul-pos D (pow_pos k))))
    where
      more : (x y : ℕ) → x ≤ y → d * x ≤ d * y
      more x y g = omega (arith, mul-le-mul_right d g)

      turn : (q x : ℕ) → q * (d * x) ≡ q * x * d
      turn q x = omega arith

  small : (g l u : ℕ) → l ≡ 65536 * u → 0 < u → Within (g * d) (n * l) (d * u) → g < 512 * l
  small g l u e p w = lt_of_mul-lt-mul_right d (omega (arith, w.0, scaled l (256 * l) refl (omega arith), ap (λ (z : ℕ). z * d) e, mul-pos D p))

  rounded : Rounded n d (round binary32 false n d)
  rounded =
      let g = grid binary32 n d in
      record {
        g = g;
        value = round_val binary32 n d (lt_of_lt_of_le (small g (2 ^ 149) (2 ^ 133) refl (pow_pos 133) near_grid) (lit≤ tt));
        near = near_grid;
      }

-- ---- products, sums and cuts of floats by the fractions that they are

product_is :
    (x y : Float) (a b c d : ℕ) → 0 < b → 0 < d → HasValue x false a b → HasValue y false c d →
    mul binary32 x y ≡ round binary32 false (a * c) (b * d)
unfolding mul
product_is nan y a b c d B D v w = absurd v
product_is (inf s) y a b c d B D v w = absurd v
product_is (fin true m e) y a b c d B D v w = absurd (true≢false v.0)
product_is (fin false m e) nan a b c d B D v w = absurd w
product_is (fin false m e) (inf s) a b c d B D v w = absurd w
product_is (fin false m e) (fin true n f) a b c d B D v w = absurd (true≢false w.0)
product_is (fin false m e) (fin false n f) a b c d B D v w =
    round_same binary32 false (m * up e * (n * up f)) (down e * down f) (a * c) (b * d) (mul-pos (down_pos e) (down_pos f)) (mul-pos B D)
    (cross (m * up e) (down e) (n * up f) (down f) v.1 w.1)
  where
    cross : (x s y t : ℕ) → x * b ≡ a * s → y * d ≡ c * t → x * y * (b * d) ≡ a * c * (s * t)
    cross x s y t p q = omega (arith, ap (λ (z : ℕ). z * (y * d)) p, ap (λ (z : ℕ). a * s * z) q)

sum_is :
    (x y : Float) (a b d : ℕ) → 0 < d → HasValue x false a d → HasValue y false b d →
    add binary32 x y ≡ round binary32 false (a + b) d
unfolding add
sum_is nan y a b d D v w = absurd v
sum_is (inf s) y a b d D v w = absurd v
sum_is (fin true m e) y a b d D v w = absurd (true≢false v.0)
sum_is (fin false m e) nan a b d D v w = absurd w
sum_is (fin false m e) (inf s) a b d D v w = absurd w
sum_is (fin false m e) (fin true n f) a b d D v w = absurd (true≢false w.0)
sum_is (fin false m e) (fin false n f) a b d D v w =
    round_same binary32 false (m * up e * down f + n * up f * down e) (down e * down f) (a + b) d (mul-pos (down_pos e) (down_pos f)) D
    (cross (m * up e) (down e) (n * up f) (down f) v.1 w.1)
  where
    cross : (x s y t : ℕ) → x * d ≡ a * s → y * d ≡ b * t → (x * t + y * s) * d ≡ (a + b) * (s * t)
    cross x s y t p q = omega (arith, ap (λ (z : ℕ). z * t) p, ap (λ (z : ℕ). z * s) q)

pub product :
    (x y : Float) (a b c d : ℕ) → 0 < b → 0 < d → HasValue x false a b → HasValue y false c d → a * c < 256 * (b * d) →
    Rounded (a * c) (b * d) (mul binary32 x y)
product x y a b c d B D v w h = rw (product_is x y a b c d B D v w) (rounded (a * c) (b * d) (mul-pos B D) h)

pub sum :
    (x y : Float) (a b d : ℕ) → 0 < d → HasValue x false a d → HasValue y false b d → a + b < 256 * d →
    Rounded (a + b) d (add binary32 x y)
sum x y a b d D v w h = rw (sum_is x y a b d D v w) (rounded (a + b) d D h)

pub cut : (x : Float) (a d : ℕ) → 0 < d → HasValue x false a d → as_u8 x ≡ min (a / d) 255
unfolding to_unsigned
cut nan a d D v = absurd v
cut (inf s) a d D v = absurd v
cut (fin true m e) a d D v = absurd (true≢false v.0)
cut (fin false m e) a d D v = ap (λ (z : ℕ). min z 255) (div_same (m * up e) (down e) a d (down_pos e) D v.1)
