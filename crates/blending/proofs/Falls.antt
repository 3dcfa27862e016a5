-- Rule 1 gives the whole part of the blend without rounding, or one less where that is whole: all of its roundings together move it by
-- less than a 255th. The factors are computed for every alpha, and the rest follows from Errors. Assumes nothing.
use mathlib.Core.Path.{◌≡◌, refl, sym, subst}
use mathlib.Core.Bool.{Bool, true, false, ◌&&◌}
use mathlib.Core.Logic.{inl, inr}
use Prim.Native.Nat.{ℕ, zero, suc, ◌+◌, ◌-◌, ◌*◌, ◌/◌, ◌^◌, ◌≤◌, ◌<◌, min}
use native.Mathlib.Nat.{eq-or-lt_of_le, le_of_suc-le-suc, mul-le-mul_right, le_of_mul-le-mul_right, lt_of_mul-lt-mul_right, div-mul-le_self, lt-div-mul-add}
use native.Mathlib.Omega.{arith}
use lib.Dec.{T, leb, eqb, leb→le, eqb→eq, lit<}
use lib.Pow.{pow_pos}
use lib.Ieee.{Float, nan, inf, fin, binary32, up, down, add, sub, mul, div, of_int}
use lib.Ieee.Fits.{and_l, and_r}
use lib.Ieee.Exact.{HasValue}
use Rattle.floats.proofs.Closest.{Within}
use Rattle.blending.specs.Blend.{channel, factor, others, rule1, mix}
use Rattle.blending.proofs.Laws.{total-le}
use Rattle.blending.proofs.Held.{channel-value}
use Rattle.blending.proofs.Errors.{Rounded, product, sum, cut}

-- ---- the two factors, in 2 ^ -32

-- The float is p / 2 ^ 32, and within 2 ^ -16 / 255 of n / 255.
record Share (n : ℕ) (x : Float) : Type 0 where
  p : ℕ
  value : HasValue x false p 0x1_0000_0000
  high : p * 255 ≤ n * 0x1_0000_0000 + 0x1_0000
  low : n * 0x1_0000_0000 ≤ p * 255 + 0x1_0000

-- The same as a test, and the test of both factors of every alpha.
unfoldable near : ℕ → Float → Bool
near n nan = false
near n (inf s) = false
near n (fin true m e) = false
near n (fin false m e) =
    let p = m * up e * 0x1_0000_0000 / down e in
    eqb (m * up e * 0x1_0000_0000) (p * down e) && leb (p * 255) (n * 0x1_0000_0000 + 0x1_0000) && leb (n * 0x1_0000_0000) (p * 255 + 0x1_0000)

unfoldable both : ℕ → Bool
both a = near a (factor a) && near (255 - a) (others a)

unfoldable every : ℕ → Bool
every zero = true
every (suc n) = both n && every n

all : T (every 256)
unfolding every both near factor others add sub div of_int
all = tt

at : (n k : ℕ) → T (every n) → k < n → T (both k)
unfolding every
at zero k t h = absurd (none k h)
  where
    none : (k : ℕ) → k < 0 → ⊥
    none k h = omega arith
at (suc n) k t h =
    elim (eq-or-lt_of_le (le_of_suc-le-suc h)) [
      | inl e ↦ subst (λ (x : ℕ). T (both x)) (sym e) (and_l (both n) (every n) t)
      | inr l ↦ at n k (and_r (both n) (every n) t) l
    ]

share : (n : ℕ) (x : Float) → T (near n x) → Share n x
unfolding near
share n nan t = absurd t
share n (inf s) t = absurd t
share n (fin true m e) t = absurd t
share n (fin false m e) t =
    let p = m * up e * 0x1_0000_0000 / down e in
    let u = eqb (m * up e * 0x1_0000_0000) (p * down e) in
    let v = leb (p * 255) (n * 0x1_0000_0000 + 0x1_0000) in
    let w = leb (n * 0x1_0000_0000) (p * 255 + 0x1_0000) in
    record {
      p = p;
      value = (refl, eqb→eq (m * up e * 0x1_0000_0000) (p * down e) (and_l u v (and_l (u && v) w t)));
      high = leb→le (p * 255) (n * 0x1_0000_0000 + 0x1_0000) (and_r u v (and_l (u && v) w t));
      low = leb→le (n * 0x1_0000_0000) (p * 255 + 0x1_0000) (and_r (u && v) w t);
    }

shares : (a : ℕ) → a < 256 → Share a (factor a) × Share (255 - a) (others a)
unfolding both
shares a h =
    let t = at 256 a all h in
    (share a (factor a) (and_l (near a (factor a)) (near (255 - a) (others a)) t), share (255 - a) (others a) (and_r (near a (factor a)) (near (255 - a) (others a)) t))

-- ---- the errors added up

-- c*a + bg*(255-a), of which a 255th is the blend without rounding
abbrev pub total : ℕ → ℕ → ℕ → ℕ
total a c bg = c * a + bg * (255 - a)

-- The shares p of a and q of o, times c and b and added.
module _ (c b a o p q : ℕ) (hc : c < 256) (hb : b < 256) where
  top :
      p * 255 ≤ a * 0x1_0000_0000 + 0x1_0000 → q * 255 ≤ o * 0x1_0000_0000 + 0x1_0000 →
      (c * p + b * q) * 255 ≤ (c * a + b * o) * 0x1_0000_0000 + 510 * 0x1_0000
  top h k = omega (arith, mul-le-mul_right c h, mul-le-mul_right b k)

  bottom :
      a * 0x1_0000_0000 ≤ p * 255 + 0x1_0000 → o * 0x1_0000_0000 ≤ q * 255 + 0x1_0000 →
      (c * a + b * o) * 0x1_0000_0000 ≤ (c * p + b * q) * 255 + 510 * 0x1_0000
  bottom h k = omega (arith, mul-le-mul_right c h, mul-le-mul_right b k)

-- The whole part of k / l, where k / l is within a 255th of n / 255.
whole_part :
    (k l n : ℕ) → 0 < l → k * 255 < (n + 1) * l → n * l < k * 255 + l →
    (k / l * 255 ≤ n) × (n ≤ k / l * 255 + 255)
whole_part k l n L hi lo = go (k / l) (div-mul-le_self k l) (lt-div-mul-add L)
  where
    go : (q : ℕ) → q * l ≤ k → k < q * l + l → (q * 255 ≤ n) × (n ≤ q * 255 + 255)
    go q h g =
        let x : q * 255 < n + 1 = lt_of_mul-lt-mul_right l (omega arith) in
        let y : n < q * 255 + 256 = lt_of_mul-lt-mul_right l (omega arith) in
        (omega arith, omega arith)

-- x and y are the two products in 2 ^ -32, and n is the total. In 2 ^ -149, of which 0x1_0000 * u make 1, the products are rounded to g and h,
-- and their sum to k.
module _
    (x y n g h u : ℕ) (U : 0 < u) (most : n ≤ 65025)
    (high : (x + y) * 255 ≤ n * 0x1_0000_0000 + 510 * 0x1_0000) (low : n * 0x1_0000_0000 ≤ (x + y) * 255 + 510 * 0x1_0000)
    (G : Within (g * 0x1_0000_0000) (x * (0x1_0000 * u)) (0x1_0000_0000 * u)) (H : Within (h * 0x1_0000_0000) (y * (0x1_0000 * u)) (0x1_0000_0000 * u)) where
  in_reach : g + h < 256 * (0x1_0000 * u)
  in_reach = omega (arith, G.0, H.0, mul-le-mul_right u high, mul-le-mul_right u most)

  module _ (k : ℕ) (K : Within (k * (0x1_0000 * u)) ((g + h) * (0x1_0000 * u)) (0x1_0000 * u * u)) where
    sum_high : k * 2 ≤ (g + h) * 2 + u
    sum_high = le_of_mul-le-mul_right {k = 0x1_0000 * u} (omega (arith, K.0)) (omega arith)

    sum_low : (g + h) * 2 ≤ k * 2 + u
    sum_low = le_of_mul-le-mul_right {k = 0x1_0000 * u} (omega (arith, K.1)) (omega arith)

    below : k * 255 < (n + 1) * (0x1_0000 * u)
    below = omega (arith, G.0, H.0, sum_high, mul-le-mul_right u high)

    above : n * (0x1_0000 * u) < k * 255 + 0x1_0000 * u
    above = omega (arith, G.1, H.1, sum_low, mul-le-mul_right u low)

    within : (k / (0x1_0000 * u) * 255 ≤ n) × (n ≤ k / (0x1_0000 * u) * 255 + 255)
    within = whole_part k (0x1_0000 * u) n (omega arith) below above

-- ---- the blend

scaled : (c n : ℕ) (x : Float) → c < 256 → n ≤ 255 → (s : Share n x) → Rounded (c * s.p) 0x1_0000_0000 (mul binary32 (channel c) x)
scaled c n x hc hn s = product (channel c) x c 1 s.p 0x1_0000_0000 (lit< tt) (lit< tt) (channel-value c (omega arith)) s.value (in_range s.p s.high)
  where
    in_range : (p : ℕ) → p * 255 ≤ n * 0x1_0000_0000 + 0x1_0000 → c * p < 256 * 0x1_0000_0000
    in_range p h = omega (arith, mul-le-mul_right p (le_of_suc-le-suc hc))

not_capped : (x q n : ℕ) → n ≤ 65025 → x ≡ min q 255 → (q * 255 ≤ n) × (n ≤ q * 255 + 255) → (x * 255 ≤ n) × (n ≤ x * 255 + 255)
not_capped x q n h e w = (omega (arith, w.0), omega (arith, w.0, w.1))

-- The whole part of the total's 255th, or one less where that is whole.
pub falls :
    (a c bg : ℕ) → a < 256 → c < 256 → bg < 256 →
    (mix rule1 a c bg * 255 ≤ total a c bg) × (total a c bg ≤ mix rule1 a c bg * 255 + 255)
unfolding mix
falls a c bg ha hc hb =
    let s = shares a ha in
    let p = s.0.p in
    let q = s.1.p in
    let n = total a c bg in
    let f = total-le a c bg ha hc hb in
    let high = top c bg a (255 - a) p q hc hb s.0.high s.1.high in
    let low = bottom c bg a (255 - a) p q hc hb s.0.low s.1.low in
    let u = mul binary32 (channel c) (factor a) in
    let v = mul binary32 (channel bg) (others a) in
    let x = scaled c a (factor a) hc (le_of_suc-le-suc ha) s.0 in
    let y = scaled bg (255 - a) (others a) hb (omega arith) s.1 in
    let L = pow_pos 149 in
    let U = pow_pos 133 in
    let z = sum u v x.g y.g (2 ^ 149) L x.value y.value (in_reach (c * p) (bg * q) n x.g y.g (2 ^ 133) U f high low x.near y.near) in
    not_capped (mix rule1 a c bg) (z.g / 2 ^ 149) n f (cut (add binary32 u v) z.g (2 ^ 149) L z.value)
    (within (c * p) (bg * q) n x.g y.g (2 ^ 133) U f high low x.near y.near z.g z.near)
