-- A float held to 0..255, and the whole number that the low bits of its sum with 2 ^ 23 show: the cut, or one more.
-- Such a sum has its last digit at 1, so that it is rounded to a whole number. Assumes nothing.
use mathlib.Core.Path.{◌≡◌, refl, sym, ap, subst, ◌∙◌}
use mathlib.Core.Bool.{Bool, true, false, not, cond, true≢false}
use Prim.Native.Nat.{ℕ, suc, ◌+◌, ◌-◌, ◌*◌, ◌/◌, ◌%◌, ◌^◌, ◌≤◌, ◌<◌, min, compare}
use native.Mathlib.Nat.{lt_of_lt_of_le, le-div_iff_mul-le, div-lt_iff_lt-mul, mul-pos, mul-one, mul_right_comm, lt_of_mul-lt-mul_right, le_of_mul-le-mul_right, mul-le-mul_right, mul-lt-mul_of_pos_right, mul-div-mul_right, mul-div_cancel, add-mul-div_right, zero-div}
use native.Mathlib.Omega.{arith}
use lib.Dec.{T, ltb, ltb→lt, nltb→le, lit≤, lit<}
use lib.Pow.{pow_pos, shl_lt}
use lib.IntN.{ℤ, pos}
use lib.Ieee.{Float, nan, inf, fin, binary32, up, down, size, nearest, units, round, add, lt, of_int, to_unsigned, to_bits, is_nan}
use lib.Ieee.Fits.{down_pos, core, nearest-le, round_is}
use lib.Ieee.Exact.{HasValue, units_val, round_exact}
use lib.Ieee.Nearest.{nearest-ge}
use Rattle.floats.specs.Size.{plus_zero}
use Rattle.floats.specs.Whole.{as_u8}
use Rattle.floats.proofs.Range.{yes, no}
use Rattle.floats.proofs.Ones.{size_is, is_number}
use Rattle.blending.specs.Inner.{most, raised, lowered}
use Rattle.blending.specs.Blend.{channel}

-- ---- held to 0..255

-- Not negative, and at most 255.
abbrev pub Byte : Float → Type 0
Byte nan = ⊥
Byte (inf s) = ⊥
Byte (fin true m e) = ⊥
Byte (fin false m e) = m * up e ≤ 255 * down e

-- What holding keeps: the float is a byte's, and is cut as x is.
abbrev pub Keeps : Float → Float → Type 0
Keeps x y = Byte y × (as_u8 y ≡ as_u8 x)

full : (n d : ℕ) → 0 < d → 255 * 1 * d ≤ n * 1 → 255 ≡ min (n / d) 255
full n d D h = go (n / d) ((le-div_iff_mul-le D).1 (omega arith))
  where
    go : (q : ℕ) → 255 ≤ q → 255 ≡ min q 255
    go q k = omega arith

lowered-keeps : (m : ℕ) (e : ℤ) → Keeps (fin false m e) (lowered (fin false m e))
unfolding lowered lt to_unsigned
lowered-keeps m e = go (ltb (m * up e * 1) (255 * 1 * down e)) (ltb→lt (m * up e * 1) (255 * 1 * down e)) (nltb→le (m * up e * 1) (255 * 1 * down e))
  where
    go :
        (b : Bool) → (T b → m * up e * 1 < 255 * 1 * down e) → (T (not b) → 255 * 1 * down e ≤ m * up e * 1) →
        Keeps (fin false m e) (cond b (fin false m e) most)
    go true f g = let h = f tt in (omega arith, refl)
    go false f g = (omega arith, full (m * up e) (down e) (down_pos e) (g tt))

nothing : (n d : ℕ) → n * 1 ≤ 0 * 1 * d → 0 ≡ min (n / d) 255
nothing n d h = ap (λ (x : ℕ). min x 255) (sym (ap (λ (x : ℕ). x / d) (zero n h) ∙ zero-div d))
  where
    zero : (n : ℕ) → n * 1 ≤ 0 * 1 * d → n ≡ 0
    zero n h = omega arith

pub held_keeps : (x : Float) → Keeps x (lowered (raised x))
unfolding raised lowered lt to_unsigned
held_keeps nan = (omega arith, refl)
held_keeps (inf true) = (omega arith, refl)
held_keeps (inf false) = (omega arith, refl)
held_keeps (fin true m e) = (omega arith, refl)
held_keeps (fin false m e) = go (ltb (0 * 1 * down e) (m * up e * 1)) (nltb→le (0 * 1 * down e) (m * up e * 1))
  where
    go : (b : Bool) → (T (not b) → m * up e * 1 ≤ 0 * 1 * down e) → Keeps (fin false m e) (lowered (cond b (fin false m e) plus_zero))
    go true g = lowered-keeps m e
    go false g = (omega arith, nothing (m * up e) (down e) (g tt))

-- ---- the sum with 2 ^ 23

-- A whole number, at most one above the cut.
pub record Near (q : ℕ) (y : Float) : Type 0 where
  pub r : ℕ
  pub low : q ≤ r
  pub high : r ≤ q + 1
  pub is : y ≡ units binary32 false (8388608 + r) 149

-- The fraction a / d with 2 ^ 23 added, in units of 1 / l.
module _ (a d l : ℕ) (D : 0 < d) (L : 0 < l) (h : a ≤ 255 * d) where
  at_least : 8388608 * l * (d * 1) ≤ (a * 1 + 8388608 * d) * l
  at_least = omega arith

  below : (a * 1 + 8388608 * d) * l < 16777216 * l * (d * 1)
  below = omega (arith, mul-le-mul_right l h, mul-pos D L)

  quotient : (a * 1 + 8388608 * d) * l / (d * 1 * l) ≡ a / d + 8388608
  quotient = mul-div-mul_right (a * 1 + 8388608 * d) (d * 1) L ∙ simp mul-one (add-mul-div_right a 8388608 D)

split : (n q : ℕ) → q + 8388608 ≤ n → n ≤ suc (q + 8388608) → (r : ℕ) × (q ≤ r) × (r ≤ q + 1) × (n ≡ 8388608 + r)
split n q lo hi = (n - 8388608, omega arith, omega arith, omega arith)

sum_near : (a d : ℕ) → 0 < d → a ≤ 255 * d → Near (a / d) (round binary32 false (a * 1 + 8388608 * d) (d * 1))
sum_near a d D h =
    let L = pow_pos 149 in
    let num = a * 1 + 8388608 * d in
    let n = num * 2 ^ 149 in
    let E : 0 < d * 1 = omega arith in
    let is : size (n / (d * 1)) ≡ 173 =
    size_is 172 (n / (d * 1)) ((le-div_iff_mul-le E).1 (at_least a d (2 ^ 149) D L h)) ((div-lt_iff_lt-mul E).1 (below a d (2 ^ 149) D L h)) in
    let o = compare (n % (d * 1 * 2 ^ 149) * 2) (d * 1 * 2 ^ 149) in
    let q = quotient a d (2 ^ 149) D L h in
    let s =
    split (nearest (n / (d * 1 * 2 ^ 149)) o) (a / d)
    (subst (λ (x : ℕ). x ≤ nearest (n / (d * 1 * 2 ^ 149)) o) q (nearest-ge (n / (d * 1 * 2 ^ 149)) o))
    (subst (λ (x : ℕ). nearest (n / (d * 1 * 2 ^ 149)) o ≤ suc x) q (nearest-le (n / (d * 1 * 2 ^ 149)) o)) in
    record {
      r = s.0;
      low = s.1;
      high = s.2;
      is =
          round_is binary32 false num (d * 1)
          ∙ ap (λ (k : ℕ). core binary32 false n (d * 1) (k - 24)) is
          ∙ ap (λ (x : ℕ). units binary32 false x 149) s.3;
    }

-- ---- its bits

bits_is : (y : Float) (n : ℕ) → HasValue y false (n * 2 ^ 149) (2 ^ 149) → 8388608 ≤ n → n < 16777216 → to_bits binary32 y ≡ 149 * 8388608 + n
unfolding to_bits
bits_is nan n v lo hi = absurd v
bits_is (inf s) n v lo hi = absurd v
bits_is (fin true m e) n v lo hi = absurd (true≢false v.0)
bits_is (fin false m e) n v lo hi =
    let w : m * up e * 2 ^ 149 / down e ≡ n * 2 ^ 149 = ap (λ (x : ℕ). x / down e) v.1 ∙ mul-div_cancel (n * 2 ^ 149) (down_pos e) in
    let z : size (n * 2 ^ 149) ≡ 173 = size_is 172 (n * 2 ^ 149) (mul-le-mul_right (2 ^ 149) lo) (mul-lt-mul_of_pos_right hi (pow_pos 149)) in
    ap (λ (x : ℕ). 0 + (size x - 24) * 8388608 + x / 2 ^ (size x - 24)) w
    ∙ ap (λ (k : ℕ). 0 + (k - 24) * 8388608 + n * 2 ^ 149 / 2 ^ (k - 24)) z
    ∙ ap (λ (x : ℕ). 149 * 8388608 + x) (mul-div_cancel n (pow_pos 149))

low_bits : (b r : ℕ) → b ≡ 149 * 8388608 + (8388608 + r) → r < 512 → b % 512 ≡ r
low_bits b r e h = omega arith

abbrev pub big : Float
big = fin false 1 (pos 23)

-- The low bits of the sum are the cut or one more.
abbrev pub shown : Float → ℕ
shown x = to_bits binary32 (add binary32 x big) % 512

pub record Shows (x : Float) : Type 0 where
  pub low : as_u8 x ≤ shown x
  pub high : shown x ≤ as_u8 x + 1
  pub number : T (not (is_nan (add binary32 x big)))

cut_is : (a d : ℕ) → 0 < d → a ≤ 255 * d → min (a / d) 255 ≡ a / d
cut_is a d D h = go (a / d) ((div-lt_iff_lt-mul D).1 (omega arith))
  where
    go : (q : ℕ) → q < 256 → min q 255 ≡ q
    go q k = omega arith

pub shows : (x : Float) → Byte x → Shows x
unfolding add to_unsigned
shows nan b = absurd b
shows (inf s) b = absurd b
shows (fin true m e) b = absurd b
shows (fin false m e) b =
    let D = down_pos e in
    let q = cut_is (m * up e) (down e) D b in
    let y = round binary32 false (m * up e * 1 + 8388608 * down e) (down e * 1) in
    let n = sum_near (m * up e) (down e) D b in
    let few : n.r < 512 = omega arith in
    let v : HasValue y false ((8388608 + n.r) * 2 ^ 149) (2 ^ 149) =
    rw n.is (units_val binary32 false (8388608 + n.r) 149 (lt_of_lt_of_le (shl_lt 24 149 (omega arith)) (lit≤ tt))) in
    let r = low_bits (to_bits binary32 y) n.r (bits_is y (8388608 + n.r) v (omega arith) (omega arith)) few in
    record { low = omega (arith, n.low); high = omega (arith, n.high); number = is_number y _ _ v }

-- ---- the test against the float of that number

pub channel-value : (n : ℕ) → n < 16777216 → HasValue (channel n) false n 1
unfolding of_int
channel-value n h = round_exact binary32 false n 1 n 149 (lit< tt) h (lt_of_lt_of_le (shl_lt 24 149 h) (lit≤ tt)) (sym (mul-one (n * 2 ^ 149)))

scale : (d p q n : ℕ) → p * 1 ≡ n * q → p * d ≡ n * d * q
scale d p q n e = ap (λ (x : ℕ). x * d) (sym (mul-one p) ∙ e) ∙ mul_right_comm n q d

-- Of a fraction a / d and the float z of a whole number n.
below-whole : (m : ℕ) (e : ℤ) (z : Float) (n : ℕ) → HasValue z false n 1 → lt (fin false m e) z ≡ true → m * up e < n * down e
unfolding lt
below-whole m e nan n v t = absurd v
below-whole m e (inf s) n v t = absurd v
below-whole m e (fin true p f) n v t = absurd (true≢false v.0)
below-whole m e (fin false p f) n v t =
    lt_of_mul-lt-mul_right (down f)
    (subst (λ (x : ℕ). m * up e * down f < x) (scale (down e) (p * up f) (down f) n v.1) (ltb→lt (m * up e * down f) (p * up f * down e) (yes t)))

not_below_whole : (m : ℕ) (e : ℤ) (z : Float) (n : ℕ) → HasValue z false n 1 → lt (fin false m e) z ≡ false → n * down e ≤ m * up e
unfolding lt
not_below_whole m e nan n v t = absurd v
not_below_whole m e (inf s) n v t = absurd v
not_below_whole m e (fin true p f) n v t = absurd (true≢false v.0)
not_below_whole m e (fin false p f) n v t =
    le_of_mul-le-mul_right
    (subst (λ (x : ℕ). x ≤ m * up e * down f) (scale (down e) (p * up f) (down f) n v.1) (nltb→le (m * up e * down f) (p * up f * down e) (no t)))
    (down_pos f)

-- The number shown is the cut, unless its float is above.
pub one_more : (x : Float) (n : ℕ) → Byte x → as_u8 x ≤ n → n ≤ as_u8 x + 1 → lt x (channel n) ≡ true → n ≡ as_u8 x + 1
unfolding to_unsigned
one_more nan n b lo hi t = absurd b
one_more (inf s) n b lo hi t = absurd b
one_more (fin true m e) n b lo hi t = absurd b
one_more (fin false m e) n b lo hi t =
    let q = cut_is (m * up e) (down e) (down_pos e) b in
    let l = (div-lt_iff_lt-mul (down_pos e)).1 (below-whole m e (channel n) n (channel-value n (omega arith)) t) in
    omega arith

pub the_same : (x : Float) (n : ℕ) → Byte x → as_u8 x ≤ n → n ≤ as_u8 x + 1 → lt x (channel n) ≡ false → n ≡ as_u8 x
unfolding to_unsigned
the_same nan n b lo hi t = absurd b
the_same (inf s) n b lo hi t = absurd b
the_same (fin true m e) n b lo hi t = absurd b
the_same (fin false m e) n b lo hi t =
    let q = cut_is (m * up e) (down e) (down_pos e) b in
    let l = (le-div_iff_mul-le (down_pos e)).1 (not_below_whole m e (channel n) n (channel-value n (omega arith)) t) in
    omega arith
