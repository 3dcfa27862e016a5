-- The f32 that the rule makes of an f64 from 2 ^ -48 up to 2 by its bits lies within 2 ^ -23 of it. Assumes nothing.
use Rattle.std.proofs.Common.{◌≡◌, ℕ, suc, ◌+◌, ◌-◌, ◌*◌, ◌/◌, ◌%◌, ◌^◌, ◌<◌, ◌≤◌, Bool, true, false, cond, not, T, eqb, leb, ℤ, sym, refl, ap, ◌∙◌, subst, true≢false, lt_of_le_of_lt, lt_irrefl, mul-le-mul_right, mul_assoc, mul-le-mul_left, pow-suc, lt_of_not-le, le-div_iff_mul-le, div-mul-le_self, mul-div_cancel, arith, lit<, leb→le, pow_pos, pow_mono, pow-add, ne_eqb}
use native.Mathlib.Nat.{lt-div-mul-add}
use lib.Dec.{nleb→lt}
use lib.Ieee.{Float, nan, inf, fin, binary32, binary64, up, down, size, odd, of_fields, of_bits, to_bits}
use lib.Ieee.Fits.{down_pos, kept-lt}
use lib.Ieee.Digits.{size-lt, size-le, size_reaches}
use lib.Ieee.Exact.{HasValue, odd_sign}
use borrow.Author.Tests.{lt-leb}
use Rattle.angle.specs.Sine.{kept_of, narrow_of}
use Rattle.angle.proofs.sine.Doubles.{Near, E, tiny, Val}
use Rattle.angle.proofs.sine.Coefficients.{lift}

-- 2 ^ -23, in E-ths
unfoldable pub fine : ℕ
fine = 2 ^ 1051

pub E-fine : E ≡ 0x80_0000 * fine
unfolding E fine
E-fine = refl

pub record Narrowed (y : Float) (p : ℕ) : Type 0 where
  pub g : ℕ
  pub is : HasValue y false g (2 ^ 149)
  pub near : Near (g * lift) p fine

-- an f64 from 2 ^ -126 up to 2
abbrev pub Whole : Float → Type 0
Whole d = (0x3810_0000_0000_0000 ≤ to_bits binary64 d) × (to_bits binary64 d < 0x4000_0000_0000_0000)

-- ---- an f32 by its bits
read : (n x t : ℕ) → n ≡ suc x * 0x80_0000 + t → t < 0x80_0000 → suc x < 255 → HasValue (of_bits binary32 n) false ((0x80_0000 + t) * 2 ^ x) (2 ^ 149)
unfolding of_bits of_fields
read n x t e h k =
    let a : leb 0x8000_0000 n ≡ false = lt-leb 0x8000_0000 n (omega arith) in
    let b : n % 0x8000_0000 / 0x80_0000 ≡ suc x = omega arith in
    let c : n % 0x80_0000 ≡ t = omega arith in
    subst (λ (z : Bool). HasValue (of_fields binary32 z (n % 0x8000_0000 / 0x80_0000) (n % 0x80_0000)) false ((0x80_0000 + t) * 2 ^ x) (2 ^ 149)) (sym a)
    (subst (λ (z : ℕ). HasValue (of_fields binary32 false z (n % 0x80_0000)) false ((0x80_0000 + t) * 2 ^ x) (2 ^ 149)) (sym b)
    (subst (λ (z : ℕ). HasValue (of_fields binary32 false (suc x) z) false ((0x80_0000 + t) * 2 ^ x) (2 ^ 149)) (sym c)
    (subst (λ (z : Bool). HasValue (cond z (cond (eqb t 0) (inf false) nan) (odd 24 false (0x80_0000 + t) x 149)) false ((0x80_0000 + t) * 2 ^ x) (2 ^ 149))
    (sym (ne_eqb (suc x) 255 (λ (q : suc x ≡ 255). no x k q)))
    (odd_sign 24 false (0x80_0000 + t) x 149))))
  where
    no : (x : ℕ) → suc x < 255 → suc x ≡ 255 → ⊥
    no x a b = omega arith

pow_lt_back : (i p : ℕ) → 2 ^ i < 2 ^ p → i < p
pow_lt_back i p h = lt_of_not-le (λ (g : p ≤ i). lt_irrefl (2 ^ p) (lt_of_le_of_lt (pow_mono g) h))

-- ---- the f64's digits: p is q * 2 ^ k and less than 2 ^ k more
module _ (p : ℕ) (few : p < 2 * E) (enough : tiny ≤ p) where
  abbrev k : ℕ
  k = size p - 53

  abbrev U : ℕ
  U = 2 ^ k

  abbrev q : ℕ
  q = p / U

  k-few : k ≤ 1022
  unfolding E
  k-few = let s : size p ≤ 1075 = size-le p 1075 few in omega arith

  k-low : 974 ≤ k
  unfolding tiny
  k-low = let s : 1026 < size p = pow_lt_back 1026 (size p) (lt_of_le_of_lt enough (size-lt p)) in omega arith

  q-few : q < 0x20_0000_0000_0000
  q-few = kept-lt 53 p

  q-low : 0x10_0000_0000_0000 ≤ q
  q-low =
      (le-div_iff_mul-le (pow_pos k)).1
      (subst (λ (z : ℕ). z ≤ p) (pow-add 2 52 k) (size_reaches p (52 + k) (omega (arith, k-low))))

  p-lo : q * U ≤ p
  p-lo = div-mul-le_self p U

  p-hi : p < q * U + U
  p-hi = lt-div-mul-add {a = p} (pow_pos k)

  bits_of : (m : ℕ) (e : ℤ) → m * up e * 2 ^ 1074 ≡ p * down e → to_bits binary64 (fin false m e) ≡ k * 0x10_0000_0000_0000 + q
  unfolding to_bits
  bits_of m e v =
      ap (λ (x : ℕ). 0 + (size x - 53) * 0x10_0000_0000_0000 + x / 2 ^ (size x - 53)) (ap (λ (x : ℕ). x / down e) v ∙ mul-div_cancel p (down_pos e))
      ∙ plain (k * 0x10_0000_0000_0000) q
    where
      plain : (a q : ℕ) → 0 + a + q ≡ a + q
      plain a q = omega arith

  abbrev b : ℕ
  b = k * 0x10_0000_0000_0000 + q

  -- the digits that are kept
  abbrev r : ℕ
  r = (q + 0x1000_0000) / 0x2000_0000

  kept-is : kept_of b ≡ k * 0x80_0000 + r
  kept-is = split k q
    where
      split : (c i : ℕ) → (c * 0x10_0000_0000_0000 + i + 0x1000_0000) / 0x2000_0000 ≡ c * 0x80_0000 + (i + 0x1000_0000) / 0x2000_0000
      split c i = omega arith

  r-hi : r * 0x2000_0000 ≤ q + 0x1000_0000
  r-hi = omega arith

  r-lo : q ≤ r * 0x2000_0000 + 0x1000_0000
  r-lo = omega arith

  r-few : r ≤ 0x100_0000
  r-few = omega (arith, q-few)

  r-low : 0x80_0000 ≤ r
  r-low = omega (arith, q-low)

  U-few : 0x2000_0000 * U ≤ fine
  unfolding fine
  U-few = mul-le-mul_left 0x2000_0000 (pow_mono k-few)

  -- what is nearly p is nearly p
  by_digits : (g : ℕ) → g * lift ≡ r * (0x2000_0000 * U) → Near (g * lift) p fine
  by_digits g e = record {
    hi = go_hi (g * lift) q r U p fine e (mul-le-mul_right U r-hi) p-lo U-few;
    lo = go_lo (g * lift) q r U p fine e (mul-le-mul_right U r-lo) p-hi U-few;
  }
    where
      go_hi : (g q r u p f : ℕ) → g ≡ r * (0x2000_0000 * u) → r * 0x2000_0000 * u ≤ (q + 0x1000_0000) * u → q * u ≤ p → 0x2000_0000 * u ≤ f → g ≤ p + f
      go_hi g q r u p f e a b c = omega arith

      go_lo : (g q r u p f : ℕ) → g ≡ r * (0x2000_0000 * u) → q * u ≤ (r * 0x2000_0000 + 0x1000_0000) * u → p < q * u + u → 0x2000_0000 * u ≤ f → p ≤ g + f
      go_lo g q r u p f e a b c = omega arith

  abbrev n : ℕ
  n = k * 0x80_0000 + r - 0x1_C000_0000

  made : (g : ℕ) → HasValue (of_bits binary32 n) false g (2 ^ 149) → Near (g * lift) p fine → Narrowed (of_bits binary32 n) p
  made g v h = record { g = g; is = v; near = h }

  -- the f32's digits at the place of the f64's
  place : (c j : ℕ) → c ≡ 896 + j → r * 2 ^ j * lift ≡ r * (0x2000_0000 * 2 ^ c)
  unfolding lift
  place c j e = mul_assoc r (2 ^ j) (2 ^ 925) ∙ ap (λ (z : ℕ). r * z) (sym (pow-add 2 j 925) ∙ ap (λ (z : ℕ). 2 ^ z) (turn c j e) ∙ pow-add 2 29 c)
    where
      turn : (c j : ℕ) → c ≡ 896 + j → j + 925 ≡ 29 + c
      turn c j e = omega arith

  whole-digits : Narrowed (of_bits binary32 n) p
  whole-digits = both (leb 0x100_0000 r) (leb→le 0x100_0000 r) (nleb→lt 0x100_0000 r)
    where
      under : r < 0x100_0000 → Narrowed (of_bits binary32 n) p
      under i =
          let v = read n (k - 896) (r - 0x80_0000) (omega (arith, k-low, r-low)) (omega (arith, r-low)) (omega (arith, k-few, k-low)) in
          let s : 0x80_0000 + (r - 0x80_0000) ≡ r = omega (arith, r-low) in
          made (r * 2 ^ (k - 896)) (subst (λ (z : ℕ). HasValue (of_bits binary32 n) false (z * 2 ^ (k - 896)) (2 ^ 149)) s v) (by_digits (r * 2 ^ (k - 896)) (place k (k - 896) (omega (arith, k-low))))

      full : r ≡ 0x100_0000 → Narrowed (of_bits binary32 n) p
      full o =
          let v = read n (suc (k - 896)) 0 (omega (arith, k-low)) (lit< tt) (omega (arith, k-few, k-low)) in
          let s : 0x80_0000 * 2 ^ suc (k - 896) ≡ r * 2 ^ (k - 896) = twice (2 ^ (k - 896)) (2 ^ suc (k - 896)) (pow-suc 2 (k - 896)) in
          made (r * 2 ^ (k - 896)) (subst (λ (z : ℕ). HasValue (of_bits binary32 n) false z (2 ^ 149)) s v) (by_digits (r * 2 ^ (k - 896)) (place k (k - 896) (omega (arith, k-low))))
        where
          twice : (u w : ℕ) → w ≡ u * 2 → 0x80_0000 * w ≡ r * u
          twice u w e = omega (arith, ap (λ (z : ℕ). z * u) o)

      both : (c : Bool) → (T c → 0x100_0000 ≤ r) → (T (not c) → r < 0x100_0000) → Narrowed (of_bits binary32 n) p
      both true f g = let i = f tt in full (omega (arith, r-few))
      both false f g = under (g tt)

  b-whole : (0x3810_0000_0000_0000 ≤ b) × (b < 0x4000_0000_0000_0000)
  b-whole = (above k q k-low, room k q k-few q-few)
    where
      above : (c i : ℕ) → 974 ≤ c → 0x3810_0000_0000_0000 ≤ c * 0x10_0000_0000_0000 + i
      above c i h = omega arith

      room : (c i : ℕ) → c ≤ 1022 → i < 0x20_0000_0000_0000 → c * 0x10_0000_0000_0000 + i < 0x4000_0000_0000_0000
      room c i a b = omega arith

  bits_val : (d : Float) → Val d p → to_bits binary64 d ≡ b
  bits_val nan v = absurd v
  bits_val (inf s) v = absurd v
  bits_val (fin true m e) v = absurd (true≢false v.0)
  bits_val (fin false m e) v = bits_of m e v.1

  pub whole_bits : (d : Float) → Val d p → Whole d
  whole_bits d v = subst (λ (z : ℕ). (0x3810_0000_0000_0000 ≤ z) × (z < 0x4000_0000_0000_0000)) (sym (bits_val d v)) b-whole

  pub narrowed : (d : Float) → Val d p → Narrowed (narrow_of d) p
  unfolding narrow_of
  narrowed d v = subst (λ (z : ℕ). Narrowed (of_bits binary32 (z - 0x1_C000_0000)) p) (sym (ap kept_of (bits_val d v) ∙ kept-is)) whole-digits
