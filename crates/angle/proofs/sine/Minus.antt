-- An f32's minus is 2 ^ 31 in its bits, and what is no NaN has one. Assumes nothing.
use Rattle.std.proofs.Common.{◌≡◌, ℕ, zero, suc, ◌+◌, ◌-◌, ◌*◌, ◌/◌, ◌%◌, ◌^◌, ◌<◌, ◌≤◌, Bool, true, false, cond, not, T, eqb, sym, refl, ap, ◌∙◌, subst, arith, le-ltb}
use lib.Ieee.{Float, nan, inf, fin, binary32, binary64, up, down, size, neg, fits, is_nan, of_bits, to_bits, nan_bits}
use lib.Ieee.Bits.{to_bits-lt, of_bits-to_bits, nan_bits_is, nan_bits_above}
use lib.Ieee.Fits.{cond-fits, neg-fits}
use Rattle.floats.proofs.Range.{no}
use Rattle.angle.specs.Sine.{kept_of, narrow_of}
use Rattle.angle.proofs.sine.Narrowed.{Whole}

abbrev pub Number : Float → Type 0
Number x = T (not (is_nan x))

-- ---- numbers
pub either : (b : Bool) (x y : Float) → Number x → Number y → Number (cond b x y)
either true x y h k = h
either false x y h k = k

pub minus_number : (x : Float) → Number x → Number (neg x)
unfolding neg is_nan
minus_number nan h = h
minus_number (inf s) h = tt
minus_number (fin s m e) h = tt

pub not_nan : (n : ℕ) → n ≤ 0x4000_0000 → T (not (nan_bits binary32 n))
not_nan n h = no (nan_bits_above binary32 n ∙ le-ltb 0x7F80_0000 (n % 0x8000_0000) (omega arith))

pub narrow_few : (b : ℕ) → b < 0x4000_0000_0000_0000 → kept_of b - 0x1_C000_0000 ≤ 0x4000_0000
narrow_few b h = omega arith

pub narrow_number : (d : Float) → Whole d → Number (narrow_of d)
unfolding narrow_of
narrow_number d w = let n = kept_of (to_bits binary64 d) - 0x1_C000_0000 in subst (λ (b : Bool). T (not b)) (nan_bits_is binary32 n) (not_nan n (narrow_few (to_bits binary64 d) w.1))

-- ---- the bits
other : (y : Float) → T (fits binary32 y) → Number y → (to_bits binary32 y + 0x8000_0000) % 0x1_0000_0000 ≡ to_bits binary32 (neg y)
unfolding to_bits neg is_nan
other nan f n = absurd n
other (inf true) f n = refl
other (inf false) f n = refl
other (fin s m e) f n =
    let v = m * up e * 2 ^ 149 / down e in
    let k = size v - 24 in
    go s (k * 0x80_0000) (v / 2 ^ k) (to_bits-lt binary32 (fin true m e) (minus s f))
  where
    minus : (s : Bool) → T (fits binary32 (fin s m e)) → T (fits binary32 (fin true m e))
    minus true f = f
    minus false f = neg-fits binary32 (fin false m e) f

    go : (s : Bool) (a b : ℕ) → 0x8000_0000 + a + b < 0x1_0000_0000 → (cond s 0x8000_0000 0 + a + b + 0x8000_0000) % 0x1_0000_0000 ≡ cond (not s) 0x8000_0000 0 + a + b
    go true a b h = omega arith
    go false a b h = omega arith

-- a minus where n is odd
abbrev pub turned_by : ℕ → Float → Float
turned_by m y = cond (eqb m 0) y (neg y)

module _ (y : Float) (f : T (fits binary32 y)) (n : Number y) where
  by : (m : ℕ) → m < 2 → (to_bits binary32 y + m * 0x8000_0000) % 0x1_0000_0000 ≡ to_bits binary32 (turned_by m y)
  by zero h = plain (to_bits binary32 y) (to_bits-lt binary32 y f)
    where
      plain : (b : ℕ) → b < 0x1_0000_0000 → (b + 0 * 0x8000_0000) % 0x1_0000_0000 ≡ b
      plain b h = omega arith
  by (suc zero) h = other y f n
  by (suc (suc m)) h = absurd (none m h)
    where
      none : (m : ℕ) → suc (suc m) < 2 → ⊥
      none m h = omega arith

  module _ (b m : ℕ) (l : m < 2) (e : b ≡ (to_bits binary32 y + m * 0x8000_0000) % 0x1_0000_0000) where
    pub turned-is : of_bits binary32 b ≡ turned_by m y
    turned-is = ap (of_bits binary32) (e ∙ by m l) ∙ of_bits-to_bits binary32 (turned_by m y) (cond-fits binary32 (eqb m 0) y (neg y) f (neg-fits binary32 y f))

    pub turned-number : T (not (nan_bits binary32 b))
    turned-number = subst (λ (c : Bool). T (not c)) (sym (nan_bits_is binary32 b ∙ ap is_nan turned-is)) (either (eqb m 0) y (neg y) n (minus_number y n))
