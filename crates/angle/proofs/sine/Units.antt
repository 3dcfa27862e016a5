-- An angle's size in D-ths; from a half on it is a whole number of 2 ^ -24ths. Assumes nothing.
use Rattle.std.proofs.Common.{◌≡◌, ℕ, ◌+◌, ◌*◌, ◌/◌, ◌^◌, ◌<◌, ◌≤◌, Bool, T, ◌⊎◌, ℤ, nat_abs, sym, refl, ap, ◌∙◌, subst, inl, inr, mul-le-mul_right, div-lt_iff_lt-mul, lt_of_mul-lt-mul_right, mul-lt-mul_of_pos_right, mul-div_cancel, arith, lit<}
use native.Mathlib.Nat.{div-le_of_le-mul, lt-div-mul-add}
use lib.Ieee.{fin, binary32, up, down, fits}
use lib.Ieee.Fits.{down_pos}
use Rattle.floats.proofs.Powers.{on_grid, shallow}
use Rattle.angle.specs.Meaning.{D, parts}
use Rattle.angle.proofs.Signs.{size}

-- a 2 ^ -46th, in D-ths
unfoldable pub step : ℕ
step = 2 ^ 103

pub D-is : D ≡ 0x4000_0000_0000 * step
unfolding D step
D-is = refl

-- ---- an angle of a / d
module _ (a d : ℕ) (dp : 0 < d) where
  pub kept : a ≤ 26 * d → a * D / d ≤ 26 * D
  kept h = div-le_of_le-mul d (omega (arith, mul-le-mul_right D h))

pub size_is : (s : Bool) (m : ℕ) (e : ℤ) → nat_abs (parts (fin s m e)) ≡ m * up e * D / down e
unfolding parts
size_is s m e = size s (m * up e * D / down e)

-- the angle is a multiple of 2 ^ -24, or below a half
abbrev Grid : ℕ → ℕ → Type 0
Grid a d = ((c : ℕ) × (a * 2 ^ 24 ≡ c * d)) ⊎ (a * 2 ^ 1 < d)

-- ---- either way in D-ths
module _ (a d : ℕ) (dp : 0 < d) (l : a ≤ 26 * d) where
  exactly : (c : ℕ) → a * 2 ^ 24 ≡ c * d → a * D / d ≡ c * 2 ^ 22 * step
  unfolding D step
  exactly c e = ap (λ (z : ℕ). z / d) (turn (2 ^ 125) (2 ^ 149) (2 ^ 103) refl refl) ∙ mul-div_cancel (c * 2 ^ 22 * 2 ^ 103) dp
    where
      turn : (p q r : ℕ) → q ≡ 2 ^ 24 * p → p ≡ 2 ^ 22 * r → a * q ≡ c * 2 ^ 22 * r * d
      turn p q r f g = omega (arith, ap (λ (z : ℕ). a * z) f, ap (λ (z : ℕ). z * p) e, ap (λ (z : ℕ). c * d * z) g)

  -- below a half
  under : a * 2 ^ 1 < d → a * D / d < 2 ^ 45 * step
  under h = (div-lt_iff_lt-mul dp).1 (subst (λ (z : ℕ). a * z < 2 ^ 45 * step * d) (sym D-is) (go step h (unfold step in lit< tt)))
    where
      go : (r : ℕ) → a * 2 ^ 1 < d → 0 < r → a * (0x4000_0000_0000 * r) < 2 ^ 45 * r * d
      go r h p = omega (arith, mul-lt-mul_of_pos_right h p)

-- which of the two an f32 is
pub which : (s : Bool) (m : ℕ) (e : ℤ) → T (fits binary32 (fin s m e)) → m * up e ≤ 26 * down e → ((c : ℕ) × (m * up e * D / down e ≡ c * 2 ^ 22 * step)) ⊎ (m * up e * D / down e < 2 ^ 45 * step)
which s m e f l = go (on_grid 24 1 s m e refl f)
  where
    go : Grid (m * up e) (down e) → ((c : ℕ) × (m * up e * D / down e ≡ c * 2 ^ 22 * step)) ⊎ (m * up e * D / down e < 2 ^ 45 * step)
    go (inl (c, g)) = inl (c, exactly (m * up e) (down e) (down_pos e) l c g)
    go (inr h) = inr (under (m * up e) (down e) (down_pos e) l h)

pub inside : (s : Bool) (m : ℕ) (e : ℤ) → T (fits binary32 (fin s m e)) → m * up e * D / down e ≤ 26 * D → m * up e ≤ 26 * down e
inside s m e f h = few-parts (m * up e) (down e) (down_pos e) (unfold D in shallow binary32 s m e f) h
  where
    few-parts : (a d : ℕ) → 0 < d → d ≤ D → a * D / d ≤ 26 * D → a ≤ 26 * d
    few-parts a d p s h = tight (lt_of_mul-lt-mul_right D (omega (arith, lt-div-mul-add {a = a * D} p, mul-le-mul_right d h)))
      where
        tight : a < 26 * d + 1 → a ≤ 26 * d
        tight h = omega arith
