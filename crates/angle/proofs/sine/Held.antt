-- The size that the rule works with lies from 2 ^ -12 up to 26, whatever the angle, and between them it is the angle's own.
-- Assumes nothing.
use Rattle.std.proofs.Common.{◌≡◌, ℕ, ◌+◌, ◌*◌, ◌<◌, ◌≤◌, Bool, true, false, cond, not, T, ltb, ℤ, pos, negsuc, sym, refl, ap, ◌∙◌, subst, true≢false, le_of_lt, arith, lit≤, ltb-false, ltb-true, le-ltb, lt-ltb}
use lib.Ieee.{Float, nan, inf, fin, binary32, up, down, neg, lt, le, eq, of_bits, fits}
use lib.Ieee.Fits.{neg-fits}
use Rattle.floats.proofs.Range.{yes, le_yes, le_no}
use Rattle.angle.specs.Sine.{least, most, larger_of, smaller_of, size_of, tiny_of}

-- without its sign it is an f32 too
pub plain_fits : (s : Bool) (m : ℕ) (e : ℤ) → T (fits binary32 (fin s m e)) → T (fits binary32 (fin false m e))
unfolding neg
plain_fits false m e f = f
plain_fits true m e f = neg-fits binary32 (fin true m e) f

module _ (m : ℕ) (e : ℤ) where
  abbrev over : Bool
  over = ltb (1 * 1 * down e) (m * up e * 4096)

  abbrev held : Bool → Float
  held b = smaller_of (cond b (fin false m e) least) most

  size_by : (s : Bool) → size_of (fin s m e) ≡ held over
  unfolding size_of larger_of lt neg
  size_by true = refl
  size_by false = go over
    where
      go : (b : Bool) → smaller_of (cond (lt (cond b (fin false m e) least) (fin true m e)) (fin true m e) (cond b (fin false m e) least)) most ≡ held b
      go true = refl
      go false = refl

  pub not_tiny : (s : Bool) → tiny_of (fin s m e) ≡ false → 1 * 1 * down e < m * up e * 4096
  unfolding tiny_of smaller_of le lt eq
  not_tiny s t = go over refl (ap (λ (x : Float). le x least) (sym (size_by s)) ∙ t)
    where
      go : (b : Bool) → over ≡ b → le (held b) least ≡ false → 1 * 1 * down e < m * up e * 4096
      go true i h = ltb-true (1 * 1 * down e) (m * up e * 4096) i
      go false i h = absurd (true≢false h)

  pub is_tiny : (s : Bool) → tiny_of (fin s m e) ≡ true → m * up e * 4096 ≤ 1 * 1 * down e
  unfolding tiny_of smaller_of le lt eq
  is_tiny s t = go over refl (ap (λ (x : Float). le x least) (sym (size_by s)) ∙ t)
    where
      by : (b : Bool) → le (cond b (fin false m e) most) least ≡ true → m * up e * 4096 ≤ 1 * 1 * down e
      by true h = le_yes (m * up e * 4096) (1 * 1 * down e) (yes h)
      by false h = absurd (true≢false (sym h))

      go : (b : Bool) → over ≡ b → le (held b) least ≡ true → m * up e * 4096 ≤ 1 * 1 * down e
      go true i h = by (le (fin false m e) most) h
      go false i h = ltb-false (1 * 1 * down e) (m * up e * 4096) i

  -- so it is worked out at 2 ^ -12
  pub tiny_size : (s : Bool) → m * up e * 4096 ≤ 1 * 1 * down e → size_of (fin s m e) ≡ least
  unfolding smaller_of le lt eq
  tiny_size s h = size_by s ∙ ap held (le-ltb (1 * 1 * down e) (m * up e * 4096) h)

  at_most : m * up e ≤ 26 * down e → le (fin false m e) most ≡ true
  unfolding le lt eq
  at_most l = is_yes (le (fin false m e) most) (λ (t : T (not (le (fin false m e) most))). no (m * up e) (down e) l (le_no (m * up e * 1) (26 * down e) t))
    where
      is_yes : (b : Bool) → (T (not b) → ⊥) → b ≡ true
      is_yes true h = refl
      is_yes false h = absurd (h tt)

      no : (a d : ℕ) → a ≤ 26 * d → 26 * d < a * 1 → ⊥
      no a d l h = omega arith

  pub size_of_lem : (s : Bool) → m * up e ≤ 26 * down e → 1 * 1 * down e < m * up e * 4096 → size_of (fin s m e) ≡ fin false m e
  unfolding smaller_of
  size_of_lem s l h = size_by s ∙ ap held (lt-ltb (1 * 1 * down e) (m * up e * 4096) h) ∙ ap (λ (b : Bool). cond b (fin false m e) most) (at_most l)

  -- its sign is seen
  pub sign_of : (s : Bool) → 1 * 1 * down e < m * up e * 4096 → lt (fin s m e) (of_bits binary32 0) ≡ s
  unfolding lt of_bits
  sign_of false h = le-ltb (m * up e * 1) (0 * 1 * down e) (nothing (m * up e) (down e))
    where
      nothing : (a d : ℕ) → 0 * 1 * d ≤ a * 1
      nothing a d = omega arith
  sign_of true h = lt-ltb 0 (m * up e * 1 + 0 * 1 * down e) (some (m * up e) (down e) h)
    where
      some : (a d : ℕ) → 1 * 1 * d < a * 4096 → 0 < a * 1 + 0 * 1 * d
      some a d k = omega arith

-- ---- whatever the angle
pub record Held (x : Float) : Type 0 where
  pub m : ℕ
  pub e : ℤ
  pub is : x ≡ fin false m e
  pub fit : T (fits binary32 (fin false m e))
  pub low : 1 * 1 * down e ≤ m * up e * 4096
  pub few : m * up e ≤ 26 * down e

at_least : Held least
unfolding fits
at_least = record { m = 1; e = negsuc 11; is = refl; fit = tt; low = lit≤ tt; few = lit≤ tt }

at_top : Held most
unfolding fits
at_top = record { m = 13; e = pos 1; is = refl; fit = tt; low = lit≤ tt; few = lit≤ tt }

pub size-held : (t : Float) → T (fits binary32 t) → Held (size_of t)
unfolding size_of larger_of smaller_of le lt eq neg
size-held nan f = at_least
size-held (inf true) f = at_top
size-held (inf false) f = at_top
size-held (fin s m e) f = subst Held (sym (size_by m e s)) (go (over m e) refl)
  where
    by : (c : Bool) → le (fin false m e) most ≡ c → 1 * 1 * down e < m * up e * 4096 → Held (cond c (fin false m e) most)
    by true j h = record { m = m; e = e; is = refl; fit = plain_fits s m e f; low = le_of_lt h; few = few (m * up e) (down e) (le_yes (m * up e * 1) (26 * down e) (yes j)) }
      where
        few : (a d : ℕ) → a * 1 ≤ 26 * d → a ≤ 26 * d
        few a d h = omega arith
    by false j h = at_top

    go : (b : Bool) → over m e ≡ b → Held (held m e b)
    go true i = by (le (fin false m e) most) refl (ltb-true (1 * 1 * down e) (m * up e * 4096) i)
    go false i = at_least
