-- Where a row takes what is near its middle, the places taken are one run, as long to the right of the middle as to the left. Assumes
-- nothing.
use Rattle.std.proofs.Common.{◌≡◌, ℕ, ◌+◌, ◌-◌, ◌*◌, ◌<◌, ◌≤◌, Bool, true, false, not, sym, refl, arith}
use native.Mathlib.Decide.{dec_lt}
use Rattle.curves.specs.Bulges.{Rising, Run}

clash : (b : Bool) → b ≡ false → b ≡ true → ⊥
clash b p q = let z : ◌≡◌ {A = ℕ} 0 1 = cc in omega arith

pub denied : (b : Bool) → not b ≡ true → b ≡ false
denied true e = sym e
denied false e = refl

pub allowed : (b : Bool) → not b ≡ false → b ≡ true
allowed true e = refl
allowed false e = sym e

pub back : (n : ℕ) → n + 1 - 1 ≡ n
back n = omega arith

off : (b : Bool) → (b ≡ true → ⊥) → b ≡ false
off true f = absurd (f refl)
off false f = refl

-- of places up to m: the nearer of two
inner : (m q i : ℕ) → i ≤ q → 2 * q ≤ m → (2 * q - m) + (m - 2 * q) ≤ (2 * i - m) + (m - 2 * i)
inner m q i h k = omega arith

beyond : (m q i : ℕ) → m ≤ i + q → 2 * q ≤ m → (2 * q - m) + (m - 2 * q) ≤ (2 * i - m) + (m - 2 * i)
beyond m q i h k = omega arith

amid : (m r i : ℕ) → r ≤ i → i + r ≤ m → (2 * i - m) + (m - 2 * i) ≤ (2 * r - m) + (m - 2 * r)
amid m r i h k = omega arith

module _ (n r : ℕ) (h : 2 * r ≤ n + 1) where
  last : 0 < r → 2 * (r - 1) ≤ n - 1
  last p = omega arith

  module _ (i : ℕ) where
    earlier : i < r → i ≤ r - 1
    earlier l = omega arith

    later : n - r ≤ i → i < n → n - 1 ≤ i + (r - 1)
    later l k = omega arith

    some : n - r ≤ i → i < n → 0 < r
    some l k = omega arith

    within : r ≤ i → i < n - r → i + r ≤ n - 1
    within l k = omega arith

module _ (t : ℕ → Bool) (n r : ℕ) (m : Rising t n) where
  -- r is in the left half, is taken where it is no later than its mirror, and the place before it is not
  pub run_at : 2 * r ≤ n + 1 → (r < n - r → t r ≡ true) → (0 < r → t (r - 1) ≡ false) → Run t n r
  run_at h on no_more = record { half = h; before = before; taken = taken; after = after }
    where
      before : (i : ℕ) → i < r → t i ≡ false
      before i l =
          off (t i) (λ e. clash (t (r - 1)) (no_more (omega arith))
          (m.nearer i (r - 1) (omega arith) (omega arith) (inner (n - 1) (r - 1) i (earlier n r h i l) (last n r h (omega arith))) e))

      taken : (i : ℕ) → r ≤ i → i < n - r → t i ≡ true
      taken i l k = m.nearer r i (omega arith) (omega arith) (amid (n - 1) r i l (within n r h i l k)) (on (omega arith))

      after : (i : ℕ) → n - r ≤ i → i < n → t i ≡ false
      after i l k =
          let p = some n r h i l k in off (t i) (λ e. clash (t (r - 1)) (no_more p) (m.nearer i (r - 1) k (omega arith) (beyond (n - 1) (r - 1) i (later n r h i l k) (last n r h p)) e))

-- there is one such run
pub one-run : {t : ℕ → Bool} {n r s : ℕ} → Run t n r → Run t n s → r ≡ s
one-run {t} {n} {r} {s} p q = omega (arith, no_less p q, no_less q p)
  where
    no_less : {r s : ℕ} → Run t n r → Run t n s → s ≤ r
    no_less {r} {s} p q = go (dec_lt r s) (dec_lt r (n - r))
      where
        go : Dec (r < s) → Dec (r < n - r) → s ≤ r
        go (no l) d = omega arith
        go (yes l) (yes k) = absurd (clash (t r) (q.before r l) (p.taken r (omega arith) k))
        go (yes l) (no k) = absurd (omega (arith, q.half))
