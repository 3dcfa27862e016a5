-- Whole numbers as differences of naturals, so that questions of order and sums are ones about naturals.
use Rattle.std.proofs.Common.{◌≡◌, ℕ, zero, suc, ◌+◌, ◌-◌, ◌<◌, ◌≤◌, min, max, ltb, leb, ℤ, pos, negsuc, ◌+ℤ◌, ◌-ℤ◌, neg_ℤ, nat_abs, sym, refl, ap, ◌∙◌, ap₂, arith, w32, SFits, le-ltb, lt-ltb, le-leb}
use native.Mathlib.Decide.{dec_lt, dec_le}
use borrow.Author.Tests.{lt-leb}
use lib.IntN.{sub_ℕ}
use lib.Signed.{le_z, lt_z}
use Rattle.floats.specs.Whole.{at_least0}
use Rattle.std.specs.Int.{int_min, int_max}
use Rattle.canvas.specs.Clip.{shared}
use Rattle.canvas.specs.Walk.{lifted}
use Rattle.canvas.proofs.span.Spans.{same_leb}

-- the two forms of a difference
pub sub-neg : (m k : ℕ) → m < k → sub_ℕ m k ≡ negsuc (k - suc m)
sub-neg m k h = rw (lt-ltb m k h) refl

pub sub_pos : (m k : ℕ) → k ≤ m → sub_ℕ m k ≡ pos (m - k)
sub_pos m k h = rw (le-ltb m k h) refl

data Sign (m k : ℕ) : Type 0 where
  minus : m < k → Sign m k
  plus : k ≤ m → Sign m k

sign : (m k : ℕ) → Sign m k
sign m k = go (dec_lt m k)
  where
    go : Dec (m < k) → Sign m k
    go (yes h) = minus h
    go (no h) = plus (omega arith)

pub sub_leZ : (m k n l : ℕ) → le_z (sub_ℕ m k) (sub_ℕ n l) ≡ leb (m + l) (n + k)
sub_leZ m k n l = go (sign m k) (sign n l)
  where
    go : Sign m k → Sign n l → le_z (sub_ℕ m k) (sub_ℕ n l) ≡ leb (m + l) (n + k)
    go (minus h) (minus g) = ap₂ le_z (sub-neg m k h) (sub-neg n l g) ∙ same_leb (l - suc n) (k - suc m) (m + l) (n + k) (omega arith) (omega arith)
    go (minus h) (plus g) = ap₂ le_z (sub-neg m k h) (sub_pos n l g) ∙ sym (le-leb (m + l) (n + k) (omega arith))
    go (plus h) (minus g) = ap₂ le_z (sub_pos m k h) (sub-neg n l g) ∙ sym (lt-leb (m + l) (n + k) (omega arith))
    go (plus h) (plus g) = ap₂ le_z (sub_pos m k h) (sub_pos n l g) ∙ same_leb (m - k) (n - l) (m + l) (n + k) (omega arith) (omega arith)

pub sub_ltZ : (m k n l : ℕ) → lt_z (sub_ℕ m k) (sub_ℕ n l) ≡ ltb (m + l) (n + k)
sub_ltZ m k n l = go (sign m k) (sign n l)
  where
    go : Sign m k → Sign n l → lt_z (sub_ℕ m k) (sub_ℕ n l) ≡ ltb (m + l) (n + k)
    go (minus h) (minus g) = ap₂ lt_z (sub-neg m k h) (sub-neg n l g) ∙ same_leb (suc (l - suc n)) (k - suc m) (suc (m + l)) (n + k) (omega arith) (omega arith)
    go (minus h) (plus g) = ap₂ lt_z (sub-neg m k h) (sub_pos n l g) ∙ sym (lt-ltb (m + l) (n + k) (omega arith))
    go (plus h) (minus g) = ap₂ lt_z (sub_pos m k h) (sub-neg n l g) ∙ sym (le-ltb (m + l) (n + k) (omega arith))
    go (plus h) (plus g) = ap₂ lt_z (sub_pos m k h) (sub_pos n l g) ∙ same_leb (suc (m - k)) (n - l) (suc (m + l)) (n + k) (omega arith) (omega arith)

pub sub-eq : (m k n l : ℕ) → m + l ≡ n + k → sub_ℕ m k ≡ sub_ℕ n l
sub-eq m k n l e = go (sign m k) (sign n l)
  where
    go : Sign m k → Sign n l → sub_ℕ m k ≡ sub_ℕ n l
    go (minus h) (minus g) = sub-neg m k h ∙ ap negsuc (omega arith) ∙ sym (sub-neg n l g)
    go (minus h) (plus g) = absurd (omega arith)
    go (plus h) (minus g) = absurd (omega arith)
    go (plus h) (plus g) = sub_pos m k h ∙ ap pos (omega arith) ∙ sym (sub_pos n l g)

pub pos_sub : (n : ℕ) → pos n ≡ sub_ℕ n 0
pos_sub n = sym (sub_pos n 0 (omega arith) ∙ ap pos (omega arith))

pub sub-add : (m k n l : ℕ) → sub_ℕ m k +ℤ sub_ℕ n l ≡ sub_ℕ (m + n) (k + l)
sub-add m k n l = go (sign m k) (sign n l)
  where
    go : Sign m k → Sign n l → sub_ℕ m k +ℤ sub_ℕ n l ≡ sub_ℕ (m + n) (k + l)
    go (minus h) (minus g) = ap₂ ◌+ℤ◌ (sub-neg m k h) (sub-neg n l g) ∙ ap negsuc (omega arith) ∙ sym (sub-neg (m + n) (k + l) (omega arith))
    go (minus h) (plus g) = ap₂ ◌+ℤ◌ (sub-neg m k h) (sub_pos n l g) ∙ sub-eq (n - l) (suc (k - suc m)) (m + n) (k + l) (omega arith)
    go (plus h) (minus g) = ap₂ ◌+ℤ◌ (sub_pos m k h) (sub-neg n l g) ∙ sub-eq (m - k) (suc (l - suc n)) (m + n) (k + l) (omega arith)
    go (plus h) (plus g) = ap₂ ◌+ℤ◌ (sub_pos m k h) (sub_pos n l g) ∙ ap pos (omega arith) ∙ sym (sub_pos (m + n) (k + l) (omega arith))

pub neg_pos : (n : ℕ) → neg_ℤ (pos n) ≡ sub_ℕ 0 n
neg_pos zero = sym (sub_pos 0 0 (omega arith))
neg_pos (suc n) = sym (sub-neg 0 (suc n) (omega arith) ∙ ap negsuc (omega arith))

sub_negℤ : (m k : ℕ) → neg_ℤ (sub_ℕ m k) ≡ sub_ℕ k m
sub_negℤ m k = go (sign m k)
  where
    go : Sign m k → neg_ℤ (sub_ℕ m k) ≡ sub_ℕ k m
    go (minus h) = ap neg_ℤ (sub-neg m k h) ∙ pos_sub (suc (k - suc m)) ∙ sub-eq (suc (k - suc m)) 0 k m (omega arith)
    go (plus h) = ap neg_ℤ (sub_pos m k h) ∙ neg_pos (m - k) ∙ sub-eq 0 (m - k) k m (omega arith)

pub sub-sub : (m k n l : ℕ) → sub_ℕ m k -ℤ sub_ℕ n l ≡ sub_ℕ (m + l) (k + n)
sub-sub m k n l = ap (λ (z : ℤ). sub_ℕ m k +ℤ z) (sub_negℤ n l) ∙ sub-add m k l n

pub sub_abs : (m k : ℕ) → nat_abs (sub_ℕ m k) ≡ (m - k) + (k - m)
sub_abs m k = go (sign m k)
  where
    go : Sign m k → nat_abs (sub_ℕ m k) ≡ (m - k) + (k - m)
    go (minus h) = ap nat_abs (sub-neg m k h) ∙ omega arith
    go (plus h) = ap nat_abs (sub_pos m k h) ∙ omega arith

-- ---- what two spans share

extent-sub : (m k : ℕ) → at_least0 (sub_ℕ m k) ≡ m - k
extent-sub m k = go (sign m k)
  where
    go : Sign m k → at_least0 (sub_ℕ m k) ≡ m - k
    go (minus h) = ap at_least0 (sub-neg m k h) ∙ omega arith
    go (plus h) = ap at_least0 (sub_pos m k h)

module _ (p q k : ℕ) where
  larger-sub : int_max (sub_ℕ p k) (sub_ℕ q k) ≡ sub_ℕ (max p q) k
  larger-sub = go (dec_le p q)
    where
      go : Dec (p ≤ q) → int_max (sub_ℕ p k) (sub_ℕ q k) ≡ sub_ℕ (max p q) k
      go (yes h) = rw (sub_ltZ q k p k, le-ltb (q + k) (p + k) (omega arith)) (sub-eq q k (max p q) k (omega arith))
      go (no h) = rw (sub_ltZ q k p k, lt-ltb (q + k) (p + k) (omega arith)) (sub-eq p k (max p q) k (omega arith))

  smaller-sub : int_min (sub_ℕ p k) (sub_ℕ q k) ≡ sub_ℕ (min p q) k
  smaller-sub = go (dec_le p q)
    where
      go : Dec (p ≤ q) → int_min (sub_ℕ p k) (sub_ℕ q k) ≡ sub_ℕ (min p q) k
      go (yes h) = rw (sub_ltZ q k p k, le-ltb (q + k) (p + k) (omega arith)) (sub-eq p k (min p q) k (omega arith))
      go (no h) = rw (sub_ltZ q k p k, lt-ltb (q + k) (p + k) (omega arith)) (sub-eq q k (min p q) k (omega arith))

pub lifted-sub : (a : ℤ) → SFits w32 a → a ≡ sub_ℕ (lifted a) 2147483648
unfolding lifted
lifted-sub (pos n) s = sym (sub_pos (2147483648 + n) 2147483648 (omega arith) ∙ ap pos (omega arith))
lifted-sub (negsuc n) s = sym (sub-neg (2147483647 - n) 2147483648 (omega arith) ∙ ap negsuc (omega arith))

moved : (a : ℤ) (m : ℕ) → SFits w32 a → a +ℤ pos m ≡ sub_ℕ (lifted a + m) 2147483648
moved a m s =
    ap₂ ◌+ℤ◌ (lifted-sub a s) (pos_sub m) ∙ sub-add (lifted a) 2147483648 m 0
    ∙ sub-eq (lifted a + m) (2147483648 + 0) (lifted a + m) 2147483648 (omega arith)

pub shared-lifted : (a b : ℤ) (m n : ℕ) → SFits w32 a → SFits w32 b → shared a m b n ≡ min (lifted a + m) (lifted b + n) - max (lifted a) (lifted b)
unfolding shared
shared-lifted a b m n sa sb =
    ap₂ (λ (x y : ℤ). at_least0 (x -ℤ y))
    (ap₂ int_min (moved a m sa) (moved b n sb) ∙ smaller-sub (lifted a + m) (lifted b + n) 2147483648)
    (ap₂ int_max (lifted-sub a sa) (lifted-sub b sb) ∙ larger-sub (lifted a) (lifted b) 2147483648)
    ∙ ap at_least0 (sub-sub (min (lifted a + m) (lifted b + n)) 2147483648 (max (lifted a) (lifted b)) 2147483648)
    ∙ extent-sub (min (lifted a + m) (lifted b + n) + 2147483648) (2147483648 + max (lifted a) (lifted b))
    ∙ omega arith
