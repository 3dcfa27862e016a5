-- A row takes as much to the right of its middle as to the left, and a row nearer to the middle row takes all that one farther from it
-- does. So the search of a run that starts at that of the row before goes one way in the upper half of the box and the other way in
-- the lower, and passes each column twice at most. Assumes nothing.
use Rattle.std.proofs.Common.{◌≡◌, ℕ, ◌+◌, ◌-◌, ◌*◌, ◌<◌, ◌≤◌, Bool, true, false, T, sym, refl, ◌∙◌, subst, ap₂, mul_comm, add_comm, arith}
use native.Mathlib.Decide.{dec_lt}
use lib.Ieee.{Float, nan, inf, fin, binary32, up, down, round, add, sum, le}
use Rattle.floats.specs.Size.{one}
use Rattle.curves.specs.declared.bulges.Side.{Side}
use Rattle.curves.specs.Bulges.{far, part_on, has_at, Sided, Rising, Run}
use Rattle.curves.proofs.Rising.{plain, add-plain, add_mono, le_chain}
use Rattle.curves.proofs.Disc.{is_true, holds, on_plain, on_mono}

pub mirror : (t : ℕ → Bool) (n i : ℕ) → Rising t n → i < n → t i ≡ t (n - 1 - i)
mirror t n i m h =
    same (t i) (t (n - 1 - i)) (λ e. m.nearer i (n - 1 - i) h (omega arith) (across (n - 1) i (omega arith)).0 e)
    (λ e. m.nearer (n - 1 - i) i (omega arith) h (across (n - 1) i (omega arith)).1 e)
  where
    same : (a b : Bool) → (a ≡ true → b ≡ true) → (b ≡ true → a ≡ true) → a ≡ b
    same true b f g = sym (f refl)
    same false true f g = g refl
    same false false f g = refl

    across : (m i : ℕ) → i ≤ m → ((2 * (m - i) - m) + (m - 2 * (m - i)) ≤ (2 * i - m) + (m - 2 * i)) × ((2 * i - m) + (m - 2 * i) ≤ (2 * (m - i) - m) + (m - 2 * (m - i)))
    across m i h = let k : i + (m - i) ≡ m = omega arith in go m i (m - i) k
      where
        go : (m i k : ℕ) → i + k ≡ m → ((2 * k - m) + (m - 2 * k) ≤ (2 * i - m) + (m - 2 * i)) × ((2 * i - m) + (m - 2 * i) ≤ (2 * k - m) + (m - 2 * k))
        go m i k e = (omega arith, omega arith)

-- a sum of two such numbers in the other order
swapped : (x y : Float) → T (plain x) → T (plain y) → add binary32 x y ≡ add binary32 y x
unfolding add sum
swapped nan y p q = absurd p
swapped (inf true) y p q = absurd p
swapped (fin true m e) y p q = absurd p
swapped (inf false) nan p q = absurd q
swapped (inf false) (inf true) p q = absurd q
swapped (inf false) (inf false) p q = refl
swapped (inf false) (fin true n d) p q = absurd q
swapped (inf false) (fin false n d) p q = refl
swapped (fin false m e) nan p q = absurd q
swapped (fin false m e) (inf true) p q = absurd q
swapped (fin false m e) (inf false) p q = refl
swapped (fin false m e) (fin true n d) p q = absurd q
swapped (fin false m e) (fin false n d) p q = ap₂ (λ (a c : ℕ). round binary32 false a c) (add_comm (m * up e * down d) (n * up d * down e)) (mul_comm (down e) (down d))

module _ (sx sy : Side) (g : Sided sx) (h : Sided sy) (j k : ℕ) (l : j < sy.count) (m : k < sy.count) (near : far sy.count j ≤ far sy.count k) where
  pub nested : (i : ℕ) → i < sx.count → has_at sx (part_on sy k) i ≡ true → has_at sx (part_on sy j) i ≡ true
  nested i o e =
      let x = part_on sx i in
      let u = part_on sy j in
      let v = part_on sy k in
      has_is j
      ∙ is_true (le (add binary32 x u) one)
      (le_chain (add binary32 x u) (add binary32 x v) one (add-plain x u px pu) (add-plain x v px pv) tt
      (subst (λ (z : Float). T (le z (add binary32 x v))) (swapped u x pu px)
      (subst (λ (z : Float). T (le (add binary32 u x) z)) (swapped v x pv px) (add_mono u v x pu pv px (on_mono sy h j k l m near))))
      (holds (le (add binary32 x v) one) (sym (has_is k) ∙ e)))
    where
      px : T (plain (part_on sx i))
      px = on_plain sx g i o

      pu : T (plain (part_on sy j))
      pu = on_plain sy h j l

      pv : T (plain (part_on sy k))
      pv = on_plain sy h k m

      has_is : (j : ℕ) → has_at sx (part_on sy j) i ≡ le (add binary32 (part_on sx i) (part_on sy j)) one
      has_is j = unfold has_at in refl

  -- so that the run of the nearer row starts no later
  pub no_later : (r s : ℕ) → Run (has_at sx (part_on sy j)) sx.count r → Run (has_at sx (part_on sy k)) sx.count s → r ≤ s
  no_later r s p q = go (dec_lt s r) (dec_lt s (sx.count - s))
    where
      clash : (b : Bool) → b ≡ false → b ≡ true → ⊥
      clash b f e = let z : ◌≡◌ {A = ℕ} 0 1 = cc in omega arith

      go : Dec (s < r) → Dec (s < sx.count - s) → r ≤ s
      go (no o) d = omega arith
      go (yes o) (yes f) = absurd (clash (has_at sx (part_on sy j) s) (p.before s o) (nested s (omega arith) (q.taken s (omega arith) f)))
      go (yes o) (no f) = absurd (omega (arith, p.half))
