-- Sixteen numbers worked out one after the other. Assumes nothing.
use Rattle.std.proofs.Common.{◌≡◌, ℕ, zero, suc, ◌+◌, ◌<◌, ◌≤◌, List, [], ◌∷◌, map, length, get_or, set, sym, refl, ap, ◌∙◌, add-zero, arith, length-set, get_or-set_other, get_or-set_same, ext_get_or}
use native.Mathlib.Decide.{ℕ_discrete}
use lib.ListN.{length-map}
use lib.Ieee.{Float, nan}
use Rattle.angle.specs.Stroke.{stroke_angle}
use Rattle.curves.specs.Strokes.{angles_from}

-- the first k are those of f
pub record Filled {A : Type 0} (d : A) (f : ℕ → A) (k : ℕ) (ws : List A) : Type 0 where
  pub each : (i : ℕ) → i < k → get_or ws i d ≡ f i
  pub long : length ws ≡ 16

module _ {A : Type 0} {d : A} {f : ℕ → A} where
  pub filled_none : {ws : List A} → length ws ≡ 16 → Filled d f 0 ws
  filled_none l = record { each = λ i h. absurd (omega arith); long = l }

  pub filled_more : {k : ℕ} {ws : List A} (w : A) → k < 16 → w ≡ f k → Filled d f k ws → Filled d f (k + 1) (set ws k w)
  filled_more {k} {ws} w l e g = record { each = λ i h. go i h (ℕ_discrete i k); long = length-set ws k w ∙ g.long }
    where
      go : (i : ℕ) → i < k + 1 → Dec (i ≡ k) → get_or (set ws k w) i d ≡ f i
      go i h (yes q) = rw q (get_or-set_same ws k w d (omega (arith, g.long)) ∙ e)
      go i h (no n) = get_or-set_other ws k i w d n ∙ g.each i (omega (arith, n))

  pub filled_all : {k : ℕ} {ws : List A} (vs : List A) → 16 ≤ k → length vs ≡ 16 → ((i : ℕ) → i < 16 → get_or vs i d ≡ f i) → Filled d f k ws → ws ≡ vs
  filled_all {k} {ws} vs l m h g = ext_get_or d ws vs (g.long ∙ sym m) (λ i b. g.each i (omega (arith, g.long)) ∙ sym (h i (omega (arith, g.long))))

-- ---- the angles
module _ (start sweep : Float) (steps : ℕ) where
  pub angles_length : (i n : ℕ) → length (angles_from start sweep steps i n) ≡ n
  unfolding angles_from
  angles_length i zero = refl
  angles_length i (suc n) = ap suc (angles_length (suc i) n)

  pub angles_at : (i n k : ℕ) → k < n → get_or (angles_from start sweep steps i n) k nan ≡ stroke_angle start sweep (i + k) steps
  unfolding angles_from
  angles_at i zero k l = absurd (omega arith)
  angles_at i (suc n) zero l = ap (λ (m : ℕ). stroke_angle start sweep m steps) (sym (add-zero i))
  angles_at i (suc n) (suc k) l =
      let e : suc i + k ≡ i + suc k = omega arith in
      angles_at (suc i) n k (omega arith) ∙ ap (λ (m : ℕ). stroke_angle start sweep m steps) e

-- ---- of each number of a list
module _ {A : Type 0} (d : A) (g : Float → A) where
  pub map_at : (ts : List Float) (k : ℕ) → k < length ts → get_or (map g ts) k d ≡ g (get_or ts k nan)
  map_at [] k l = absurd (omega arith)
  map_at (t ∷ ts) zero l = refl
  map_at (t ∷ ts) (suc k) l = map_at ts k (omega arith)

  pub mapped : (ts : List Float) (ws : List A) {j : ℕ} → length ts ≡ 16 → 16 ≤ j → Filled d (λ (i : ℕ). g (get_or ts i nan)) j ws → ws ≡ map g ts
  mapped ts ws e l f = filled_all (map g ts) l (length-map ts g ∙ e) (λ i h. map_at ts i (omega arith)) f
