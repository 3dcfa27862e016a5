-- A buffer filled from the front: what is filled, with what is still to come, is the whole.
use mathlib.Core.List.{List, [], ◌∷◌, ◌++◌, append_assoc, append-nil}
use mathlib.Core.Path.{◌≡◌, sym, ◌∙◌, ap}
use Prim.Native.Nat.{ℕ, ◌+◌, ◌<◌, ◌≤◌}
use native.Mathlib.Numerals.{add-one}
use lib.ListN.{length, take, set}
use lib.Seq.{take-suc-set, take_all}

snoc : (d : List ℕ) (i v : ℕ) → i < length d → take (i + 1) (set d i v) ≡ take i d ++ (v ∷ [])
snoc d i v h = rw (add-one i) (take-suc-set d i v h)

module _ {whole : List ℕ} (d : List ℕ) (i : ℕ) (t : List ℕ) (w : take i d ++ t ≡ whole) where
  pub fill_step : (v : ℕ) (t' : List ℕ) → i < length d → t ≡ v ∷ t' → take (i + 1) (set d i v) ++ t' ≡ whole
  fill_step v t' h e = rw (snoc d i v h, append_assoc) (ap (λ (s : List ℕ). take i d ++ s) (sym e) ∙ w)

  pub fill_end : length d ≤ i → t ≡ [] → d ≡ whole
  fill_end h e = sym (ap (λ (s : List ℕ). take i d ++ s) e ∙ append-nil (take i d) ∙ take_all i d h) ∙ w
