-- From the answer on a bitmap file to C's numbers and records.
use Rattle.std.specs.Prelude.{Result, Ok, Err}
use mathlib.Core.Path.{◌≡◌, sym, ap, ◌∙◌}
use mathlib.Core.List.{List}
use Prim.Native.Nat.{ℕ}
use Rattle.lbmp.specs.declared.Image.{Image}
use Rattle.lbmp.specs.declared.Refusal.{Refusal}
use Rattle.lbmp.specs.Faults.{number}
use Rattle.lbmp.specs.Call.{reads, Outcome, outcome}
use Rattle.tuyrashka.specs.Exported.{size_of, gives_bitmap}

module _ (j : Result Image Refusal) (ws : List ℕ) (o : Outcome) (e : outcome (reads j) ws ≡ o) (z : List ℕ) where
  pub told-refused : (r : Refusal) (n : ℕ) → j ≡ Err r → n ≡ number r → z ≡ size_of 0 0
      → ◌≡◌ {A = ℕ × (List ℕ × (ℕ × List ℕ))} (n, (z, (0, ws))) (gives_bitmap o)
  unfolding reads gives_bitmap
  told-refused r n p q s = rw (q, s) (ap gives_bitmap (ap (λ (k : Result Image Refusal). outcome (reads k) ws) (sym p) ∙ e))

  pub told_sound : (i : Image) → j ≡ Ok i → z ≡ size_of i.width i.height
      → ◌≡◌ {A = ℕ × (List ℕ × (ℕ × List ℕ))} (0, (z, (i.clear, ws))) (gives_bitmap o)
  unfolding reads gives_bitmap
  told_sound i p s = rw s (ap gives_bitmap (ap (λ (k : Result Image Refusal). outcome (reads k) ws) (sym p) ∙ e))
