-- From the answer on a file of icons to C's numbers and records.
use Rattle.std.specs.Prelude.{Result, Ok, Err}
use mathlib.Core.Path.{◌≡◌, sym, ap, ◌∙◌}
use mathlib.Core.List.{List}
use Prim.Native.Nat.{ℕ}
use Rattle.res.specs.declared.Icon.{Icon}
use Rattle.res.specs.declared.Refusal.{Refusal}
use Rattle.res.specs.Search.{number, reads, first_icon}
use Rattle.tuyrashka.specs.Exported.{size_of, gives_icon}

module _ (f : List ℕ) (x : Result Icon Refusal) (e : x ≡ first_icon f) (z : List ℕ) where
  pub told-refused : (r : Refusal) (n : ℕ) → x ≡ Err r → n ≡ number r → z ≡ size_of 0 0
      → ◌≡◌ {A = ℕ × (ℕ × List ℕ)} (n, (0, z)) (gives_icon (reads (first_icon f)))
  unfolding reads gives_icon
  told-refused r n p q s = rw (q, s) (ap (λ (k : Result Icon Refusal). gives_icon (reads k)) (sym p ∙ e))

  pub told_here : (i : Icon) → x ≡ Ok i → z ≡ size_of i.width i.height
      → ◌≡◌ {A = ℕ × (ℕ × List ℕ)} (0, (i.start, z)) (gives_icon (reads (first_icon f)))
  unfolding reads gives_icon
  told_here i p s = rw s (ap (λ (k : Result Icon Refusal). gives_icon (reads k)) (sym p ∙ e))
