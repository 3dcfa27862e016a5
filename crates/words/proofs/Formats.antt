-- What a number stands for that is not among those that a choice names, by going through the numbers.
use mathlib.Core.Path.{◌≡◌, refl}
use mathlib.Core.Bool.{false}
use Prim.Native.Nat.{ℕ, zero, suc, ◌<◌}
use native.Mathlib.Omega.{arith}
use Rattle.words.specs.Format.{format_of, none}
use Rattle.words.specs.Ink.{keeps_alpha}

pub is_none : (n : ℕ) → 4 < n → format_of n ≡ none
unfolding format_of
is_none zero h = absurd (omega arith)
is_none (suc zero) h = absurd (omega arith)
is_none (suc (suc zero)) h = absurd (omega arith)
is_none (suc (suc (suc zero))) h = absurd (omega arith)
is_none (suc (suc (suc (suc zero)))) h = absurd (omega arith)
is_none (suc (suc (suc (suc (suc n))))) h = refl

pub keeps-none : (n : ℕ) → (n ≡ 3 → ⊥) → (n ≡ 4 → ⊥) → keeps_alpha (format_of n) ≡ false
unfolding format_of keeps_alpha
keeps-none zero h3 h4 = refl
keeps-none (suc zero) h3 h4 = refl
keeps-none (suc (suc zero)) h3 h4 = refl
keeps-none (suc (suc (suc zero))) h3 h4 = absurd (h3 refl)
keeps-none (suc (suc (suc (suc zero)))) h3 h4 = absurd (h4 refl)
keeps-none (suc (suc (suc (suc (suc n))))) h3 h4 = refl
