-- `words::invert_ink` meets its contract, number by number.
use mathlib.Core.Path.{◌≡◌, refl, ◌∙◌}
use Prim.Native.Nat.{ℕ, zero, suc, ◌<◌, ◌≤◌}
use native.Mathlib.Omega.{arith}
use Rattle.words.specs.Format.{format_of}
use Rattle.words.specs.Ink.{ink}
use Rattle.words.specs.Invert.{invert_ink}
use Rattle.words.proofs.Formats.{is_none}
use Rattle.words.proofs.invert_ink.Goals as goal

with_alpha : (n : ℕ) → 3 ≤ n → n ≤ 4 → ink 4294967295 16777215 ≡ invert_ink (format_of n)
unfolding format_of invert_ink
with_alpha zero h k = absurd (omega arith)
with_alpha (suc zero) h k = absurd (omega arith)
with_alpha (suc (suc zero)) h k = absurd (omega arith)
with_alpha (suc (suc (suc zero))) h k = refl
with_alpha (suc (suc (suc (suc zero)))) h k = refl
with_alpha (suc (suc (suc (suc (suc n))))) h k = absurd (omega arith)

pub returns-in-0 : goal.returns-in-0
unfolding format_of invert_ink
returns-in-0 c = rw c.in-0.is c.flipping.ensures

pub returns-in-1 : goal.returns-in-1
unfolding format_of invert_ink
returns-in-1 c = rw c.in-1.is c.flipping-in-1.ensures

pub returns-in-2 : goal.returns-in-2
unfolding format_of invert_ink
returns-in-2 c = rw c.in-2.is

pub returns-in-3 : goal.returns-in-3
returns-in-3 c = c.flipping-in-3.ensures ∙ with_alpha c.args.format (omega arith) (omega arith)

pub returns-in_default : goal.returns-in_default
unfolding invert_ink
returns-in_default c = let h : 4 < c.args.format = omega arith in rw (is_none _ h) c.flipping-in_default.ensures
