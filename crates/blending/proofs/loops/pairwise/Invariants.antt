-- `pairwise` makes one word after another.
use mathlib.Core.Path.{◌≡◌}
use Prim.Native.Nat.{ℕ}
use lib.ListN.{take}
use Rattle.blending.specs.Loops.{pairwise}
use Rattle.blending.proofs.loops.pairwise.Given as goal

abbrev pub invariant-loop-i : goal.invariant-loop-i
invariant-loop-i g l =
    (f : ℕ → ℕ → ℕ) → ((c w r : ℕ) → goal.F-post g l.make c w r → r ≡ f c w) → l.words ≡ pairwise f (take l.i l.colors) l.initial.words
