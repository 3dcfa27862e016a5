-- The words behind are made anew.
use mathlib.Core.Path.{◌≡◌}
use Prim.Native.Nat.{ℕ, ◌+◌, ◌*◌}
use Rattle.lbmp.specs.Walk.{swept, Makes}
use Rattle.lbmp.proofs.paint.sweep_rows.Given as goal

abbrev pub invariant-loop-y : goal.invariant-loop-y
invariant-loop-y g l = (f : ℕ → ℕ → ℕ) → Makes (goal.F-post g l.word) l.w l.rows f → l.out ≡ swept f 0 (l.y * l.w) l.initial.out

abbrev pub invariant-loop-x : goal.invariant-loop-x
invariant-loop-x g l = (f : ℕ → ℕ → ℕ) → Makes (goal.F-post g l.word) l.w l.rows f → l.out ≡ swept f 0 (l.y * l.w + l.x) l.fn.out
