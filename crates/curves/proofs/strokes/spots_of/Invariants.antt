-- `spots_of` meets its contract: the first j are worked out. Assumes nothing.
use Rattle.std.proofs.Common.{ℕ, get_or}
use lib.Ieee.{nan}
use Rattle.floats.specs.Whole.{lifted}
use Rattle.curves.specs.Strokes.{x_at, y_at}
use Rattle.curves.proofs.strokes.Sixteen.{Filled}
use Rattle.curves.proofs.strokes.spots_of.Given as goal

abbrev pub invariant-loop-j : goal.invariant-loop-j
invariant-loop-j l = (Filled 0 (λ (i : ℕ). lifted (x_at l.o (get_or l.cs i nan))) l.j l.ps) × (Filled 0 (λ (i : ℕ). lifted (y_at l.o (get_or l.ss i nan))) l.j l.qs)
