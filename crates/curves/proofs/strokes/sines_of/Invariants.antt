-- `sines_of` meets its contract: the first j are worked out. Assumes nothing.
use Rattle.std.proofs.Common.{ℕ, get_or}
use lib.Ieee.{nan}
use Rattle.angle.specs.Sine.{sine_of, cosine_of}
use Rattle.curves.proofs.strokes.Sixteen.{Filled}
use Rattle.curves.proofs.strokes.sines_of.Given as goal

abbrev pub invariant-loop-j : goal.invariant-loop-j
invariant-loop-j l = (Filled nan (λ (i : ℕ). sine_of (get_or l.ts i nan)) l.j l.ss) × (Filled nan (λ (i : ℕ). cosine_of (get_or l.ts i nan)) l.j l.cs)
