-- `angles` meets its contract: the first j are worked out. Assumes nothing.
use Rattle.std.proofs.Common.{ℕ, ◌+◌}
use lib.Ieee.{nan}
use Rattle.angle.specs.Stroke.{stroke_angle}
use Rattle.curves.proofs.strokes.Sixteen.{Filled}
use Rattle.curves.proofs.strokes.angles.Given as goal

abbrev pub invariant-loop-j : goal.invariant-loop-j
invariant-loop-j l = Filled nan (λ (k : ℕ). stroke_angle l.start l.sweep (l.i + k) l.steps) l.j l.ts
