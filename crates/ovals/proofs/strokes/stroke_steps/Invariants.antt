-- What is left of the stroke leads to the same end.
use Rattle.std.proofs.Common.{suc, ◌-◌}
use Rattle.words.specs.Ink.{inked}
use Rattle.canvas.specs.Walk.{work}
use Rattle.ovals.proofs.strokes.Stroking.{Stroking}
use Rattle.ovals.proofs.strokes.stroke_steps.Given as goal

abbrev pub invariant-loop-i : goal.invariant-loop-i
invariant-loop-i l = Stroking l.o l.start l.sweep l.steps l.canvas l.xs l.ys (inked l.ink) l.i (work l.b l.t) (work l.initial.b l.initial.t)

abbrev pub decreases-loop-i : goal.decreases-loop-i
decreases-loop-i l = suc l.steps - l.i
