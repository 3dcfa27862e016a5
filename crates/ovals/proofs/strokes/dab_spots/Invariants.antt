-- What is left of the points leads to the same end.
use Rattle.words.specs.Ink.{inked}
use Rattle.canvas.specs.Walk.{work}
use Rattle.ovals.proofs.strokes.Stroking.{Spotting}
use Rattle.ovals.proofs.strokes.dab_spots.Given as goal

abbrev pub invariant-loop-j : goal.invariant-loop-j
invariant-loop-j l = Spotting l.ps l.qs l.canvas l.xs l.ys (inked l.ink) l.m l.j (work l.b l.t) (work l.initial.b l.initial.t)
