-- What is left of the trail leads to the same end.
use Rattle.words.specs.Ink.{inked}
use Rattle.canvas.specs.Walk.{work}
use Rattle.canvas.specs.Trail.{ahead, trail}
use Rattle.canvas.proofs.lines.Loops.{OnWay}
use Rattle.canvas.proofs.lines.walk.Given as goal

abbrev pub invariant-loop-s : goal.invariant-loop-s
invariant-loop-s l = OnWay l.canvas l.xs l.ys (inked l.ink) l.way l.s (work l.b l.t) (trail l.way (ahead l.way l.initial.s) l.initial.s) (work l.initial.b l.initial.t)

abbrev pub decreases-loop-s : goal.decreases-loop-s
decreases-loop-s l = ahead l.way l.s
