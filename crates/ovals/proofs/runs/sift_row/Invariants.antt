-- What is left of the row leads to the same end as all of it; a turn inks one run.
use Rattle.std.proofs.Common.{◌-◌}
use Rattle.words.specs.Ink.{inked}
use Rattle.curves.specs.Pies.{covers}
use Rattle.canvas.specs.Walk.{work}
use Rattle.ovals.proofs.runs.Sifts.{Found}
use Rattle.ovals.proofs.runs.sift_row.Given as goal

abbrev pub invariant-loop-x : goal.invariant-loop-x
invariant-loop-x l = Found l.canvas (covers l.k) (inked l.ink) l.y l.x0 l.x l.x1 (work l.b l.n) (work l.initial.b l.initial.n)

abbrev pub decreases-loop-x : goal.decreases-loop-x
decreases-loop-x l = l.x1 - l.x
