-- What is passed before the end answers otherwise.
use Rattle.curves.specs.Pies.{covers}
use Rattle.curves.proofs.Runs.{Passed}
use Rattle.curves.proofs.pies.next.Given as goal

abbrev pub invariant-loop-i : goal.invariant-loop-i
invariant-loop-i l = Passed (λ k. covers (record { oval = l.o; sweep = l.s; degrees = l.d }) k l.y) l.taken l.x l.x1 l.i
