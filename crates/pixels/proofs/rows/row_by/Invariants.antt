-- What is left of the row leads to the same end as all of it.
use Prim.Native.Nat.{◌-◌}
use Rattle.words.specs.Ink.{inked}
use Rattle.pixels.specs.Rows.{run, flat, marks}
use Rattle.pixels.proofs.rows.Rows.{Rest}
use Rattle.pixels.proofs.rows.row_by.Given as goal

abbrev pub invariant-loop-x : goal.invariant-loop-x
invariant-loop-x g l = Rest l.canvas (marks (flat (inked l.ink)) (run l.x (l.x1 - l.x)) l.y) l.b (marks (flat (inked l.ink)) (run l.x0 (l.x1 - l.x0)) l.y) l.initial.b
