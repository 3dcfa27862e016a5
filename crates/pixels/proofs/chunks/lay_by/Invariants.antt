-- What is left of the words leads to the same end as all of them.
use Prim.Native.Nat.{◌+◌, ◌-◌}
use lib.ListN.{length}
use Rattle.pixels.specs.Rows.{run, marks, laid}
use Rattle.pixels.proofs.rows.Rows.{Rest}
use Rattle.pixels.proofs.chunks.lay_by.Given as goal

abbrev pub invariant-loop-i : goal.invariant-loop-i
invariant-loop-i g l = Rest l.canvas (marks (laid l.ws l.x) (run (l.x + l.i) (l.x + length l.ws - (l.x + l.i))) l.y) l.b (marks (laid l.ws l.x) (run l.x (length l.ws)) l.y) l.initial.b
