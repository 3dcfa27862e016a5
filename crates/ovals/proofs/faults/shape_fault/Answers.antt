-- The tests of the definition, in its order.
use Rattle.std.proofs.Common.{pos, negsuc, refl, le-ltb, lt-ltb}
use Rattle.ovals.specs.Faults.{shape_fault}
use Rattle.ovals.proofs.faults.Bounds.{told}
use Rattle.ovals.proofs.faults.shape_fault.Goals as goal
use Rattle.ovals.proofs.faults.shape_fault.Goals.{then-beyond-via-then-beyond, then-beyond-via-else-beyond+then-beyond-2, then-beyond-via-else-beyond+else-beyond-2+then-w-gt32767, then-beyond-via-else-beyond+else-beyond-2+else-w-gt32767+then-h-gt32767}

pub returns-then-beyond : goal.returns-then-beyond
unfolding shape_fault
returns-then-beyond c =
    let a = c.args in
    let f = c.ranges in
    elim c.then-beyond.branch [
      | then-beyond-via-then-beyond w ↦ rw (told (negsuc 32767) (pos 32767) a.x f.x c.beyond.ensures w.if-beyond.true) refl
      | then-beyond-via-else-beyond+then-beyond-2 w ↦
          rw (
            told (negsuc 32767) (pos 32767) a.x f.x c.beyond.ensures w.if-beyond.false,
            told (negsuc 32767) (pos 32767) a.y f.y w.beyond-else-beyond.ensures w.if-beyond-2.true,
          ) refl
      | then-beyond-via-else-beyond+else-beyond-2+then-w-gt32767 w ↦
          rw (
            told (negsuc 32767) (pos 32767) a.x f.x c.beyond.ensures w.if-beyond.false,
            told (negsuc 32767) (pos 32767) a.y f.y w.beyond-else-beyond.ensures w.if-beyond-2.false,
            lt-ltb _ _ w.if-w-gt32767.true,
          ) refl
      | then-beyond-via-else-beyond+else-beyond-2+else-w-gt32767+then-h-gt32767 w ↦
          rw (
            told (negsuc 32767) (pos 32767) a.x f.x c.beyond.ensures w.if-beyond.false,
            told (negsuc 32767) (pos 32767) a.y f.y w.beyond-else-beyond.ensures w.if-beyond-2.false,
            le-ltb _ _ w.if-w-gt32767.false,
            lt-ltb _ _ w.if-h-gt32767.true,
          ) refl
    ]

pub returns : goal.returns
unfolding shape_fault
returns c =
    let a = c.args in
    let f = c.ranges in
    rw (
      told (negsuc 32767) (pos 32767) a.x f.x c.beyond.ensures c.if-beyond.false,
      told (negsuc 32767) (pos 32767) a.y f.y c.beyond-else-beyond.ensures c.if-beyond-2.false,
      le-ltb _ _ c.if-w-gt32767.false,
      le-ltb _ _ c.if-h-gt32767.false,
    ) refl
