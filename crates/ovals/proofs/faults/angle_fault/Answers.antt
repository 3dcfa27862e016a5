-- The tests of the definition, the start first.
use Rattle.std.proofs.Common.{pos, negsuc, refl}
use Rattle.ovals.specs.Faults.{angle_fault}
use Rattle.ovals.proofs.faults.Bounds.{told}
use Rattle.ovals.proofs.faults.angle_fault.Goals as goal
use Rattle.ovals.proofs.faults.angle_fault.Goals.{then-beyond-via-then-beyond, then-beyond-via-else-beyond+then-beyond-2}

pub returns-then-beyond : goal.returns-then-beyond
unfolding angle_fault
returns-then-beyond c =
    let a = c.args in
    let f = c.ranges in
    elim c.then-beyond.branch [
      | then-beyond-via-then-beyond w ↦ rw (told (negsuc 719) (pos 720) a.start f.start c.beyond.ensures w.if-beyond.true) refl
      | then-beyond-via-else-beyond+then-beyond-2 w ↦
          rw (
            told (negsuc 719) (pos 720) a.start f.start c.beyond.ensures w.if-beyond.false,
            told (negsuc 719) (pos 720) a.arc f.arc w.beyond-else-beyond.ensures w.if-beyond-2.true,
          ) refl
    ]

pub returns : goal.returns
unfolding angle_fault
returns c =
    let a = c.args in
    let f = c.ranges in
    rw (
      told (negsuc 719) (pos 720) a.start f.start c.beyond.ensures c.if-beyond.false,
      told (negsuc 719) (pos 720) a.arc f.arc c.beyond-else-beyond.ensures c.if-beyond-2.false,
    ) refl
