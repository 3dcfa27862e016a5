-- What is done was not read again after it was written.
use native.Mathlib.Omega.{arith}
use Rattle.std.proofs.Common.{rules}
use mathlib.Core.Path.{◌≡◌, refl}
use mathlib.Core.Bool.{cond}
use Prim.Native.Nat.{◌-◌}
use borrow.Author.Tests.{le-leb, lt-leb}
use lib.Dec.{leb}
use Rattle.images.proofs.copy.Moves.{screen_of, way_of, row_none, row_more}
use Rattle.images.proofs.copy.copy_row.Goals as goal
use Rattle.images.proofs.copy.copy_row.Goals.{then-right, else-right}

pub loop-k-init : goal.loop-k-init
loop-k-init c = row_none

pub loop-k-preserved : goal.loop-k-preserved
loop-k-preserved c =
    let a = c.args in
    let pre = c.requires in
    let l = c.loop-k in
    let m = c.min-m.result in
    let start : c.if-right.at ≡ cond (leb a.x a.sx) l.k (a.n - l.k - m)
    = elim c.if-right.branch [ then-right w ↦ rw (le-leb a.x a.sx w.if-right.true) w.at-is | else-right w ↦ rw (lt-leb a.x a.sx w.if-right.false) w.at-is ] in
    row_more _ _ (screen_of pre.sized (λ i. search rules)) _ _ _ _ _ pre.wide pre.columns pre.high pre.rows _ (way_of a.x a.sx _ refl)
    _ m _ _ _ l.invariant (omega arith) start c.copy_chunk.ensures
