-- What is done was not read again after it was written.
use native.Mathlib.Omega.{arith}
use Rattle.std.proofs.Common.{rules}
use mathlib.Core.Path.{◌≡◌, refl}
use mathlib.Core.Bool.{cond}
use Prim.Native.Nat.{◌-◌}
use borrow.Author.Tests.{le-leb, lt-leb}
use lib.Dec.{leb}
use Rattle.images.proofs.copy.Moves.{screen_of, way_of, rows_none, rows_more}
use Rattle.images.proofs.copy.copy_part.Goals as goal
use Rattle.images.proofs.copy.copy_part.Goals.{then-below, else-below}

pub loop-k-init : goal.loop-k-init
loop-k-init c = rows_none

pub loop-k-preserved : goal.loop-k-preserved
loop-k-preserved c =
    let part = c.args.part in
    let pre = c.requires in
    let l = c.loop-k in
    let start : c.if-below.at ≡ cond (leb part.y part.sy) l.k (part.h - l.k - 1)
    = elim c.if-below.branch [ then-below w ↦ rw (le-leb part.y part.sy w.if-below.true) w.at-is | else-below w ↦ rw (lt-leb part.y part.sy w.if-below.false) w.at-is ] in
    rows_more _ _ (screen_of pre.sized (λ i. search rules)) _ _ _ _ _ _ pre.placed.wide pre.placed.columns pre.placed.high pre.placed.rows
    _ (way_of part.y part.sy _ refl) _ _ _ _ l.invariant (omega arith) start c.copy_row.ensures
