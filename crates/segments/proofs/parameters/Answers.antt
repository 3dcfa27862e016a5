-- The four sides in their order; where one leaves nothing, nothing is left.
use lib.Ieee.{of_bits}
use Rattle.segments.proofs.Sides.{still, cut_by}
use Rattle.segments.proofs.parameters.Goals as goal

pub returns-in_err-left : goal.returns-in_err-left
unfolding of_bits
returns-in_err-left c =
    let a = c.args in
    let z = c.ranges in
    rw c.from_residual.ensures
    (cut_by a.x1 a.y1 a.x2 a.y2 a.width a.height z.x1 z.y1 z.x2 z.y2 _ _ _ _ c.in_err-left.ensures (still _ _) (still _ _) (still _ _))

pub returns-in_err-right : goal.returns-in_err-right
unfolding of_bits
returns-in_err-right c =
    let a = c.args in
    let z = c.ranges in
    rw c.from_residual-in_err-right.ensures
    (cut_by a.x1 a.y1 a.x2 a.y2 a.width a.height z.x1 z.y1 z.x2 z.y2 _ _ _ _ c.in_ok-left.ensures c.in_err-right.ensures (still _ _) (still _ _))

pub returns-in_err-top : goal.returns-in_err-top
unfolding of_bits
returns-in_err-top c =
    let a = c.args in
    let z = c.ranges in
    rw c.from_residual-in_err-top.ensures
    (cut_by a.x1 a.y1 a.x2 a.y2 a.width a.height z.x1 z.y1 z.x2 z.y2 _ _ _ _ c.in_ok-left.ensures c.in_ok-right.ensures c.in_err-top.ensures (still _ _))

pub returns-in_err-bottom : goal.returns-in_err-bottom
unfolding of_bits
returns-in_err-bottom c =
    let a = c.args in
    let z = c.ranges in
    rw c.from_residual-in_err-bottom.ensures
    (cut_by a.x1 a.y1 a.x2 a.y2 a.width a.height z.x1 z.y1 z.x2 z.y2 _ _ _ _ c.in_ok-left.ensures c.in_ok-right.ensures c.in_ok-top.ensures c.in_err-bottom.ensures)

pub returns-then-bottom : goal.returns-then-bottom
unfolding of_bits
returns-then-bottom c =
    let a = c.args in
    let z = c.ranges in
    rw c.if-bottom.true at
    (cut_by a.x1 a.y1 a.x2 a.y2 a.width a.height z.x1 z.y1 z.x2 z.y2 _ _ _ _ c.in_ok-left.ensures c.in_ok-right.ensures c.in_ok-top.ensures c.in_ok-bottom.ensures)

pub returns : goal.returns
unfolding of_bits
returns c =
    let a = c.args in
    let z = c.ranges in
    rw c.if-bottom.false at
    (cut_by a.x1 a.y1 a.x2 a.y2 a.width a.height z.x1 z.y1 z.x2 z.y2 _ _ _ _ c.in_ok-left.ensures c.in_ok-right.ensures c.in_ok-top.ensures c.in_ok-bottom.ensures)
