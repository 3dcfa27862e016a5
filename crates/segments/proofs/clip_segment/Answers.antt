-- Kept, or cut by the two parameters.
use Rattle.segments.proofs.Sides.{is-kept, is_cut, is-end}
use Rattle.segments.proofs.clip_segment.Goals as goal

pub returns-then-is_kept : goal.returns-then-is_kept
returns-then-is_kept c =
    let a = c.args in
    let z = c.ranges in
    is-kept a.x1 a.y1 a.x2 a.y2 a.width a.height z.x1 z.y1 z.x2 z.y2 c.is_kept.result c.is_kept.ensures c.if-is_kept.true

pub returns-in_err-part : goal.returns-in_err-part
returns-in_err-part c =
    let a = c.args in
    let z = c.ranges in
    rw c.from_residual.ensures
    (is_cut a.x1 a.y1 a.x2 a.y2 a.width a.height z.x1 z.y1 z.x2 z.y2 c.is_kept.result _ c.is_kept.ensures c.if-is_kept.false c.in_err-part.ensures)

pub returns : goal.returns
returns c =
    let a = c.args in
    let z = c.ranges in
    rw (
      is-end a.x1 a.x2 _ _ z.x1 z.x2 c.end_at.ensures,
      is-end a.y1 a.y2 _ _ z.y1 z.y2 c.end_at-2.ensures,
      is-end a.x1 a.x2 _ _ z.x1 z.x2 c.end_at-3.ensures,
      is-end a.y1 a.y2 _ _ z.y1 z.y2 c.end_at-4.ensures,
    )
    (is_cut a.x1 a.y1 a.x2 a.y2 a.width a.height z.x1 z.y1 z.x2 z.y2 c.is_kept.result _ c.is_kept.ensures c.if-is_kept.false c.in_ok-part.ensures)
