-- One end after the other.
use Rattle.segments.proofs.Near.{is-inside, both_inside, first-outside}
use Rattle.segments.proofs.is_kept.Goals as goal

pub is_inside-requires : goal.is_inside-requires
is_inside-requires c = tt

pub is_inside-requires-then-is_inside : goal.is_inside-requires-then-is_inside
is_inside-requires-then-is_inside c = tt

pub returns-then-is_inside : goal.returns-then-is_inside
returns-then-is_inside c =
    let a = c.args in
    let z = c.ranges in
    let s = c.is_inside in
    let t = c.is_inside-then-is_inside in
    both_inside a.x1 a.y1 a.x2 a.y2 a.width a.height s.result t.result
    (is-inside a.width a.height a.x1 a.y1 z.x1 z.y1 s.result s.ensures)
    c.if-is_inside.true
    (is-inside a.width a.height a.x2 a.y2 z.x2 z.y2 t.result t.ensures)

pub returns : goal.returns
returns c =
    let a = c.args in
    let z = c.ranges in
    let s = c.is_inside in
    let first = is-inside a.width a.height a.x1 a.y1 z.x1 z.y1 s.result s.ensures in
    first-outside a.x1 a.y1 a.x2 a.y2 a.width a.height s.result first c.if-is_inside.false
