-- One coordinate after the other.
use Rattle.segments.proofs.Near.{is-near, insides, outside}
use Rattle.segments.proofs.is_inside.Goals as goal

pub returns-then-is_near : goal.returns-then-is_near
returns-then-is_near c =
    let a = c.args in
    let z = c.ranges in
    let s = c.is_near in
    let t = c.is_near-then-is_near in
    insides a.width a.height a.x a.y s.result t.result
    (is-near a.width a.x z.x s.result s.ensures)
    c.if-is_near.true
    (is-near a.height a.y z.y t.result t.ensures)

pub returns : goal.returns
returns c =
    let a = c.args in
    let z = c.ranges in
    let s = c.is_near in
    outside a.width a.height a.x a.y s.result (is-near a.width a.x z.x s.result s.ensures) c.if-is_near.false
