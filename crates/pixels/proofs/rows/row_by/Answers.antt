-- What is left of the row leads to the same end as all of it.
use native.Mathlib.Omega.{arith}
use Rattle.words.specs.Ink.{inked}
use Rattle.pixels.specs.Rows.{flat, mark}
use Rattle.pixels.proofs.bytes.Places.{word_le, scaled-le, in_place}
use Rattle.pixels.proofs.rows.Rows.{rest-sized, rest-turn, rest_end, row_touch}
use Rattle.pixels.proofs.rows.row_by.Goals as goal

pub overflow_mul-index : goal.overflow_mul-index
overflow_mul-index g c = record { fits = omega (arith, scaled-le c.args.canvas _ g.row.N c.index.ensures.1 c.requires.1.1.1) }

pub touch-requires-clause-room : goal.touch-requires-clause-room
touch-requires-clause-room g c =
    let a = c.args in
    let l = c.loop-x in
    let p₀ = c.requires in
    in_place a.canvas l.b l.x a.y _ g.row.N (rest-sized l.invariant p₀.0)
    (record { across = omega (arith, c.loop-x-test.true, p₀.1.0); down = p₀.1.1.0 }) c.index.ensures.0 p₀.1.1.1

pub touch-requires-clause-fits : goal.touch-requires-clause-fits
touch-requires-clause-fits g c = word_le c.args.canvas g.row.N c.requires.1.1.1

pub loop-x-preserved : goal.loop-x-preserved
loop-x-preserved g c =
    let a = c.args in
    let l = c.loop-x in
    let p₀ = c.requires in
    rest-turn a.canvas (mark (flat (inked a.ink)) a.y) l.x a.x1 l.invariant c.loop-x-test.true
    (row_touch a.canvas l.b l.x a.y _ g.row.N (rest-sized l.invariant p₀.0)
    (record { across = omega (arith, c.loop-x-test.true, p₀.1.0); down = p₀.1.1.0 }) c.index.ensures.0 p₀.1.1.1 (inked a.ink) _ c.touch.ensures)

pub returns : goal.returns
returns g c =
    let a = c.args in
    let l = c.loop-x in
    rest_end a.canvas (mark (flat (inked a.ink)) a.y) l.x a.x1 l.invariant c.loop-x-test.false
