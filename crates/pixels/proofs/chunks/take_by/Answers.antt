-- The words before i are taken.
use native.Mathlib.Omega.{arith}
use Prim.Native.Nat.{◌+◌}
use Rattle.pixels.proofs.bytes.Places.{word_le, scaled-le, in_place}
use Rattle.pixels.proofs.chunks.Chunks.{filled_none, filled_more, filled_all}
use Rattle.pixels.proofs.chunks.take_by.Goals as goal

pub loop-i-init : goal.loop-i-init
loop-i-init g c = filled_none

pub overflow_mul-index : goal.overflow_mul-index
overflow_mul-index g c = record { fits = omega (arith, scaled-le c.args.canvas _ g.row.N c.index.ensures.1 c.requires.1.1.1) }

pub word-requires-clause-room : goal.word-requires-clause-room
word-requires-clause-room g c =
    let a = c.args in
    let l = c.loop-i in
    let p₀ = c.requires in
    in_place a.canvas a.b.now (a.x + l.i) a.y _ g.row.N p₀.0
    (record { across = omega (arith, c.loop-i-test.true, p₀.1.0); down = p₀.1.1.0 }) c.index.ensures.0 p₀.1.1.1

pub word-requires-clause-fits : goal.word-requires-clause-fits
word-requires-clause-fits g c = word_le c.args.canvas g.row.N c.requires.1.1.1

pub loop-i-preserved : goal.loop-i-preserved
loop-i-preserved g c =
    let a = c.args in
    let l = c.loop-i in
    let p₀ = c.requires in
    filled_more a.canvas a.b.now a.y a.x l.i _ g.row.N l.ws a.ws.now p₀.0
    (record { across = omega (arith, c.loop-i-test.true, p₀.1.0); down = p₀.1.1.0 }) c.index.ensures.0 p₀.1.1.1 l.invariant
    c.loop-i-test.true _ c.word.ensures.0

pub returns : goal.returns
returns g c = filled_all c.loop-i.invariant c.loop-i-test.false
