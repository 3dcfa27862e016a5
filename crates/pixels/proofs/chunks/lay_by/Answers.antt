-- What is left of the words leads to the same end as all of them.
use native.Mathlib.Omega.{arith}
use mathlib.Core.Path.{refl}
use Prim.Native.Nat.{◌+◌}
use native.Mathlib.Nat.{add-zero, add_assoc}
use lib.ListN.{length}
use Rattle.pixels.specs.Rows.{mark, laid}
use Rattle.pixels.proofs.bytes.Places.{word_le, scaled-le, in_place}
use Rattle.pixels.proofs.rows.Rows.{rest-sized, rest-turn, rest_end}
use Rattle.pixels.proofs.chunks.Chunks.{sub-start, lay_one}
use Rattle.pixels.proofs.chunks.lay_by.Goals as goal

pub loop-i-init : goal.loop-i-init
loop-i-init g c =
    let a = c.args in
    record { same = rw (add-zero a.x, sub-start a.x (length a.ws.now)) refl }

pub overflow_mul-index : goal.overflow_mul-index
overflow_mul-index g c = record { fits = omega (arith, scaled-le c.args.canvas _ g.row.N c.index.ensures.1 c.requires.1.1.1) }

pub put-requires-clause-room : goal.put-requires-clause-room
put-requires-clause-room g c =
    let a = c.args in
    let l = c.loop-i in
    let p₀ = c.requires in
    in_place a.canvas l.b (a.x + l.i) a.y _ g.row.N (rest-sized l.invariant p₀.0)
    (record { across = omega (arith, c.loop-i-test.true, p₀.1.0); down = p₀.1.1.0 }) c.index.ensures.0 p₀.1.1.1

pub put-requires-clause-fits : goal.put-requires-clause-fits
put-requires-clause-fits g c = word_le c.args.canvas g.row.N c.requires.1.1.1

pub loop-i-preserved : goal.loop-i-preserved
loop-i-preserved g c =
    let a = c.args in
    let l = c.loop-i in
    let p₀ = c.requires in
    rw (← add_assoc a.x l.i 1)
    (rest-turn a.canvas (mark (laid a.ws.now a.x) a.y) (a.x + l.i) (a.x + length a.ws.now) l.invariant (omega (arith, c.loop-i-test.true))
    (lay_one a.canvas l.b a.y a.x (a.x + l.i) _ g.row.N a.ws.now (rest-sized l.invariant p₀.0)
    (record { across = omega (arith, c.loop-i-test.true, p₀.1.0); down = p₀.1.1.0 })
    c.index.ensures.0 p₀.1.1.1 _ _ (rw (sub-start a.x l.i) refl) c.put.ensures))

pub returns : goal.returns
returns g c =
    let a = c.args in
    let l = c.loop-i in
    rest_end a.canvas (mark (laid a.ws.now a.x) a.y) (a.x + l.i) (a.x + length a.ws.now) l.invariant (omega (arith, c.loop-i-test.false))
