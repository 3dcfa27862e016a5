-- What is left of the stroke leads to the same end.
use Rattle.std.proofs.Common.{suc, ◌+◌, ◌≤◌, arith}
use Rattle.ovals.proofs.strokes.Stroking.{stroking_room, stroking_turn, stroking_end}
use Rattle.ovals.proofs.strokes.stroke_steps.Goals as goal

pub dab_spots-t-requires-clause-fits : goal.dab_spots-t-requires-clause-fits
dab_spots-t-requires-clause-fits c =
    let a = c.args in
    let p = c.requires in
    stroking_room a.o a.start a.sweep a.steps c.up_to_16-m.result p.1.1.1.0 p.1.1.1.1 (omega (arith, c.up_to_16-m.ensures)) c.loop-i.invariant

pub loop-i-preserved : goal.loop-i-preserved
loop-i-preserved c =
    let a = c.args in
    let k = c.spots_from.ensures in
    let m = c.up_to_16-m in
    let held : c.loop-i.i + m.result ≤ suc a.steps = omega (arith, m.ensures, c.loop-i-test.true) in
    stroking_turn a.o a.start a.sweep a.steps _ (omega (arith, m.ensures)) held k.0 k.1 c.dab_spots-t.ensures c.loop-i.invariant

pub returns : goal.returns
returns c = let a = c.args in stroking_end a.o a.start a.sweep a.steps c.loop-i-test.false c.loop-i.invariant
