-- `spots_of` meets its contract: the first j are worked out. Assumes nothing.
use Rattle.std.proofs.Common.{arith}
use lib.Ieee.{Float}
use Rattle.floats.specs.Whole.{lifted}
use Rattle.curves.specs.Strokes.{x_at, y_at}
use Rattle.curves.proofs.strokes.Sixteen.{filled_none, filled_more, mapped}
use Rattle.curves.proofs.strokes.spots_of.Goals as goal

pub loop-j-init : goal.loop-j-init
loop-j-init c = (filled_none c.told-ps, filled_none c.told-qs)

pub offset_bounds-cs-j : goal.offset_bounds-cs-j
offset_bounds-cs-j c = omega (arith, c.loop-j-test.true)

pub bounds-cs-j : goal.bounds-cs-j
bounds-cs-j c = omega (arith, c.loop-j-test.true, c.told-cs)

pub round_lifted-requires : goal.round_lifted-requires
round_lifted-requires c = tt

pub offset_bounds-ps-j : goal.offset_bounds-ps-j
offset_bounds-ps-j c = omega (arith, c.loop-j-test.true)

pub bounds-ps-j : goal.bounds-ps-j
bounds-ps-j c = omega (arith, c.loop-j-test.true, c.loop-j.invariant.0.long)

pub offset_bounds-ss-j : goal.offset_bounds-ss-j
offset_bounds-ss-j c = omega (arith, c.loop-j-test.true)

pub bounds-ss-j : goal.bounds-ss-j
bounds-ss-j c =
    omega (arith, c.loop-j-test.true, c.told-ss)

pub round_lifted-requires-in-loop-j : goal.round_lifted-requires-in-loop-j
round_lifted-requires-in-loop-j c = tt

pub offset_bounds-qs-j : goal.offset_bounds-qs-j
offset_bounds-qs-j c = omega (arith, c.loop-j-test.true)

pub bounds-qs-j : goal.bounds-qs-j
bounds-qs-j c =
    omega (arith, c.loop-j-test.true, c.loop-j.invariant.1.long)

pub loop-j-preserved : goal.loop-j-preserved
unfolding x_at y_at
loop-j-preserved c =
    let i = c.loop-j.invariant in
    (filled_more c.round_lifted.result c.loop-j-test.true c.round_lifted.ensures i.0, filled_more c.round_lifted-in-loop-j.result c.loop-j-test.true c.round_lifted-in-loop-j.ensures i.1)

pub returns : goal.returns
returns c =
    let l = c.loop-j in
    let a = c.args in record {
      ps_after = mapped 0 (λ (x : Float). lifted (x_at a.o x)) a.cs.now l.ps c.told-cs c.loop-j-test.false l.invariant.0;
      qs_after = mapped 0 (λ (x : Float). lifted (y_at a.o x)) a.ss.now l.qs c.told-ss c.loop-j-test.false l.invariant.1;
    }
