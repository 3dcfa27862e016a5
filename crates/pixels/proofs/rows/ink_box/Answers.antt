-- What is left of the rows leads to the same end as all of them.
use native.Mathlib.Omega.{arith}
use Prim.Native.Nat.{◌-◌}
use Rattle.words.specs.Ink.{inked}
use Rattle.pixels.specs.Rows.{run, flat, marks}
use Rattle.pixels.proofs.rows.Rows.{rest-start, rest-length, rest-sized, rest-turn, rest_end}
use Rattle.pixels.proofs.rows.ink_box.Goals as goal

pub loop-y-init : goal.loop-y-init
loop-y-init c = rest-start

pub ink_row-requires : goal.ink_row-requires
ink_row-requires c = (rest-sized c.loop-y.invariant c.requires.0, (c.requires.1.0, omega (arith, c.loop-y-test.true, c.requires.1.1)))

pub loop-y-preserved : goal.loop-y-preserved
loop-y-preserved c = rest-turn c.args.canvas (marks (flat (inked c.args.ink)) (run c.args.xs.from (c.args.xs.to - c.args.xs.from))) c.loop-y.y c.args.ys.to c.loop-y.invariant c.loop-y-test.true c.ink_row.ensures

pub shape_of-b : goal.shape_of-b
shape_of-b c = rest-length c.loop-y.invariant

pub returns : goal.returns
returns c = rest_end c.args.canvas (marks (flat (inked c.args.ink)) (run c.args.xs.from (c.args.xs.to - c.args.xs.from))) c.loop-y.y c.args.ys.to c.loop-y.invariant c.loop-y-test.false
