-- What is left of the rows leads to the same end as all of them.
use Rattle.std.proofs.Common.{◌-◌, arith}
use Rattle.words.specs.Ink.{inked}
use Rattle.pixels.specs.Rows.{run}
use Rattle.ovals.specs.Sift.{sifts, takes}
use Rattle.ovals.proofs.runs.Sifts.{left-sized, rows-room, rows-turn, rows_end}
use Rattle.ovals.proofs.runs.Rows.{in_rows, rising_row, run_of}
use Rattle.ovals.proofs.runs.Asked.{asks_row}
use Rattle.ovals.proofs.runs.run_box.Goals as goal

pub first-r-requires : goal.first-r-requires
first-r-requires c =
    let area = c.args.area in
    let p = c.requires in
    let i = c.loop-y.invariant in
    let among = in_rows area.q _ _ _ _ p.rows i.0.from c.loop-y-test.true in
    (p.bounded.columns, (rising_row area.sx area.sy p.bounded.columns p.bounded.rows c.part-row.result _ c.part-row.ensures among, i.1))

pub run_row-n-requires : goal.run_row-n-requires
run_row-n-requires c =
    let a = c.args in
    let p = c.requires in
    let l = c.loop-y in
    let i = l.invariant.0 in
    let taken = c.loop-y-test.true in
    let hits = sifts (takes a.area) (inked a.ink) (run a.xs.from (a.xs.to - a.xs.from)) in
    record {
      sized = left-sized i.left p.sized;
      ordered = p.ordered;
      wide = p.wide;
      high = omega (arith, taken, p.high);
      bounded = p.bounded;
      row = run_of a.area.sx _ _ c.part-row.ensures c.first-r.ensures;
      lies = p.columns;
      room = rows-room a.canvas hits l.y a.ys.to i.left taken p.room;
      swept = asks_row a.area.pie _ _ _ _ _ _ _ _ _ p.bounded.asks p.columns p.rows i.from taken
          (omega (arith, p.sized.wide, p.wide)) (omega (arith, p.sized.high, p.high));
    }

pub loop-y-preserved : goal.loop-y-preserved
loop-y-preserved c =
    let a = c.args in
    let l = c.loop-y in
    let hits = sifts (takes a.area) (inked a.ink) (run a.xs.from (a.xs.to - a.xs.from)) in
    let next = rows-turn a.canvas hits l.y a.ys.to l.invariant.0.left c.loop-y-test.true _ c.run_row-n.ensures in
    (record { from = omega (arith, l.invariant.0.from); left = next }, omega (arith, c.min-i-in-loop-y.ensures, c.requires.bounded.columns.some))

pub returns : goal.returns
returns c =
    let a = c.args in
    let l = c.loop-y in
    rows_end a.canvas (sifts (takes a.area) (inked a.ink) (run a.xs.from (a.xs.to - a.xs.from))) l.y a.ys.to l.invariant.0.left c.loop-y-test.false
