-- The two rows, then the two columns.
use Rattle.std.proofs.Common.{arith}
use Rattle.words.specs.Ink.{inked}
use Rattle.canvas.proofs.boxes.Chains.{rows_ready, columns_ready, edges_did}
use Rattle.canvas.proofs.boxes.edges_in.Goals as goal

pub pair_in-n-requires : goal.pair_in-n-requires
pair_in-n-requires c =
    let a = c.args in
    let pre = c.requires in (
      rows_ready a.canvas a.clip (inked a.ink) a.p a.q a.w a.h a.rx a.ry c.between-across.result c.between-along.result
          c.between-across.ensures c.between-along.ensures pre.0,
      (
        omega (arith, pre.1.0, c.ranges.rx),
        (
          omega (arith, pre.1.1.0),
          (omega (arith, pre.1.0, c.ranges.rx), omega (arith, pre.1.1.0, c.ranges.h)),
        ),
      ),
    )

pub pair_in-requires : goal.pair_in-requires
pair_in-requires c =
    let a = c.args in
    let pre = c.requires in (
      columns_ready a.canvas a.clip (inked a.ink) a.p a.q a.w a.h a.rx a.ry c.between-across.result c.between-along.result
          c.between-across.ensures c.between-along.ensures c.pair_in-n.ensures pre.0,
      (
        omega (arith, pre.1.0),
        (
          omega (arith, pre.1.1.0, c.ranges.ry),
          (omega (arith, pre.1.0, c.ranges.w), omega (arith, pre.1.1.0, c.ranges.ry)),
        ),
      ),
    )

pub returns : goal.returns
returns c =
    let a = c.args in
    edges_did a.canvas a.clip (inked a.ink) a.p a.q a.w a.h a.rx a.ry c.between-across.result c.between-along.result
    c.between-across.ensures c.between-along.ensures c.pair_in-n.ensures c.pair_in.ensures
