-- Lifted ends, their distances and directions.
use Rattle.canvas.proofs.lines.Follows.{way_is}
use Rattle.canvas.proofs.lines.way_of.Goals as goal

pub returns : goal.returns
returns c =
    way_is c.args.s (record {
      x1 = record { sfits = c.struct_told-1.given.0.1 };
      y1 = record { sfits = c.struct_told-1.given.1.0.1 };
      x2 = record { sfits = c.struct_told-1.given.1.1.0.1 };
      y2 = record { sfits = c.struct_told-1.given.1.1.1.0.1 };
    }) c.lift-x1.result c.lift-y1.result c.lift-x.result c.lift-y.result
    c.abs_diff.result c.abs_diff-2.result c.lift-x1.ensures c.lift-y1.ensures c.lift-x.ensures c.lift-y.ensures c.abs_diff.ensures
    c.abs_diff-2.ensures
