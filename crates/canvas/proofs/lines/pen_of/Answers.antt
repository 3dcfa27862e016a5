-- The first end, lifted.
use Rattle.canvas.proofs.lines.Follows.{sets, pen_is, sum_fits}
use Rattle.canvas.proofs.lines.pen_of.Goals as goal

pub overflow_add-result : goal.overflow_add-result
overflow_add-result c =
    record {
      fits = sum_fits c.args.s (record {
        x1 = record { sfits = c.struct_told-1.given.0.1 };
        y1 = record { sfits = c.struct_told-1.given.1.0.1 };
        x2 = record { sfits = c.struct_told-1.given.1.1.0.1 };
        y2 = record { sfits = c.struct_told-1.given.1.1.1.0.1 };
      }) c.lift-x.result c.lift-y.result c.lift.result c.lift-2.result
          c.abs_diff-dx.result c.abs_diff-dy.result c.lift-x.ensures c.lift-y.ensures c.lift.ensures c.lift-2.ensures
          c.abs_diff-dx.ensures c.abs_diff-dy.ensures;
    }

pub returns : goal.returns
returns c = (
  pen_is c.args.s (record {
    x1 = record { sfits = c.struct_told-1.given.0.1 };
    y1 = record { sfits = c.struct_told-1.given.1.0.1 };
    x2 = record { sfits = c.struct_told-1.given.1.1.0.1 };
    y2 = record { sfits = c.struct_told-1.given.1.1.1.0.1 };
  }) c.lift-x.result c.lift-y.result c.lift.result c.lift-2.result
      c.abs_diff-dx.result c.abs_diff-dy.result c.lift-x.ensures c.lift-y.ensures c.lift.ensures c.lift-2.ensures
      c.abs_diff-dx.ensures c.abs_diff-dy.ensures,
  sets c.args.s
      (record {
        x1 = record { sfits = c.struct_told-1.given.0.1 };
        y1 = record { sfits = c.struct_told-1.given.1.0.1 };
        x2 = record { sfits = c.struct_told-1.given.1.1.0.1 };
        y2 = record { sfits = c.struct_told-1.given.1.1.1.0.1 };
      }),
)
