-- The larger start and the smaller end, lowered and held to the side.
use Rattle.std.proofs.Common.{arith}
use Rattle.canvas.proofs.span.Lifts.{lift_lt}
use Rattle.canvas.proofs.span.Spans.{is_overlap}
use Rattle.canvas.proofs.span.overlap.Goals as goal

pub overflow_add-u : goal.overflow_add-u
overflow_add-u c =
    record { fits = omega (arith, lift_lt c.args.c _ c.ranges.c c.lift-u.ensures, c.ranges.m.fits) }

pub returns : goal.returns
returns c =
    is_overlap c.args.c _ _ _ _ c.ranges.c c.lift-u.ensures _ _ _ _ c.max.ensures c.min-end.ensures c.side_between.ensures
