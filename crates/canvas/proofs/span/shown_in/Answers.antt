-- The largest start and the smallest end, lowered and held to the side.
use Rattle.std.proofs.Common.{refl, arith}
use Rattle.canvas.proofs.span.Lifts.{lift_lt}
use Rattle.canvas.proofs.span.Spans.{is-shown}
use Rattle.canvas.proofs.span.shown_in.Goals as goal

pub overflow_add-u : goal.overflow_add-u
overflow_add-u c =
    record { fits = omega (arith, lift_lt c.args.c _ c.ranges.c c.lift-u.ensures, c.ranges.k.fits) }

pub returns : goal.returns
returns c =
    is-shown c.args.c _ _ _ _ c.ranges.c c.lift-u.ensures c.args.p c.args.s _ _ _ _ _ _ _ refl c.max.ensures
    (rw c.saturating_sub.ensures at c.max-from.ensures) c.min-end.ensures (rw c.saturating_sub-2.ensures at c.min.ensures)
    c.side_between.ensures
