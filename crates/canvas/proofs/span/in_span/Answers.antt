-- One test in place of the definition's two, among lifted numbers.
use Rattle.std.proofs.Common.{arith}
use Rattle.canvas.proofs.span.Lifts.{lift_lt}
use Rattle.canvas.proofs.span.Spans.{span_around}
use Rattle.canvas.proofs.span.in_span.Goals as goal

pub returns : goal.returns
returns c =
    let a = c.args in
    span_around a.a a.n a.p _ c.ranges.a c.lift.ensures _ c.ranges.n.fits c.requires (omega arith)
    (omega (arith, c.requires, lift_lt a.a _ c.ranges.a c.lift.ensures))
