-- One test in place of the definition's two.
use Rattle.std.proofs.Common.{arith}
use Rattle.canvas.proofs.plot.Fates.{side_around}
use Rattle.canvas.proofs.span.on_side.Goals as goal

pub returns : goal.returns
returns c = side_around c.args.n c.args.p _ c.ranges.n.fits c.ranges.p.fits (omega arith) (omega (arith, c.ranges.p.fits))
