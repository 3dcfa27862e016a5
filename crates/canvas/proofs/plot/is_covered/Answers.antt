-- One test in place of the definition's two.
use Rattle.std.proofs.Common.{arith}
use Rattle.canvas.proofs.plot.Dabs.{past}
use Rattle.canvas.proofs.plot.is_covered.Goals as goal

pub returns : goal.returns
returns c =
    let p = c.requires in
    past c.args.s c.args.p _ p.0 p.1 c.ranges.p.fits (omega arith) (omega (arith, p.0, p.1, c.ranges.p.fits))
