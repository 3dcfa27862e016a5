-- A rule less 1 is above 1 unless it is 1 or 2.
use Rattle.std.proofs.Common.{arith}
use Rattle.canvas.proofs.faults.Limits.{unruly_is}
use Rattle.canvas.proofs.faults.is_unruly.Goals as goal

pub returns : goal.returns
returns c = unruly_is c.args.rule _ (omega arith) c.ranges.rule.fits (omega (arith, c.ranges.rule.fits))
