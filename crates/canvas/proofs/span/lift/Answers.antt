-- What is 2^31 above a signed number is not negative.
use Rattle.std.proofs.Common.{◌∙◌}
use Rattle.canvas.proofs.span.Lifts.{raised_is}
use Rattle.canvas.proofs.span.lift.Goals as goal

pub returns : goal.returns
returns c = c.wrapping_add_signed.ensures ∙ raised_is c.args.x c.ranges.x
