-- `nearest_to` meets its contract: up to 2 ^ 24 each whole number is an f32. Assumes nothing.
use Rattle.std.proofs.Common.{le→leb}
use lib.Ieee.{in_float}
use Rattle.curves.proofs.strokes.nearest_to.Goals as goal

pub int_to_float-result : goal.int_to_float-result
unfolding in_float
int_to_float-result c = le→leb c.args.n 0x100_0000 c.if-n-le16777216.true
