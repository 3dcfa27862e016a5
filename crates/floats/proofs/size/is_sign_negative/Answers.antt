-- `is_sign_negative` meets its contract: a zero's sign by its reciprocal, any other's by comparison. Assumes nothing.
use lib.Ieee.{of_bits}
use Rattle.floats.proofs.Range.{yes, no}
use Rattle.floats.proofs.Signs.{sign_zero, sign_other}
use Rattle.floats.proofs.size.is_sign_negative.Goals as goal

pub returns-then-x : goal.returns-then-x
unfolding of_bits
returns-then-x c = sign_zero c.args.x (yes c.if-x.true)

pub returns : goal.returns
unfolding of_bits
returns c = sign_other c.args.x (no c.if-x.false)
