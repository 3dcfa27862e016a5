-- `at_most_255` meets its contract, by its test.
use lib.Ieee.{of_bits}
use Rattle.blending.specs.Inner.{lowered}
use Rattle.blending.proofs.cut.at_most_255.Goals as goal

pub returns-then-x : goal.returns-then-x
unfolding lowered of_bits
returns-then-x c = rw c.if-x.true

pub returns : goal.returns
unfolding lowered of_bits
returns c = rw c.if-x.false
