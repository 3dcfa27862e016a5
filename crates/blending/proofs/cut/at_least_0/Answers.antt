-- `at_least_0` meets its contract, by its test.
use lib.Ieee.{of_bits}
use Rattle.blending.specs.Inner.{raised}
use Rattle.blending.proofs.cut.at_least_0.Goals as goal

pub returns-then-x : goal.returns-then-x
unfolding raised of_bits
returns-then-x c = rw c.if-x.true

pub returns : goal.returns
unfolding raised of_bits
returns c = rw c.if-x.false
