-- The test is the definition, step by step. Assumes nothing.
use lib.Ieee.{of_bits}
use Rattle.curves.specs.Bulges.{has_at}
use Rattle.curves.proofs.bulges.has.Goals as goal

pub returns : goal.returns
unfolding has_at of_bits
returns c = rw c.part.ensures
