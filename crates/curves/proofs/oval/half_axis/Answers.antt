-- `half_axis` meets its contract: it is the definition, step by step. Assumes nothing.
use lib.Ieee.{of_bits}
use Rattle.curves.specs.Oval.{half_axis}
use Rattle.curves.proofs.oval.half_axis.Goals as goal

pub returns : goal.returns
unfolding half_axis of_bits
returns c = rw c.nearest_u32_to_f32.ensures
