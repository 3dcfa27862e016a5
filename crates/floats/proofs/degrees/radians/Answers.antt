-- `radians` meets its contract: its constant is the f32 nearest to pi, by 180. Assumes nothing.
use lib.Ieee.{of_bits, div}
use Rattle.floats.specs.Degrees.{radians_of}
use Rattle.floats.proofs.degrees.radians.Goals as goal

pub returns : goal.returns
unfolding radians_of of_bits div
returns c = c.to_radians.ensures
