-- `arctangent` meets its contract: one product. Assumes nothing.
use Rattle.angle.specs.Arctangent.{arctangent_of}
use Rattle.angle.proofs.arctangent.arctangent.Goals as goal

pub returns : goal.returns
unfolding arctangent_of
returns c = rw c.direction.ensures
