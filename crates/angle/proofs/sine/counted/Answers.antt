-- `counted` meets its contract: the code nests the steps as the rule does. Assumes nothing.
use Rattle.std.proofs.Common.{refl}
use Rattle.angle.specs.Sine.{counted_of}
use Rattle.angle.proofs.sine.counted.Goals as goal

pub returns : goal.returns
unfolding counted_of
returns c = refl
