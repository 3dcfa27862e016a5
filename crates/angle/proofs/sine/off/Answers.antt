-- `off` meets its contract: the code nests the steps as the rule does. Assumes nothing.
use Rattle.std.proofs.Common.{refl}
use Rattle.angle.specs.Sine.{off_of}
use Rattle.angle.proofs.sine.off.Goals as goal

pub returns : goal.returns
unfolding off_of
returns c = refl
