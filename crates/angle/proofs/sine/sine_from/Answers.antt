-- `sine_from` meets its contract: the code nests the steps as the rule does. Assumes nothing.
use Rattle.std.proofs.Common.{refl}
use Rattle.angle.specs.Sine.{sine_from, sine_on}
use Rattle.angle.proofs.sine.sine_from.Goals as goal

pub returns : goal.returns
unfolding sine_from sine_on
returns c = refl
