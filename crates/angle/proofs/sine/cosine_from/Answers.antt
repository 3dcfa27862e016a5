-- `cosine_from` meets its contract: the code nests the steps as the rule does. Assumes nothing.
use Rattle.std.proofs.Common.{refl}
use Rattle.angle.specs.Sine.{cosine_from, cosine_on}
use Rattle.angle.proofs.sine.cosine_from.Goals as goal

pub returns : goal.returns
unfolding cosine_from cosine_on
returns c = refl
