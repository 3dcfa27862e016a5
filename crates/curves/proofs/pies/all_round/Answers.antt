-- `all_round` meets its contract: it is the definition. Assumes nothing.
use Rattle.std.proofs.Common.{refl}
use lib.Ieee.{of_bits}
use Rattle.curves.specs.Pies.{all_round}
use Rattle.curves.proofs.pies.all_round.Goals as goal

pub returns : goal.returns
unfolding all_round of_bits
returns c = refl
