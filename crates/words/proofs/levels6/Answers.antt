-- `words::levels6` meets its contract: the constant is compared with the rule at each place, by computing.
use mathlib.Core.Path.{refl}
use Rattle.words.specs.Word.{level6}
use Rattle.words.specs.Table.{run, sixes}
use Rattle.words.proofs.levels6.Goals as goal

pub returns : goal.returns
unfolding sixes run level6
returns c = refl
