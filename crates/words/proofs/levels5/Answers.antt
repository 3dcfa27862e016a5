-- `words::levels5` meets its contract: the constant is compared with the rule at each place, by computing.
use mathlib.Core.Path.{refl}
use Rattle.words.specs.Word.{level5}
use Rattle.words.specs.Table.{run, fives}
use Rattle.words.proofs.levels5.Goals as goal

pub returns : goal.returns
unfolding fives run level5
returns c = refl
