-- `words::read565` meets its contract, which says the same.
use mathlib.Core.Path.{refl}
use Rattle.words.specs.Table.{through565}
use Rattle.words.proofs.read565.Goals as goal

pub returns : goal.returns
unfolding through565
returns c = refl
