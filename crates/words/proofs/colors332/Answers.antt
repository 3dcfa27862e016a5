-- `words::colors332` meets its contract: the constant is compared with the rule at each place, by computing.
use mathlib.Core.Path.{refl}
use Rattle.words.specs.Word.{from_color, to_color}
use Rattle.words.specs.Table.{run, argb332, back332}
use Rattle.words.proofs.colors332.Goals as goal

pub returns : goal.returns
unfolding back332 run argb332 from_color to_color
returns c = refl
