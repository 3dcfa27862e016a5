-- `words::Ink::on` meets its contract, which says the same.
use mathlib.Core.Path.{refl}
use Rattle.words.specs.Ink.{inked}
use Rattle.words.proofs.Ink.on.Goals as goal

pub returns : goal.returns
unfolding inked
returns c = refl
