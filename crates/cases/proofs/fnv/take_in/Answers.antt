-- The library's product is cut to 64 bits.
use mathlib.Core.Path.{refl}
use Rattle.cases.specs.Hash.{stirred}
use Rattle.cases.proofs.fnv.take_in.Goals as goal

pub returns : goal.returns
unfolding stirred
returns c = rw c.from.ensures refl
