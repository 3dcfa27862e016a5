-- The comparison, with the extent worked out.
use mathlib.Core.Path.{ap}
use lib.Dec.{eqb}
use Rattle.pixels.proofs.bytes.is_whole.Goals as goal

pub returns : goal.returns
returns c = ap (eqb _) c.extent_of.ensures
