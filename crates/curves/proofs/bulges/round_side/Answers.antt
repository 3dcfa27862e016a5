-- The side is the definition. Assumes nothing.
use Rattle.curves.specs.Bulges.{round_side}
use Rattle.curves.proofs.bulges.round_side.Goals as goal

pub returns : goal.returns
unfolding round_side
returns c = rw (c.max-k.ensures, c.min.ensures)
