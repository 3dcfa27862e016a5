-- The side is the definition. Assumes nothing.
use Rattle.curves.specs.Bulges.{pie_side}
use Rattle.curves.proofs.bulges.pie_side.Goals as goal

pub returns : goal.returns
unfolding pie_side
returns c = rw c.max.ensures
