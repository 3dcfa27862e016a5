-- `in_arc` meets its contract: it is the definition. Assumes nothing.
use Rattle.curves.specs.Pies.{in_arc}
use Rattle.curves.proofs.pies.in_arc.Goals as goal

pub returns : goal.returns
unfolding in_arc
returns c = rw (c.rem_euclid_360.ensures, c.arctangent-angle.ensures)
