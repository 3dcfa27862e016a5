-- `in_sweep` meets its contract, by its cases. Assumes nothing.
use Rattle.std.proofs.Common.{refl, ap, ◌∙◌}
use lib.Ieee.{of_bits}
use Rattle.curves.specs.Pies.{is_all, degrees_of, in_sweep}
use Rattle.curves.proofs.pies.in_sweep.Goals as goal

pub returns-in-All : goal.returns-in-All
unfolding in_sweep
returns-in-All c = rw c.in-All.is refl

pub returns-in-Empty : goal.returns-in-Empty
unfolding in_sweep
returns-in-Empty c = rw c.in-Empty.is refl

pub returns-then-dx-dy : goal.returns-then-dx-dy
unfolding in_sweep of_bits
returns-then-dx-dy c = rw (c.in-Part.is, c.if-dx-dy.true) refl

pub in_part-requires : goal.in_part-requires
unfolding of_bits
in_part-requires c =
    let part = ap is_all c.in-Part.is in
    (c.requires.0 part ∙ ap degrees_of c.in-Part.is, c.requires.1 part c.if-dx-dy.false)

pub returns-else-dx-dy : goal.returns-else-dx-dy
unfolding in_sweep of_bits
returns-else-dx-dy c = rw (c.in-Part.is, c.if-dx-dy.false) c.in_part.ensures
