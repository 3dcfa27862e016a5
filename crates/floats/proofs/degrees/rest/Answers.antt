-- `rest` meets its contract: one, two or three turns taken off leave less than a turn. Assumes nothing.
use Rattle.std.proofs.Common.{refl}
use lib.Ieee.{of_bits}
use Rattle.floats.proofs.Range.{yes, no}
use Rattle.floats.proofs.degrees.Turns.{taken_off}
use Rattle.floats.proofs.degrees.rest.Goals as goal

pub returns-then-y : goal.returns-then-y
unfolding of_bits
returns-then-y c = taken_off 1 45 3 45 4 refl refl c.args.y (no c.requires) (yes c.if-y.true)

pub returns-then-y-2 : goal.returns-then-y-2
unfolding of_bits
returns-then-y-2 c = taken_off 2 45 4 135 3 refl refl c.args.y (no c.if-y.false) (yes c.if-y-2.true)

pub returns-then-y-3 : goal.returns-then-y-3
unfolding of_bits
returns-then-y-3 c = taken_off 3 135 3 45 5 refl refl c.args.y (no c.if-y-2.false) (yes c.if-y-3.true)

pub far_rest-requires : goal.far_rest-requires
far_rest-requires c = c.requires

pub returns : goal.returns
returns c = c.far_rest.ensures
