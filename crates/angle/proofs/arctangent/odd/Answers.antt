-- `odd` meets its contract: the code is the definition. Assumes nothing.
use Rattle.std.proofs.Common.{refl}
use Rattle.angle.specs.Arctangent.{odd_of}
use Rattle.angle.proofs.arctangent.odd.Goals as goal

pub returns : goal.returns
unfolding odd_of
returns c = refl
