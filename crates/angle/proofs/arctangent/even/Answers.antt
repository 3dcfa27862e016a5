-- `even` meets its contract: the code is the definition. Assumes nothing.
use Rattle.std.proofs.Common.{refl}
use Rattle.angle.specs.Arctangent.{even_of}
use Rattle.angle.proofs.arctangent.even.Goals as goal

pub returns : goal.returns
unfolding even_of
returns c = refl
