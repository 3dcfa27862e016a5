-- `level6_of` meets its contract: the two divisions agree at each level.
use native.Mathlib.Omega.{arith}
use Rattle.words.specs.Word.{level6}
use Rattle.words.proofs.level6_of.Goals as goal

pub returns : goal.returns
unfolding level6
returns c = omega arith
