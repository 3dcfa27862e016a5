-- `is_whole` meets its contract, by its cases. Assumes nothing.
use Rattle.std.proofs.Common.{arith}
use Rattle.std.proofs.lemmas.Grind.{common_steps}
use Rattle.std.proofs.lemmas.Bool.Decides.{nat_tests}
use lib.Ieee.{of_bits}
use Rattle.curves.specs.Pies.{is_whole}
use Rattle.curves.proofs.pies.is_whole.Goals as goal

pub returns-then-n-start : goal.returns-then-n-start
unfolding is_whole of_bits
returns-then-n-start c = grind (arith, nat_tests, common_steps)

pub returns-else-n-start : goal.returns-else-n-start
unfolding is_whole of_bits
returns-else-n-start c = grind (arith, nat_tests, common_steps)
