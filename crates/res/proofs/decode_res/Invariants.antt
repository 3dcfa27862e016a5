-- The search from the record that is reached is the whole one, and each record leads further into the file.
use Prim.Native.Nat.{◌-◌}
use lib.ListN.{length}
use Rattle.res.proofs.Search.{Left}
use Rattle.res.proofs.decode_res.Given as goal

abbrev pub invariant-loop-icon : goal.invariant-loop-icon
invariant-loop-icon l = Left l.file l.at

abbrev pub decreases-loop-icon : goal.decreases-loop-icon
decreases-loop-icon l = length l.file - l.at
