-- The bytes so far, and the digits still to come.
use mathlib.Core.Path.{◌≡◌}
use mathlib.Core.List.{◌++◌}
use Prim.Native.Nat.{◌*◌}
use lib.ListN.{take, drop}
use Rattle.cases.specs.Place.{pairs}
use Rattle.cases.proofs.seed.decode.Given as goal

abbrev pub invariant-loop-i : goal.invariant-loop-i
invariant-loop-i l = take l.i l.bytes ++ pairs (drop (2 * l.i) l.digits) ≡ pairs l.digits
