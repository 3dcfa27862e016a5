-- The bytes so far, and the turns still to come.
use mathlib.Core.Path.{◌≡◌}
use mathlib.Core.List.{◌++◌}
use Prim.Native.Nat.{◌-◌}
use lib.ListN.{length, take}
use Rattle.cases.specs.Seed.{turns}
use Rattle.cases.proofs.seed.grow.Given as goal

abbrev pub invariant-loop-byte : goal.invariant-loop-byte
invariant-loop-byte l = take l.byte-index l.bytes ++ turns 1013904223 (length l.bytes - l.byte-index) l.t ≡ turns 1013904223 (length l.initial.bytes) l.s
