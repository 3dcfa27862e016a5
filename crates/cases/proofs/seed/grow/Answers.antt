-- `grow` fills from the front, a turn of the number for each byte.
use mathlib.Core.Path.{◌≡◌}
use Prim.Native.Nat.{◌-◌, ◌+◌}
use native.Mathlib.Omega.{arith}
use lib.ListN.{length, length-set}
use Rattle.cases.specs.Seed.{turns}
use Rattle.cases.proofs.Fills.{fill_step, fill_end}
use Rattle.cases.proofs.Seeds.{turn}
use Rattle.cases.proofs.seed.grow.Goals as goal

pub loop-byte-preserved : goal.loop-byte-preserved
loop-byte-preserved c =
    let l = c.loop-byte in
    simp length-set (fill_step l.bytes l.byte-index _ l.invariant _ _ (omega arith) (turn (length l.bytes - l.byte-index) (length l.bytes - (l.byte-index + 1)) l.t _ (omega arith) (omega arith)))

pub returns : goal.returns
unfolding turns
returns c =
    let l = c.loop-byte in
    let z : length l.bytes - l.byte-index ≡ 0 = omega arith in
    fill_end l.bytes l.byte-index _ l.invariant (omega arith) (rw z)
