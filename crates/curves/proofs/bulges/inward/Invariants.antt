-- None before here is taken. Assumes nothing.
use Rattle.std.proofs.Common.{◌≡◌, ◌+◌, ◌-◌, ◌*◌, ◌≤◌, false}
use Rattle.curves.specs.Bulges.{has_at}
use Rattle.curves.proofs.bulges.inward.Given as goal

abbrev pub invariant-loop-i : goal.invariant-loop-i
invariant-loop-i l = (1 ≤ l.i) × ((2 * l.i ≤ l.s.count + 1) × (has_at l.s l.row (l.i - 1) ≡ false))
