-- The place is taken. Assumes nothing.
use Rattle.std.proofs.Common.{◌≡◌, ◌*◌, ◌<◌, true}
use Rattle.curves.specs.Bulges.{has_at}
use Rattle.curves.proofs.bulges.outward.Given as goal

abbrev pub invariant-loop-i : goal.invariant-loop-i
invariant-loop-i l = (2 * l.i < l.s.count) × (has_at l.s l.row l.i ≡ true)
