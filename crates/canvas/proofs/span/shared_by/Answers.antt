-- The smaller end less the larger start, among lifted numbers.
use Rattle.std.proofs.Common.{arith, w32, to_z, of_z}
use mir.ValLaws.{to_z-Fits, of_z_fits}
use Rattle.canvas.proofs.span.Lifts.{lifted-lt, lift_is}
use Rattle.canvas.proofs.span.Differences.{shared-lifted}
use Rattle.canvas.proofs.span.shared_by.Goals as goal

pub overflow_add-u : goal.overflow_add-u
overflow_add-u c = record { fits = omega (arith, c.lift-u.ensures, lifted-lt (to_z w32 (of_z w32 c.args.a)) (to_z-Fits w32 (of_z w32 c.args.a) (of_z_fits w32 c.args.a c.ranges.a))) }

pub overflow_add-v : goal.overflow_add-v
overflow_add-v c = record { fits = omega (arith, c.lift-v.ensures, lifted-lt (to_z w32 (of_z w32 c.args.b)) (to_z-Fits w32 (of_z w32 c.args.b) (of_z_fits w32 c.args.b c.ranges.b))) }

pub returns : goal.returns
returns c =
    let a = c.args in
    rw (
      shared-lifted a.a a.b a.m a.n c.ranges.a c.ranges.b,
      ← lift_is a.a _ c.ranges.a c.lift-u.ensures,
      ← lift_is
          a.b _ c.ranges.b c.lift-v.ensures,
    ) (omega (arith, c.min-end.ensures, c.max-start.ensures, c.saturating_sub.ensures))
