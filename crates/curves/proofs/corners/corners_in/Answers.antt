-- `corners_in` meets its contract: each centre lies a radius in from its side. Assumes nothing.
use Rattle.curves.specs.Corners.{corners_of}
use Rattle.curves.proofs.Signs.{as_given}
use Rattle.curves.proofs.corners.corners_in.Goals as goal

pub returns : goal.returns
unfolding corners_of
returns c =
    rw (
      as_given c.args.left c.nearest_i32_to_f32.result c.ranges.left c.nearest_i32_to_f32.ensures,
      as_given c.args.right c.nearest_i32_to_f32-2.result c.ranges.right c.nearest_i32_to_f32-2.ensures,
      as_given c.args.top c.nearest_i32_to_f32-3.result c.ranges.top c.nearest_i32_to_f32-3.ensures,
      as_given c.args.bottom c.nearest_i32_to_f32-4.result c.ranges.bottom c.nearest_i32_to_f32-4.ensures,
    )
