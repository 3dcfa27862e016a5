-- `radius` meets its contract: it is the definition, step by step. Assumes nothing.
use Rattle.std.proofs.Common.{◌≡◌, ℕ, min, false, pos}
use lib.Ieee.{Float, of_bits, fin, binary32, of_int, div}
use Rattle.floats.specs.Size.{max_of}
use Rattle.curves.specs.Oval.{half}
use Rattle.curves.specs.Corners.{radius_of}
use Rattle.curves.proofs.corners.radius.Goals as goal

made : (a s n : ℕ) (f r : Float) → n ≡ min a s → f ≡ of_int binary32 (pos n) → r ≡ max_of (div binary32 f (fin false 1 (pos 1))) half → r ≡ radius_of a s
unfolding radius_of
made a s n f r e g h = cc

pub returns : goal.returns
unfolding of_bits
returns c =
    let a = c.args in
    let least = c.min-n in
    let nearest-u32-to-f32 = c.nearest_u32_to_f32 in
    made a.arc a.side least.result nearest-u32-to-f32.result c.max.result least.ensures nearest-u32-to-f32.ensures c.max.ensures
