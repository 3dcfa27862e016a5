-- `oval_in` meets its contract: the centre is the corner and half an axis, each way. Assumes nothing.
use Rattle.std.proofs.Common.{◌≡◌, ℕ, ℤ}
use lib.Ieee.{Float, binary32, of_int, add}
use Rattle.curves.specs.declared.oval.Oval.{Oval}
use Rattle.curves.specs.Oval.{half_axis, centre, oval_of}
use Rattle.curves.proofs.Signs.{as_given}
use Rattle.curves.proofs.oval.oval_in.Goals as goal

abbrev oval : Float → Float → Float → Float → Oval
oval cx cy a b = record { cx = cx; cy = cy; a = a; b = b }

made : (x y : ℤ) (w h : ℕ) (a b fx fy : Float) → a ≡ half_axis w → b ≡ half_axis h → fx ≡ of_int binary32 x → fy ≡ of_int binary32 y
    → oval (add binary32 fx a) (add binary32 fy b) a b ≡ oval_of x y w h
unfolding oval_of centre
made x y w h a b fx fy e f g k = cc

pub returns : goal.returns
returns c =
    let a = c.args in
    let nearest-i32-to-f32 = c.nearest_i32_to_f32 in
    let half-axis = c.half_axis-a in
    let half-axis2 = c.half_axis-b in
    made a.x a.y a.w a.h half-axis.result half-axis2.result nearest-i32-to-f32.result c.nearest_i32_to_f32-2.result half-axis.ensures half-axis2.ensures
    (as_given a.x nearest-i32-to-f32.result c.ranges.x nearest-i32-to-f32.ensures)
    (as_given a.y c.nearest_i32_to_f32-2.result c.ranges.y c.nearest_i32_to_f32-2.ensures)
