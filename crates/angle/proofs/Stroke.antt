-- Every angle that a stroke makes is 26 in size at most: 720 degrees are 13 radians at most, and a part of the sweep no more.
-- Assumes nothing.
use Rattle.std.proofs.Common.{ℕ, ◌*◌, ◌^◌, ◌<◌, ◌≤◌, false, ℤ, pos, nat_abs, sym, subst, mul-pos, arith, lit≤, pow_pos}
use lib.Ieee.{Float, nan, inf, fin, binary32, up, down, of_bits, mul, div, of_int, unlike}
use lib.Ieee.Fits.{down_pos}
use lib.Ieee.Back.{round_whole}
use Rattle.floats.specs.Degrees.{degree, radians_of}
use Rattle.angle.specs.Meaning.{D, UpTo26}
use Rattle.angle.specs.Stroke.{radians, stroke_angle}
use Rattle.angle.proofs.AtMost.{AtMost, round_most, int_most, mul_most, div_most, add_most}
use Rattle.angle.proofs.sine.Units.{kept, size_is}

rad_most : (x : Float) → AtMost x 720 → AtMost (mul binary32 x degree) 13
unfolding mul of_bits
rad_most nan h = absurd h
rad_most (inf s) h = absurd h
rad_most (fin s m e) h = round_most (unlike s false) (m * up e * 9370165) (down e * 2 ^ 29) 13 (mul-pos (down_pos e) (pow_pos 29)) (go (m * up e) (down e) h) (lit≤ tt)
  where
    go : (a d : ℕ) → a ≤ 720 * d → a * 9370165 ≤ 13 * (d * 2 ^ 29)
    go a d h = omega arith

up_to_26 : (t : Float) → AtMost t 26 → UpTo26 t
up_to_26 nan h = absurd h
up_to_26 (inf s) h = absurd h
up_to_26 (fin s m e) h = record { number = tt; size = subst (λ (x : ℕ). x ≤ 26 * D) (sym (size_is s m e)) (kept (m * up e) (down e) (down_pos e) h) }

pub stroke_up_to_26 : (start sweep : ℤ) (i steps : ℕ) → nat_abs start ≤ 720 → nat_abs sweep ≤ 720 → i ≤ steps → 0 < steps → steps ≤ 16 * 65534
    → UpTo26 (stroke_angle (radians start) (radians sweep) i steps)
unfolding stroke_angle radians_of of_int
stroke_up_to_26 start sweep i steps a b h p k =
    up_to_26 (stroke_angle (radians start) (radians sweep) i steps)
    (add_most (radians start) (div binary32 (mul binary32 (radians sweep) (of_int binary32 (pos i))) (of_int binary32 (pos steps))) 13 13
    (rad_most (of_int binary32 start) (int_most start 720 a (lit≤ tt)))
    (div_most (mul binary32 (radians sweep) (of_int binary32 (pos i))) (of_int binary32 (pos steps)) 13 i steps
    (mul_most (radians sweep) (of_int binary32 (pos i)) 13 i (rad_most (of_int binary32 sweep) (int_most sweep 720 b (lit≤ tt))) (int_most (pos i) i (omega arith) (omega arith)) (omega arith))
    (round_whole binary32 false steps (omega arith)) h p (lit≤ tt))
    (lit≤ tt))
