-- A radius is not negative, so its inset is what it rounds to. Assumes nothing.
use Rattle.std.proofs.Common.{◌≡◌, ℕ, ◌+◌, ◌*◌, ◌<◌, min, Bool, true, false, cond, ◌||◌, pos, refl, arith, lt-ltb}
use lib.Ieee.{Float, nan, inf, fin, binary32, up, down, of_int, div, lt, is_nan}
use lib.Ieee.Fits.{down_pos}
use Rattle.floats.specs.Size.{max_of}
use Rattle.floats.specs.Whole.{round_size, round_as}
use Rattle.curves.specs.Oval.{half}
use Rattle.curves.specs.Corners.{radius_of, inset_of}

not_negative : (x : Float) → round_as 31 (max_of x half) ≡ pos (inset_of (max_of x half))
unfolding inset_of round_as round_size max_of lt is_nan
not_negative nan = refl
not_negative (inf true) = refl
not_negative (inf false) = refl
not_negative (fin true m e) = rw (lt-ltb 0 (m * up e * 2 + 1 * 1 * down e) (more (m * up e) (down e) (down_pos e)))
  where
    more : (n d : ℕ) → 0 < d → 0 < n * 2 + 1 * 1 * d
    more n d p = omega arith
not_negative (fin false m e) = go (lt (fin false m e) half || false)
  where
    go : (b : Bool) → round_as 31 (cond b half (fin false m e)) ≡ pos (inset_of (cond b half (fin false m e)))
    go true = refl
    go false = refl

pub inset_rounds : (arc side : ℕ) → round_as 31 (radius_of arc side) ≡ pos (inset_of (radius_of arc side))
unfolding radius_of
inset_rounds arc side = not_negative (div binary32 (of_int binary32 (pos (min arc side))) (fin false 1 (pos 1)))
