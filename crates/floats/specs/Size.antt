-- A float's size and its sign, as the Rust's `abs`, `max` and `is_sign_negative` say. Definitions only.
use Rattle.std.specs.Prelude.{Bool, false, cond, ◌||◌, pos, is_nan, Float}
use Rattle.std.specs.Float.{nan, inf, fin}
use Rattle.std.specs.Float.Ieee.{lt}

abbrev pub plus_zero : Float
plus_zero = fin false 0 (pos 0)

abbrev pub one : Float
one = fin false 1 (pos 0)

-- The size without a sign.
unfoldable pub abs_of : Float → Float
abs_of nan = nan
abs_of (inf s) = inf false
abs_of (fin s m e) = fin false m e

-- The larger; the other one where one is a NaN; the first of two that are equal.
unfoldable pub max_of : Float → Float → Float
max_of a b = cond (lt a b || is_nan a) b a

-- There is a minus sign, a zero's too. A NaN has none here.
unfoldable pub sign_of : Float → Bool
sign_of nan = false
sign_of (inf s) = s
sign_of (fin s m e) = s
