-- Which angles and boxes are refused.
use Rattle.std.specs.Prelude.{ℕ, ◌≤◌, Bool, ◌||◌, ℤ, pos, negsuc, int_lt, nat_lt, unsigned_abs}
use Rattle.canvas.specs.declared.Refusal.TheVariants.{Angle, Shape}
use Rattle.canvas.specs.Faults.{Verdict, fault, or_else}

-- Below the one or above the other.
abbrev pub outside : ℤ → ℤ → ℤ → Bool
outside low high a = int_lt a low || int_lt high a

-- "5 ANGLE | arc or pie: start or arc angle outside -720..720"
unfoldable pub angle_fault : ℤ → ℤ → Verdict
angle_fault start arc = fault (outside (negsuc 719) (pos 720) start || outside (negsuc 719) (pos 720) arc) Angle

-- "6 SHAPE | arcs, pies, round rectangles: x or y outside -32,768..32,767, or w or h above 32,767"
unfoldable pub shape_fault : ℤ → ℤ → ℕ → ℕ → Verdict
shape_fault x y w h =
    fault (outside (negsuc 32767) (pos 32767) x || (outside (negsuc 32767) (pos 32767) y || (nat_lt 32767 w || nat_lt 32767 h))) Shape

unfoldable pub arc_fault : ℤ → ℤ → ℕ → ℕ → ℤ → ℤ → Verdict
arc_fault x y w h start arc = or_else (angle_fault start arc) (shape_fault x y w h)

-- What an inner function may count on of a box that SHAPE lets pass; it takes x and y of 32,768 in as well.
pub record Shaped (x y : ℤ) (w h : ℕ) : Type 0 where
  pub left : unsigned_abs x ≤ 32768
  pub top : unsigned_abs y ≤ 32768
  pub wide : w ≤ 32767
  pub high : h ≤ 32767
