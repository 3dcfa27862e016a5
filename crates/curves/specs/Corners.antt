-- Round corners: radii, the four corners' ovals, and which points of its box a fill takes. Definitions only.
use Rattle.std.specs.Prelude.{ℕ, ◌-◌, min, Bool, cond, ℤ, pos, ◌+ℤ◌, Float}
use Rattle.std.specs.Float.{binary32}
use Rattle.std.specs.Float.Ieee.{of_int, add, sub, mul, div, lt, le}
use Rattle.floats.specs.Size.{one, max_of}
use Rattle.floats.specs.Whole.{round_as, at_least0}
use Rattle.curves.specs.declared.oval.Oval.{Oval}
use Rattle.curves.specs.declared.corners.Corners.{Corners}
use Rattle.curves.specs.Oval.{half, two}

-- "radii rx, ry are half the smaller of arc size and box, at least 0.5"
unfoldable pub radius_of : ℕ → ℕ → Float
radius_of arc side = max_of (div binary32 (of_int binary32 (pos (min arc side))) two) half

-- "round(rx)", which is not negative.
unfoldable pub inset_of : Float → ℕ
inset_of r = at_least0 (round_as 31 r)

-- "centred rx, ry in from their corners": the first and last columns and rows are given.
unfoldable pub corners_of : ℤ → ℤ → ℤ → ℤ → Float → Float → Corners
corners_of left top right bottom rx ry = record {
  left = add binary32 (of_int binary32 left) rx;
  right = sub binary32 (of_int binary32 right) rx;
  top = add binary32 (of_int binary32 top) ry;
  bottom = sub binary32 (of_int binary32 bottom) ry;
  rx = rx;
  ry = ry;
}

unfoldable pub corner_of : Corners → Bool → Bool → Oval
corner_of c right bottom = record { cx = cond right c.right c.left; cy = cond bottom c.bottom c.top; a = c.rx; b = c.ry }

-- "the nearest corner centre, held to the box of the four centres (left and top tested first)"
unfoldable pub nearest_centre : Float → Float → Float → Float
nearest_centre p low high = cond (lt p low) low (cond (lt high p) high p)

-- "The fill takes points whose offset from the nearest corner centre .. meets the pie's ellipse test with rx, ry", for the
-- point (i, j) of a box with arc sizes aw and ah.
unfoldable pub in_round : ℤ → ℤ → ℕ → ℕ → ℕ → ℕ → ℕ → ℕ → Bool
in_round x y w h aw ah i j =
    let rx = radius_of aw w in
    let ry = radius_of ah h in
    let px = of_int binary32 (pos i) in
    let py = of_int binary32 (pos j) in
    let cx = nearest_centre px (add binary32 (of_int binary32 x) rx) (sub binary32 (of_int binary32 (x +ℤ pos (w - 1))) rx) in
    let cy = nearest_centre py (add binary32 (of_int binary32 y) ry) (sub binary32 (of_int binary32 (y +ℤ pos (h - 1))) ry) in
    let nx = div binary32 (sub binary32 px cx) rx in
    let ny = div binary32 (sub binary32 py cy) ry in
    le (add binary32 (mul binary32 nx nx) (mul binary32 ny ny)) one
