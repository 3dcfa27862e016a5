-- Strokes: the points of an arc, and of the outline of a round rectangle.
use Rattle.std.specs.Prelude.{ℕ, zero, suc, ◌-◌, true, false, cond, ◌||◌, List, [], ◌∷◌, ◌++◌, ℤ, pos, ◌+ℤ◌, ◌==◌, Float}
use Rattle.angle.specs.Stroke.{radians}
use Rattle.curves.specs.declared.oval.Oval.{Oval}
use Rattle.curves.specs.declared.corners.Corners.{Corners}
use Rattle.curves.specs.Oval.{oval_of}
use Rattle.curves.specs.Strokes.{Spot, steps_of, stroke_point}
use Rattle.curves.specs.Corners.{radius_of, inset_of, corners_of, corner_of}
use Rattle.pixels.specs.declared.Canvas.{Canvas}
use Rattle.canvas.specs.Plot.{Point, at}
use Rattle.canvas.specs.Boxes.{outline, edges}

abbrev pub point_of : Spot → Point
point_of s = at s.x s.y

-- n of the points, from the i-th on; start and sweep are in radians.
unfoldable pub stroke_from : Oval → Float → Float → ℕ → ℕ → ℕ → List Point
stroke_from o start sweep steps i zero = []
stroke_from o start sweep steps i (suc n) = point_of (stroke_point o start sweep i steps) ∷ stroke_from o start sweep steps (suc i) n

-- "plots steps+1 points, repeats included: for i from 0"
unfoldable pub stroke : Canvas → Oval → Float → Float → List Point
stroke v o start sweep = let steps = steps_of o sweep v.width v.height in stroke_from o start sweep steps 0 (suc steps)

-- "With w or h 0 nothing is drawn."
unfoldable pub arc : Canvas → ℤ → ℤ → ℕ → ℕ → ℤ → ℤ → List Point
arc v x y w h start sweep = cond (w == 0 || h == 0) [] (stroke v (oval_of x y w h) (radians start) (radians sweep))

-- "then four strokes of 90 degrees from 0, 90, 180 and 270"
unfoldable pub quarters : Canvas → Corners → List Point
quarters v c =
    let quarter = radians (pos 90) in
    stroke v (corner_of c true false) (radians (pos 0)) quarter ++ (stroke v (corner_of c false false) (radians (pos 90)) quarter
    ++ (stroke v (corner_of c false true) (radians (pos 180)) quarter ++ stroke v (corner_of c true true) (radians (pos 270)) quarter))

-- "With w or h 0 nothing is drawn."; "arc size 0 gives the plain rectangle"
unfoldable pub round_outline : Canvas → ℤ → ℤ → ℕ → ℕ → ℕ → ℕ → List Point
round_outline v x y w h aw ah =
    let rx = radius_of aw w in
    let ry = radius_of ah h in
    cond (w == 0 || h == 0) []
    (cond (aw == 0 || ah == 0) (outline v x y w h)
    (edges v x y w h (inset_of rx) (inset_of ry) ++ quarters v (corners_of x y (x +ℤ pos (w - 1)) (y +ℤ pos (h - 1)) rx ry)))
