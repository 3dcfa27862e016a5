-- Boxes: the points that a fill and an outline plot.
use Rattle.std.specs.Prelude.{ℕ, zero, suc, ◌-◌, ◌*◌, Bool, cond, ◌&&◌, ◌||◌, List, [], ◌∷◌, ◌++◌, ℤ, pos, ◌+ℤ◌, ◌-ℤ◌, ◌==◌, int_lt}
use mathlib.Core.List.{flat_map}
use Rattle.pixels.specs.declared.Canvas.{Canvas}
use Rattle.canvas.specs.Clip.{within}
use Rattle.canvas.specs.Plot.{Point, at, Plot, plot, Dye, Dot, dot}

-- Those of the n numbers from i on that pass a test.
unfoldable pub select : (ℕ → Bool) → ℕ → ℕ → List ℕ
select t i zero = []
select t i (suc n) = cond (t i) (i ∷ select t (suc i) n) (select t (suc i) n)

-- The columns of a canvas n wide (or the rows of one n high) that lie in the span of len from a.
abbrev pub side : ℤ → ℕ → ℕ → List ℕ
side a len n = select (λ i. within a len (pos i)) 0 n

-- A plot at each pixel of some columns and rows, row by row; its ink may hang on the pixel.
unfoldable pub spots : (ℕ → ℕ → ℕ → ℕ) → List ℕ → List ℕ → List Plot
spots f xs ys = flat_map (λ j. flat_map (λ i. plot (f i j) (pos i) (pos j) ∷ []) xs) ys

-- A dot at each pixel of some columns and rows, row by row; its dye may hang on the pixel.
unfoldable pub picture : (ℕ → ℕ → Dye) → List ℕ → List ℕ → List Dot
picture d xs ys = flat_map (λ j. flat_map (λ i. dot (d i j) (pos i) (pos j) ∷ []) xs) ys

-- The overlap of a box and the canvas, row by row.
unfoldable pub fill : Canvas → ℤ → ℤ → ℕ → ℕ → List Point
fill v x y w h = flat_map (λ j. flat_map (λ i. at (pos i) (pos j) ∷ []) (side x w v.width)) (side y h v.height)

-- The source's column (or row) of a canvas's column i, in a box that starts at d and is taken from s on.
abbrev pub source_of : ℤ → ℤ → ℕ → ℤ
source_of d s i = s +ℤ (pos i -ℤ d)

-- The columns of a canvas n wide in the span of len from d whose source columns are on a source m wide.
abbrev pub shown : ℤ → ℤ → ℕ → ℕ → ℕ → List ℕ
shown d s len m n = select (λ i. within d len (pos i) && within (pos 0) m (source_of d s i)) 0 n

-- A point, if its place a is below n.
abbrev pub below : ℤ → ℕ → Point → List Point
below a n p = cond (int_lt a (pos n)) (p ∷ []) []

-- "each border point is plotted once": the top row at any y and the bottom row only if below the height, then the left column at any x and the right column
-- only if below the width.
unfoldable pub border : Canvas → ℤ → ℤ → ℕ → ℕ → List Point
border v x y w h =
    let right = x +ℤ pos (w - 1) in
    let bottom = y +ℤ pos (h - 1) in
    flat_map (λ i. at (pos i) y ∷ below bottom v.height (at (pos i) bottom)) (side x w v.width)
    ++ flat_map (λ j. at x (pos j) ∷ below right v.width (at right (pos j))) (side (y +ℤ pos 1) (h - 2) v.height)

-- "A rectangle outline with w or h 0 is nothing, else with w or h 1 a fill; otherwise each border point is plotted once."
unfoldable pub outline : Canvas → ℤ → ℤ → ℕ → ℕ → List Point
outline v x y w h = cond (w == 0 || h == 0) [] (cond (w == 1 || h == 1) (fill v x y w h) (border v x y w h))

-- "The outline plots the top and bottom rows from left + round(rx) to right - round(rx), the two sides likewise by ry": ix and iy are round(rx) and round(ry).
unfoldable pub edges : Canvas → ℤ → ℤ → ℕ → ℕ → ℕ → ℕ → List Point
edges v x y w h ix iy =
    let right = x +ℤ pos (w - 1) in
    let bottom = y +ℤ pos (h - 1) in
    fill v (x +ℤ pos ix) y (w - 2 * ix) 1 ++ (fill v (x +ℤ pos ix) bottom (w - 2 * ix) 1
    ++ (fill v x (y +ℤ pos iy) 1 (h - 2 * iy) ++ fill v right (y +ℤ pos iy) 1 (h - 2 * iy)))
