-- Pies and round rectangles: the points that a fill plots.
use Rattle.std.specs.Prelude.{ℕ, Bool, cond, ◌||◌, List, [], ◌∷◌, ℤ, pos, ◌==◌}
use mathlib.Core.List.{flat_map}
use Rattle.curves.specs.Pies.{in_pie}
use Rattle.curves.specs.Corners.{in_round}
use Rattle.pixels.specs.declared.Canvas.{Canvas}
use Rattle.canvas.specs.Plot.{Point, at}
use Rattle.canvas.specs.Boxes.{side, fill}

-- Those of some columns and rows whose pixels pass a test, row by row.
unfoldable pub sieve : (ℕ → ℕ → Bool) → List ℕ → List ℕ → List Point
sieve t xs ys = flat_map (λ j. flat_map (λ i. cond (t i j) (at (pos i) (pos j) ∷ []) []) xs) ys

-- "With w or h 0 nothing is drawn." "A pie takes points of the box with .. not above 1 in f32, then the sweep test"
unfoldable pub pie : Canvas → ℤ → ℤ → ℕ → ℕ → ℤ → ℤ → List Point
pie v x y w h start arc = cond (w == 0 || h == 0) [] (sieve (in_pie x y w h start arc) (side x w v.width) (side y h v.height))

-- "With w or h 0 nothing is drawn."; "arc size 0 gives the plain rectangle"; else "The fill takes points whose offset from the nearest corner centre .. meets the
-- pie's ellipse test"
unfoldable pub round_fill : Canvas → ℤ → ℤ → ℕ → ℕ → ℕ → ℕ → List Point
round_fill v x y w h aw ah =
    cond (w == 0 || h == 0) [] (cond (aw == 0 || ah == 0) (fill v x y w h)
    (sieve (in_round x y w h aw ah) (side x w v.width) (side y h v.height)))
