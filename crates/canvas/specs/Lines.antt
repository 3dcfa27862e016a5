-- Lines: the points that Bresenham's walk plots between the ends that are left of a segment.
use Rattle.std.specs.Prelude.{ℕ, zero, suc, max, cond, List, [], ◌∷◌, ℤ, pos, negsuc, ◌+ℤ◌, ◌-ℤ◌, neg_ℤ, int_lt, unsigned_abs, Option, Some, None}
use Rattle.segments.specs.declared.Segment.{Segment}
use Rattle.segments.specs.Cut.{clip_segment}
use Rattle.pixels.specs.declared.Canvas.{Canvas}
use Rattle.canvas.specs.Plot.{Point, at}

-- Where the walk stands, and its err.
pub record Stand : Type 0 where
  pub x : ℤ
  pub y : ℤ
  pub err : ℤ

abbrev pub stand : ℤ → ℤ → ℤ → Stand
stand x y err = record { x = x; y = y; err = err }

-- "step x if 2*err > -dy; step y if 2*err < dx, with the same 2*err": the one takes dy off err, the other adds dx to it.
unfoldable pub step : ℤ → ℤ → ℕ → ℕ → Stand → Stand
step sx sy dx dy s =
    let e2 = s.err +ℤ s.err in
    let across = int_lt (neg_ℤ (pos dy)) e2 in
    let along = int_lt e2 (pos dx) in
    stand (cond across (s.x +ℤ sx) s.x) (cond along (s.y +ℤ sy) s.y) (cond across (s.err -ℤ pos dy) s.err +ℤ cond along (pos dx) (pos 0))

-- The points of n steps and the first one.
unfoldable pub walk : (Stand → Stand) → ℕ → Stand → List Point
walk f zero s = at s.x s.y ∷ []
walk f (suc n) s = at s.x s.y ∷ walk f n (f s)

-- One towards b from a.
abbrev pub towards : ℤ → ℤ → ℤ
towards a b = cond (int_lt a b) (pos 1) (negsuc 0)

-- "Bresenham as in the Rust: err = dx - dy", and "exactly the larger of dx and dy, plus one, plots"
unfoldable pub bresenham : Segment → List Point
bresenham s =
    let dx = unsigned_abs (s.x2 -ℤ s.x1) in
    let dy = unsigned_abs (s.y2 -ℤ s.y1) in
    walk (step (towards s.x1 s.x2) (towards s.y1 s.y2) dx dy) (max dx dy) (stand s.x1 s.y1 (pos dx -ℤ pos dy))

abbrev pub between : Option Segment → List Point
between None = []
between (Some s) = bresenham s

-- "A segment .. is kept. Any other is cut .. Then Bresenham as in the Rust"; of nothing left there are no points.
unfoldable pub line : Canvas → ℤ → ℤ → ℤ → ℤ → List Point
line v x1 y1 x2 y2 = between (clip_segment x1 y1 x2 y2 v.width v.height)
