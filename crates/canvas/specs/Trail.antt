-- What the contracts of the walk's inner functions speak of; no public contract cites this file.
use Rattle.std.specs.Prelude.{◌≡◌, ℕ, zero, suc, ◌+◌, ◌-◌, ◌*◌, ◌<◌, ◌≤◌, Bool, true, false, cond, List, [], ◌∷◌, nat_le, nat_lt}
use Rattle.std.specs.Int.{abs_diff}
use Rattle.segments.specs.declared.Segment.{Segment}
use Rattle.canvas.specs.declared.lines.Pen.{Pen}
use Rattle.canvas.specs.declared.lines.Way.{Way}
use Rattle.canvas.specs.Plot.{Point, at}
use Rattle.canvas.specs.Lines.{bresenham}
use Rattle.canvas.specs.Walk.{lifted, lowered}

unfoldable pub way_of : Segment → Way
way_of s = record {
  x = lifted s.x2;
  y = lifted s.y2;
  dx = abs_diff (lifted s.x1) (lifted s.x2);
  dy = abs_diff (lifted s.y1) (lifted s.y2);
  right = nat_lt (lifted s.x1) (lifted s.x2);
  down = nat_lt (lifted s.y1) (lifted s.y2);
}

unfoldable pub pen_of : Segment → Pen
unfolding way_of
pen_of s = record { x = lifted s.x1; y = lifted s.y1; e = (way_of s).dx + (way_of s).dy }

-- One forward, or one back.
unfoldable pub toward : Bool → ℕ → ℕ
toward true x = x + 1
toward false x = x - 1

-- 2*err > -dy, and 2*err < dx, where e is err + 2*dy.
unfoldable pub across : Way → Pen → Bool
across w s = nat_lt (3 * w.dy) (2 * s.e)

unfoldable pub along : Way → Pen → Bool
along w s = nat_lt (2 * s.e) (w.dx + 4 * w.dy)

unfoldable pub next : Way → Pen → Pen
next w s = record {
  x = cond (across w s) (toward w.right s.x) s.x;
  y = cond (along w s) (toward w.down s.y) s.y;
  e = s.e + cond (along w s) w.dx 0 - cond (across w s) w.dy 0;
}

-- How far the longer side has still to go.
unfoldable pub ahead : Way → Pen → ℕ
ahead w s = cond (nat_le w.dy w.dx) (abs_diff s.x w.x) (abs_diff s.y w.y)

unfoldable pub trail : Way → ℕ → Pen → List Point
trail w zero s = at (lowered s.x) (lowered s.y) ∷ []
trail w (suc n) s = at (lowered s.x) (lowered s.y) ∷ trail w n (next w s)

-- The way that is left, a across and c along, and what e is then.
pub data Good (dx dy a c e : ℕ) : Type 0 where
  dot : dx ≡ 0 → dy ≡ 0 → a ≡ 0 → c ≡ 0 → Good dx dy a c e
  shallow : dy ≤ dx → 0 < dx → e + c * dx ≡ dx + dy + a * dy → 3 * dy < 2 * e → 2 * e < 3 * dx + 2 * dy → Good dx dy a c e
  steep : dx < dy → e + c * dx ≡ dx + dy + a * dy → dy + 2 * dx < 2 * e → 2 * e < dx + 4 * dy → Good dx dy a c e

-- The second end lies this way.
unfoldable pub Side : Bool → ℕ → ℕ → Type 0
Side true x end = x ≤ end
Side false x end = end ≤ x

-- A walk on its way.
pub record Goes (w : Way) (s : Pen) : Type 0 where
  pub good : Good w.dx w.dy (abs_diff s.x w.x) (abs_diff s.y w.y) s.e
  pub side-x : Side w.right s.x w.x
  pub side-y : Side w.down s.y w.y
  pub low_x : s.x < 4294967296
  pub low-y : s.y < 4294967296
  pub end-x : w.x < 4294967296
  pub end-y : w.y < 4294967296
  pub wide : w.dx < 4294967296
  pub high : w.dy < 4294967296

-- A step that can be made: there is way left.
pub record Steps (w : Way) (s : Pen) : Type 0 where
  pub goes : Goes w s
  pub more : 0 < ahead w s

-- The walk from the first end of a segment is on its way, and its trail is 01's.
pub record Sets (s : Segment) : Type 0 where
  pub goes : Goes (way_of s) (pen_of s)
  pub path : trail (way_of s) (ahead (way_of s) (pen_of s)) (pen_of s) ≡ bresenham s
