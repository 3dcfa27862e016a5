-- The walk's loop: what is left of its trail leads to the same end.
use Rattle.std.proofs.Common.{◌≡◌, ℕ, zero, suc, ◌+◌, ◌<◌, ◌≤◌, cond, leb, List, [], length, ℤ, sym, refl, ap, ◌∙◌, arith, w32, SFits, to_z, of_z, le-leb, Option, Some, None}
use native.Mathlib.Decide.{dec_le}
use borrow.Author.Tests.{lt-leb}
use mir.ValLaws.{to_z-of_z}
use Rattle.segments.specs.declared.Segment.{Segment}
use Rattle.segments.specs.Cut.{clip_segment}
use Rattle.pixels.specs.declared.Canvas.{Canvas}
use Rattle.canvas.specs.declared.Clip.{Clip}
use Rattle.pixels.specs.declared.rows.Span.{Span}
use Rattle.canvas.specs.declared.lines.Pen.{Pen}
use Rattle.canvas.specs.declared.lines.Way.{Way}
use Rattle.canvas.specs.Plot.{Point, at, inks}
use Rattle.canvas.specs.Lines.{bresenham, between, line}
use Rattle.canvas.specs.Walk.{lowered, Work, Did, dabbed, dabs, Window}
use Rattle.std.specs.Int.{abs_diff}
use Rattle.canvas.specs.Trail.{way_of, pen_of, next, ahead, trail, Goes, Steps, Sets}
use Rattle.canvas.proofs.plot.Draws.{did_none}
use Rattle.canvas.proofs.plot.Dabs.{Dabbing, dabbing_start, dabbing_step, dabbing_end, dabs_did}
use Rattle.canvas.proofs.lines.Ways.{goes-next, nearer, at-end}

pub trail-length : (w : Way) (n : ℕ) (s : Pen) → length (trail w n s) ≡ suc n
unfolding trail
trail-length w zero s = refl
trail-length w (suc n) s = ap suc (trail-length w n (next w s))

pub ahead-lt : (w : Way) (s : Pen) → Goes w s → ahead w s < 4294967296
unfolding ahead
ahead-lt w s g = go (dec_le w.dy w.dx)
  where
    go : Dec (w.dy ≤ w.dx) → cond (leb w.dy w.dx) (abs_diff s.x w.x) (abs_diff s.y w.y) < 4294967296
    go (yes h) = rw (le-leb w.dy w.dx h) (omega (arith, g.low_x, g.end-x))
    go (no h) = rw (lt-leb w.dy w.dx (omega arith)) (omega (arith, g.low-y, g.end-y))

pub record OnWay (v : Canvas) (xs ys : Span) (f : ℕ → ℕ) (w : Way) (s : Pen) (a : Work) (ps₀ : List Point) (a₀ : Work) : Type 0 where
  pub goes : Goes w s
  pub rest : Dabbing v xs ys f (trail w (ahead w s) s) a ps₀ a₀

module _ {v : Canvas} {xs ys : Span} {f : ℕ → ℕ} {w : Way} where
  pub way_start : {s : Pen} {a : Work} → Goes w s → OnWay v xs ys f w s a (trail w (ahead w s) s) a
  way_start g = record { goes = g; rest = dabbing_start }

  -- there is room for one more
  pub way_room : {s s₀ : Pen} {a a₀ : Work} → Goes w s₀ → a₀.tally.landed < 9223372036854775808 → OnWay v xs ys f w s a (trail w (ahead w s₀) s₀) a₀ → a.tally.landed + 1 < 18446744073709551616
  way_room {s} {s₀} {a} {a₀} g l o = omega (arith, o.rest.few, trail-length w (ahead w s) s, trail-length w (ahead w s₀) s₀, ahead-lt w s₀ g)

  module _ {s : Pen} {a a' a₀ : Work} {ps₀ : List Point} (o : OnWay v xs ys f w s a ps₀ a₀) (e : a' ≡ dabbed v xs ys f (at (lowered s.x) (lowered s.y)) a) where
    pub way_turn : Steps w s → OnWay v xs ys f w (next w s) a' ps₀ a₀
    unfolding trail
    way_turn k =
        let d : Dabbing v xs ys f (trail w (suc (ahead w (next w s))) s) a ps₀ a₀ = rw (nearer w s k) at o.rest in
        record { goes = goes-next w s k; rest = dabbing_step d e }

    pub way_end : s.x ≡ w.x → s.y ≡ w.y → a' ≡ dabs v xs ys f ps₀ a₀
    unfolding trail
    way_end h k =
        let d : Dabbing v xs ys f (trail w 0 s) a ps₀ a₀ = rw (at-end w s o.goes h k) at o.rest in
        dabbing_end (dabbing_step d e)

-- ---- the plots of a segment, and of a line

module _ (s : Segment) (w : Way) (p : Pen) (e : w ≡ way_of s) (h : p ≡ pen_of s) (k : Sets s) where
  pub segment-goes : Goes w p
  segment-goes = rw (e, h) k.goes

  pub segment_did : {v : Canvas} {c : Clip} {xs ys : Span} (f : ℕ → ℕ) {a a' : Work} → Window v c xs ys → a' ≡ dabs v xs ys f (trail w (ahead w p) p) a → Did v c (inks f (bresenham s)) a a'
  segment_did {v} {c} {xs} {ys} f {a} {a'} i d =
      let g : a' ≡ dabs v xs ys f (bresenham s) a = d ∙ ap (λ (ps : List Point). dabs v xs ys f ps a) (rw (e, h) k.path) in
      dabs_did i f (bresenham s) g

module _ (v : Canvas) (x1 y1 x2 y2 : ℤ) (fx1 : SFits w32 x1) (fy1 : SFits w32 y1) (fx2 : SFits w32 x2) (fy2 : SFits w32 y2) (u : Option Segment)
    (e : u ≡ clip_segment (to_z w32 (of_z w32 x1)) (to_z w32 (of_z w32 y1)) (to_z w32 (of_z w32 x2)) (to_z w32 (of_z w32 y2)) v.width v.height) where
  is-between : between u ≡ line v x1 y1 x2 y2
  unfolding line
  is-between = ap between (rw (to_z-of_z w32 x1 fx1, to_z-of_z w32 y1 fy1, to_z-of_z w32 x2 fx2, to_z-of_z w32 y2 fy2) at e)

  module _ {c : Clip} (f : ℕ → ℕ) where
    pub line-nothing : {a : Work} → u ≡ None → Did v c (inks f (line v x1 y1 x2 y2)) a a
    unfolding inks
    line-nothing h =
        let g : [] ≡ line v x1 y1 x2 y2 = ap between (sym h) ∙ is-between in
        rw (← g) did_none

    pub line-left : (s : Segment) {a a' : Work} → u ≡ Some s → Did v c (inks f (bresenham s)) a a' → Did v c (inks f (line v x1 y1 x2 y2)) a a'
    line-left s h d =
        let g : bresenham s ≡ line v x1 y1 x2 y2 = ap between (sym h) ∙ is-between in
        rw (← g) d

-- a line as it arrives
pub line_of : {v : Canvas} {c : Clip} (f : ℕ → ℕ) {a a' : Work} (x1 y1 x2 y2 : ℤ) → SFits w32 x1 → SFits w32 y1 → SFits w32 x2 → SFits w32 y2
    → Did v c (inks f (line v (to_z w32 (of_z w32 x1)) (to_z w32 (of_z w32 y1)) (to_z w32 (of_z w32 x2)) (to_z w32 (of_z w32 y2)))) a a' → Did v c (inks f (line v x1 y1 x2 y2)) a a'
line_of f x1 y1 x2 y2 fx1 fy1 fx2 fy2 d = rw (to_z-of_z w32 x1 fx1, to_z-of_z w32 y1 fy1, to_z-of_z w32 x2 fx2, to_z-of_z w32 y2 fy2) at d
