-- The walk among lifted numbers is 01's among whole numbers: e is err + 2*dy.
use Rattle.std.proofs.Common.{◌≡◌, ℕ, zero, suc, ◌+◌, ◌-◌, ◌*◌, ◌<◌, ◌≤◌, max, Bool, true, false, cond, ltb, leb, List, [], ◌∷◌, ℤ, pos, negsuc, ◌+ℤ◌, ◌-ℤ◌, neg_ℤ, nat_abs, sym, refl, ap, ◌∙◌, ap₂, arith, w32, SFits, to_z, of_z, le-ltb, lt-ltb, le-leb}
use native.Mathlib.Decide.{dec_le, dec_lt}
use borrow.Author.Tests.{lt-leb}
use lib.IntN.{sub_ℕ}
use lib.Signed.{lt_z}
use Rattle.segments.specs.declared.Segment.{Segment}
use Rattle.canvas.specs.declared.lines.Pen.{Pen}
use Rattle.canvas.specs.declared.lines.Way.{Way}
use Rattle.canvas.specs.Plot.{Point, at}
use Rattle.canvas.specs.Lines.{Stand, stand, step, walk, towards, bresenham}
use Rattle.canvas.specs.Walk.{lifted, lowered}
use Rattle.std.specs.Int.{abs_diff}
use Rattle.canvas.specs.Trail.{way_of, pen_of, toward, across, along, next, ahead, trail, Side, Goes, Steps, Sets}
use Rattle.canvas.proofs.span.Lifts.{lifted-lt, lower_lift, lift_is}
use Rattle.canvas.proofs.span.Spans.{same_leb}
use Rattle.canvas.proofs.span.Differences.{sub_ltZ, sub-eq, sub-add, sub-sub, sub_abs, pos_sub, neg_pos, lifted-sub}
use Rattle.canvas.proofs.lines.Good.{good_start}
use Rattle.canvas.proofs.lines.Ways.{back_one, goes-next, nearer, room-x, room-y, takes_x, stepped}

-- The direction of a step.
abbrev sign : Bool → ℤ
sign t = cond t (pos 1) (negsuc 0)

pub record Follows (w : Way) (s : Pen) (b : Stand) : Type 0 where
  pub x : b.x ≡ lowered s.x
  pub y : b.y ≡ lowered s.y
  pub err : b.err ≡ sub_ℕ s.e (2 * w.dy)

lowered-next : (t : Bool) (x : ℕ) → (t ≡ false → 1 ≤ x) → lowered x +ℤ sign t ≡ lowered (toward t x)
unfolding lowered toward
lowered-next true x h = ap (λ (z : ℤ). sub_ℕ x 2147483648 +ℤ z) (pos_sub 1) ∙ sub-add x 2147483648 1 0 ∙ sub-eq (x + 1) (2147483648 + 0) (x + 1) 2147483648 (omega arith)
lowered-next false x h =
    let l : 1 ≤ x = h refl in
    ap (λ (z : ℤ). sub_ℕ x 2147483648 +ℤ z) (neg_pos 1) ∙ sub-add x 2147483648 0 1 ∙ sub-eq (x + 0) (2147483648 + 1) (x - 1) 2147483648 (omega arith)

-- ---- one step

module _ (w : Way) (s : Pen) (b : Stand) (f : Follows w s b) where
  twice : b.err +ℤ b.err ≡ sub_ℕ (s.e + s.e) (2 * w.dy + 2 * w.dy)
  twice = ap₂ ◌+ℤ◌ f.err f.err ∙ sub-add s.e (2 * w.dy) s.e (2 * w.dy)

  test_x : lt_z (neg_ℤ (pos w.dy)) (b.err +ℤ b.err) ≡ across w s
  unfolding across
  test_x =
      ap₂ lt_z (neg_pos w.dy) twice ∙ sub_ltZ 0 w.dy (s.e + s.e) (2 * w.dy + 2 * w.dy)
      ∙ same_leb (suc (0 + (2 * w.dy + 2 * w.dy))) (s.e + s.e + w.dy) (suc (3 * w.dy)) (2 * s.e) (omega arith) (omega arith)

  test_y : lt_z (b.err +ℤ b.err) (pos w.dx) ≡ along w s
  unfolding along
  test_y =
      ap₂ lt_z twice (pos_sub w.dx) ∙ sub_ltZ (s.e + s.e) (2 * w.dy + 2 * w.dy) w.dx 0
      ∙ same_leb (suc (s.e + s.e + 0)) (w.dx + (2 * w.dy + 2 * w.dy)) (suc (2 * s.e)) (w.dx + 4 * w.dy) (omega arith) (omega arith)

  next-err : (a c : Bool) → (a ≡ true → w.dy ≤ s.e) → cond a (b.err -ℤ pos w.dy) b.err +ℤ cond c (pos w.dx) (pos 0) ≡ sub_ℕ (s.e + cond c w.dx 0 - cond a w.dy 0) (2 * w.dy)
  next-err true true h =
      let l = h refl in
      ap₂ (λ (p q : ℤ). p -ℤ q +ℤ pos w.dx) f.err (pos_sub w.dy) ∙ ap₂ ◌+ℤ◌ (sub-sub s.e (2 * w.dy) w.dy 0) (pos_sub w.dx)
      ∙ sub-add (s.e + 0) (2 * w.dy + w.dy) w.dx 0 ∙ sub-eq (s.e + 0 + w.dx) (2 * w.dy + w.dy + 0) (s.e + w.dx - w.dy) (2 * w.dy) (omega arith)
  next-err true false h =
      let l = h refl in
      ap₂ (λ (p q : ℤ). p -ℤ q +ℤ pos 0) f.err (pos_sub w.dy) ∙ ap₂ ◌+ℤ◌ (sub-sub s.e (2 * w.dy) w.dy 0) (pos_sub 0)
      ∙ sub-add (s.e + 0) (2 * w.dy + w.dy) 0 0 ∙ sub-eq (s.e + 0 + 0) (2 * w.dy + w.dy + 0) (s.e + 0 - w.dy) (2 * w.dy) (omega arith)
  next-err false true h = ap₂ ◌+ℤ◌ f.err (pos_sub w.dx) ∙ sub-add s.e (2 * w.dy) w.dx 0 ∙ sub-eq (s.e + w.dx) (2 * w.dy + 0) (s.e + w.dx - 0) (2 * w.dy) (omega arith)
  next-err false false h = ap₂ ◌+ℤ◌ f.err (pos_sub 0) ∙ sub-add s.e (2 * w.dy) 0 0 ∙ sub-eq (s.e + 0) (2 * w.dy + 0) (s.e + 0 - 0) (2 * w.dy) (omega arith)

  next_place : (a t : Bool) (z : ℤ) (x : ℕ) → z ≡ lowered x → (a ≡ true → t ≡ false → 1 ≤ x) → cond a (z +ℤ sign t) z ≡ lowered (cond a (toward t x) x)
  next_place true t z x e h = ap (λ (i : ℤ). i +ℤ sign t) e ∙ lowered-next t x (h refl)
  next_place false t z x e h = e

  pub follows : Steps w s → Follows w (next w s) (step (sign w.right) (sign w.down) w.dx w.dy b)
  unfolding step next
  follows k = record {
    x = rw (test_x) (next_place (across w s) w.right b.x s.x f.x (λ a. back_one w.right s.x w.x k.goes.side-x (room-x w s k a)));
    y = rw (test_y) (next_place (along w s) w.down b.y s.y f.y (λ a. back_one w.down s.y w.y k.goes.side-y (room-y w s k a)));
    err = rw (test_x, test_y) (next-err (across w s) (along w s) (λ a. (stepped w s k).enough (takes_x w s k a)));
  }

-- ---- the whole walk

pub trail_is : (w : Way) (n : ℕ) (s : Pen) (b : Stand) → Goes w s → ahead w s ≡ n → Follows w s b → trail w n s ≡ walk (step (sign w.right) (sign w.down) w.dx w.dy) n b
unfolding trail walk
trail_is w zero s b g e f = ap₂ (λ (x y : ℤ). at x y ∷ []) (sym f.x) (sym f.y)
trail_is w (suc n) s b g e f =
    let k : Steps w s = record { goes = g; more = omega arith } in
    let m : ahead w (next w s) ≡ n = omega (arith, nearer w s k) in
    ap₂ (λ (p : Point) (ps : List Point). p ∷ ps) (ap₂ at (sym f.x) (sym f.y)) (trail_is w n (next w s) (step (sign w.right) (sign w.down) w.dx w.dy b) (goes-next w s k) m (follows w s b f k))

-- ---- from the first end of a segment

pub record Ends (s : Segment) : Type 0 where
  pub x1 : SFits w32 s.x1
  pub y1 : SFits w32 s.y1
  pub x2 : SFits w32 s.x2
  pub y2 : SFits w32 s.y2

side_of : (a b : ℕ) → Side (ltb a b) a b
unfolding Side
side_of a b = go (dec_lt a b)
  where
    go : Dec (a < b) → Side (ltb a b) a b
    go (yes h) = rw (lt-ltb a b h) (omega arith)
    go (no h) = rw (le-ltb a b (omega arith)) (omega arith)

far : (a b : ℤ) → SFits w32 a → SFits w32 b → nat_abs (b -ℤ a) ≡ abs_diff (lifted a) (lifted b)
far a b s t =
    ap nat_abs (ap₂ ◌-ℤ◌ (lifted-sub b t) (lifted-sub a s) ∙ sub-sub (lifted b) 2147483648 (lifted a) 2147483648)
    ∙ sub_abs (lifted b + 2147483648) (2147483648 + lifted a) ∙ omega arith

way_sign : (a b : ℤ) → SFits w32 a → SFits w32 b → towards a b ≡ sign (ltb (lifted a) (lifted b))
way_sign a b s t =
    ap sign (ap₂ lt_z (lifted-sub a s) (lifted-sub b t) ∙ sub_ltZ (lifted a) 2147483648 (lifted b) 2147483648
    ∙ same_leb (suc (lifted a + 2147483648)) (lifted b + 2147483648) (suc (lifted a)) (lifted b) (omega arith) (omega arith))

longer : (dx dy : ℕ) → cond (leb dy dx) dx dy ≡ max dx dy
longer dx dy = go (dec_le dy dx)
  where
    go : Dec (dy ≤ dx) → cond (leb dy dx) dx dy ≡ max dx dy
    go (yes h) = rw (le-leb dy dx h) (omega arith)
    go (no h) = rw (lt-leb dy dx (omega arith)) (omega arith)

module _ (s : Segment) (f : Ends s) where
  pub sets_out : Goes (way_of s) (pen_of s)
  unfolding way_of pen_of
  sets_out =
      let a = lifted-lt s.x1 f.x1 in
      let b = lifted-lt s.y1 f.y1 in
      let c = lifted-lt s.x2 f.x2 in
      let d = lifted-lt s.y2 f.y2 in
      record {
        good = good_start (abs_diff (lifted s.x1) (lifted s.x2)) (abs_diff (lifted s.y1) (lifted s.y2));
        side-x = side_of (lifted s.x1) (lifted s.x2);
        side-y = side_of (lifted s.y1) (lifted s.y2);
        low_x = a;
        low-y = b;
        end-x = c;
        end-y = d;
        wide = omega arith;
        high = omega arith;
      }

  first : (dx dy : ℕ) → pos dx -ℤ pos dy ≡ sub_ℕ (dx + dy) (2 * dy)
  first dx dy = ap₂ ◌-ℤ◌ (pos_sub dx) (pos_sub dy) ∙ sub-sub dx 0 dy 0 ∙ sub-eq (dx + 0) (0 + dy) (dx + dy) (2 * dy) (omega arith)

  begins : Follows (way_of s) (pen_of s) (stand s.x1 s.y1 (pos (way_of s).dx -ℤ pos (way_of s).dy))
  unfolding pen_of way_of
  begins = record { x = sym (lower_lift s.x1 f.x1); y = sym (lower_lift s.y1 f.y1); err = first (way_of s).dx (way_of s).dy }

  all_ahead : ahead (way_of s) (pen_of s) ≡ max (way_of s).dx (way_of s).dy
  unfolding ahead pen_of way_of
  all_ahead = longer (abs_diff (lifted s.x1) (lifted s.x2)) (abs_diff (lifted s.y1) (lifted s.y2))

  pub trail-bresenham : trail (way_of s) (ahead (way_of s) (pen_of s)) (pen_of s) ≡ bresenham s
  unfolding bresenham way_of
  trail-bresenham =
      trail_is (way_of s) (ahead (way_of s) (pen_of s)) (pen_of s) (stand s.x1 s.y1 (pos (way_of s).dx -ℤ pos (way_of s).dy)) sets_out refl begins
      ∙ rw (all_ahead, far s.x1 s.x2 f.x1 f.x2, far s.y1 s.y2 f.y1 f.y2, way_sign s.x1 s.x2 f.x1 f.x2, way_sign s.y1 s.y2 f.y1 f.y2) refl

  pub sets : Sets s
  sets = record { goes = sets_out; path = trail-bresenham }

  module _ (x1 y1 x2 y2 dx dy : ℕ) (ex1 : x1 ≡ lifted (to_z w32 (of_z w32 s.x1))) (ey1 : y1 ≡ lifted (to_z w32 (of_z w32 s.y1))) (ex2 : x2 ≡ lifted (to_z w32 (of_z w32 s.x2))) (ey2 : y2 ≡ lifted (to_z w32 (of_z w32 s.y2))) (edx : dx ≡ abs_diff x1 x2) (edy : dy ≡ abs_diff y1 y2) where
    pub way_is : record { x = x2; y = y2; dx = dx; dy = dy; right = ltb x1 x2; down = ltb y1 y2 } ≡ way_of s
    unfolding way_of
    way_is = rw (edx, edy, lift_is s.x1 x1 f.x1 ex1, lift_is s.y1 y1 f.y1 ey1, lift_is s.x2 x2 f.x2 ex2, lift_is s.y2 y2 f.y2 ey2) refl

    pub pen_is : record { x = x1; y = y1; e = dx + dy } ≡ pen_of s
    unfolding pen_of way_of
    pen_is = rw (edx, edy, lift_is s.x1 x1 f.x1 ex1, lift_is s.y1 y1 f.y1 ey1, lift_is s.x2 x2 f.x2 ex2, lift_is s.y2 y2 f.y2 ey2) refl

    pub sum_fits : dx + dy < 18446744073709551616
    sum_fits =
        let a = lifted-lt s.x1 f.x1 in
        let b = lifted-lt s.y1 f.y1 in
        let c = lifted-lt s.x2 f.x2 in
        let d = lifted-lt s.y2 f.y2 in
        omega (arith, lift_is s.x1 x1 f.x1 ex1, lift_is s.y1 y1 f.y1 ey1, lift_is s.x2 x2 f.x2 ex2, lift_is s.y2 y2 f.y2 ey2)
