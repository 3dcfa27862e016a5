-- A step keeps the walk on its way, one nearer to its end.
use Rattle.std.proofs.Common.{◌≡◌, ℕ, suc, ◌+◌, ◌-◌, ◌*◌, ◌<◌, ◌≤◌, Bool, true, false, cond, leb, refl, subst, add-zero, arith, ltb-false, ltb-true, lt-ltb, le-leb}
use native.Mathlib.Nat.{sub-zero}
use native.Mathlib.Decide.{ℕ_discrete, dec_le}
use borrow.Author.Tests.{lt-leb}
use Rattle.canvas.specs.declared.lines.Pen.{Pen}
use Rattle.canvas.specs.declared.lines.Way.{Way}
use Rattle.std.specs.Int.{abs_diff}
use Rattle.canvas.specs.Trail.{toward, across, along, next, ahead, Side, Goes, Steps}
use Rattle.canvas.proofs.lines.Good.{good-end, end-good, good-small, Stepped, good-step}

-- ---- one column or row

pub toward-near : (t : Bool) (x end : ℕ) → Side t x end → 0 < abs_diff x end → abs_diff (toward t x) end ≡ abs_diff x end - 1
unfolding Side toward
toward-near true x end s h = omega arith
toward-near false x end s h = omega arith

toward-side : (t : Bool) (x end : ℕ) → Side t x end → 0 < abs_diff x end → Side t (toward t x) end
unfolding Side toward
toward-side true x end s h = omega arith
toward-side false x end s h = omega arith

toward-low : (t : Bool) (x end : ℕ) → Side t x end → 0 < abs_diff x end → x < 4294967296 → end < 4294967296 → toward t x < 4294967296
unfolding Side toward
toward-low true x end s h l m = omega arith
toward-low false x end s h l m = omega arith

pub back_one : (t : Bool) (x end : ℕ) → Side t x end → 0 < abs_diff x end → t ≡ false → 1 ≤ x
unfolding Side
back_one true x end s h e = absurd (let z : ◌≡◌ {A = ℕ} 0 1 = cc in omega arith)
back_one false x end s h e = omega arith

-- ---- a step

module _ (w : Way) (s : Pen) (k : Steps w s) where
  pub stepped : Stepped w.dx w.dy (abs_diff s.x w.x) (abs_diff s.y w.y) s.e
  unfolding ahead
  stepped = good-step w.dx w.dy (abs_diff s.x w.x) (abs_diff s.y w.y) s.e k.goes.good k.more

  pub small : s.e < 68719476736
  unfolding ahead
  small = good-small k.goes.good k.more k.goes.wide k.goes.high

  pub takes_x : across w s ≡ true → 3 * w.dy < 2 * s.e
  unfolding across
  takes_x e = ltb-true (3 * w.dy) (2 * s.e) e

  leaves-x : across w s ≡ false → 2 * s.e ≤ 3 * w.dy
  unfolding across
  leaves-x e = ltb-false (3 * w.dy) (2 * s.e) e

  pub takes_y : along w s ≡ true → 2 * s.e < w.dx + 4 * w.dy
  unfolding along
  takes_y e = ltb-true (2 * s.e) (w.dx + 4 * w.dy) e

  leaves-y : along w s ≡ false → w.dx + 4 * w.dy ≤ 2 * s.e
  unfolding along
  leaves-y e = ltb-false (2 * s.e) (w.dx + 4 * w.dy) e

  pub then_y : across w s ≡ false → along w s ≡ true
  unfolding across along
  then_y e = stepped.some e

  pub room-x : across w s ≡ true → 0 < abs_diff s.x w.x
  room-x e = stepped.room-x (takes_x e)

  pub room-y : along w s ≡ true → 0 < abs_diff s.y w.y
  room-y e = stepped.room-y (takes_y e)

  -- the three steps that there are
  pub next_xy : across w s ≡ true → along w s ≡ true → record { x = toward w.right s.x; y = toward w.down s.y; e = s.e + w.dx - w.dy } ≡ next w s
  unfolding next
  next_xy a b = rw (a, b) refl

  pub next-x : across w s ≡ true → along w s ≡ false → record { x = toward w.right s.x; y = s.y; e = s.e - w.dy } ≡ next w s
  unfolding next
  next-x a b = rw (a, b, add-zero s.e) refl

  pub next-y : across w s ≡ false → record { x = s.x; y = toward w.down s.y; e = s.e + w.dx } ≡ next w s
  unfolding next
  next-y a = rw (a, then_y a, sub-zero (s.e + w.dx)) refl

  -- ---- where it leads

  moved_xy : across w s ≡ true → along w s ≡ true → Goes w (record { x = toward w.right s.x; y = toward w.down s.y; e = s.e + w.dx - w.dy })
  moved_xy a b =
      let g = k.goes in
      record {
        good = rw (toward-near w.right s.x w.x g.side-x (room-x a), toward-near w.down s.y w.y g.side-y (room-y b)) (stepped.both_steps (takes_x a) (takes_y b));
        side-x = toward-side w.right s.x w.x g.side-x (room-x a);
        side-y = toward-side w.down s.y w.y g.side-y (room-y b);
        low_x = toward-low w.right s.x w.x g.side-x (room-x a) g.low_x g.end-x;
        low-y = toward-low w.down s.y w.y g.side-y (room-y b) g.low-y g.end-y;
        end-x = g.end-x;
        end-y = g.end-y;
        wide = g.wide;
        high = g.high;
      }

  moved_x : across w s ≡ true → along w s ≡ false → Goes w (record { x = toward w.right s.x; y = s.y; e = s.e - w.dy })
  moved_x a b =
      let g = k.goes in
      record {
        good = rw (toward-near w.right s.x w.x g.side-x (room-x a)) (stepped.x-steps (takes_x a) (leaves-y b));
        side-x = toward-side w.right s.x w.x g.side-x (room-x a);
        side-y = g.side-y;
        low_x = toward-low w.right s.x w.x g.side-x (room-x a) g.low_x g.end-x;
        low-y = g.low-y;
        end-x = g.end-x;
        end-y = g.end-y;
        wide = g.wide;
        high = g.high;
      }

  moved_y : across w s ≡ false → Goes w (record { x = s.x; y = toward w.down s.y; e = s.e + w.dx })
  moved_y a =
      let g = k.goes in
      let b = then_y a in
      record {
        good = rw (toward-near w.down s.y w.y g.side-y (room-y b)) (stepped.y-steps (leaves-x a) (takes_y b));
        side-x = g.side-x;
        side-y = toward-side w.down s.y w.y g.side-y (room-y b);
        low_x = g.low_x;
        low-y = toward-low w.down s.y w.y g.side-y (room-y b) g.low-y g.end-y;
        end-x = g.end-x;
        end-y = g.end-y;
        wide = g.wide;
        high = g.high;
      }

  pub goes-next : Goes w (next w s)
  goes-next = go (across w s) (along w s) refl refl
    where
      go : (a b : Bool) → across w s ≡ a → along w s ≡ b → Goes w (next w s)
      go true true a b = subst (Goes w) (next_xy a b) (moved_xy a b)
      go true false a b = subst (Goes w) (next-x a b) (moved_x a b)
      go false b a c = subst (Goes w) (next-y a) (moved_y a)

  yes_x : 3 * w.dy < 2 * s.e → across w s ≡ true
  unfolding across
  yes_x h = lt-ltb (3 * w.dy) (2 * s.e) h

  yes_y : 2 * s.e < w.dx + 4 * w.dy → along w s ≡ true
  unfolding along
  yes_y h = lt-ltb (2 * s.e) (w.dx + 4 * w.dy) h

  one_less_x : across w s ≡ true → abs_diff s.x w.x ≡ suc (abs_diff (next w s).x w.x)
  unfolding next
  one_less_x a = rw a (omega (arith, toward-near w.right s.x w.x k.goes.side-x (room-x a), room-x a))

  one_less_y : along w s ≡ true → abs_diff s.y w.y ≡ suc (abs_diff (next w s).y w.y)
  unfolding next
  one_less_y b = rw b (omega (arith, toward-near w.down s.y w.y k.goes.side-y (room-y b), room-y b))

  -- the longer side has one less to go
  pub nearer : ahead w s ≡ suc (ahead w (next w s))
  unfolding ahead
  nearer = go (dec_le w.dy w.dx)
    where
      go : Dec (w.dy ≤ w.dx) → cond (leb w.dy w.dx) (abs_diff s.x w.x) (abs_diff s.y w.y) ≡ suc (cond (leb w.dy w.dx) (abs_diff (next w s).x w.x) (abs_diff (next w s).y w.y))
      go (yes p) = rw (le-leb w.dy w.dx p) (one_less_x (yes_x (stepped.falls_x p)))
      go (no p) = rw (lt-leb w.dy w.dx (omega arith)) (one_less_y (yes_y (stepped.falls_y (omega arith))))

-- ---- the second end

module _ (w : Way) (s : Pen) (g : Goes w s) where
  pub at-end : s.x ≡ w.x → s.y ≡ w.y → ahead w s ≡ 0
  unfolding ahead
  at-end h k = end-good w.dx w.dy (abs_diff s.x w.x) (abs_diff s.y w.y) (omega arith) (omega arith)

  pub not_end : (s.x ≡ w.x → s.y ≡ w.y → ⊥) → Steps w s
  unfolding ahead
  not_end h = record { goes = g; more = go (ℕ_discrete (ahead w s) 0) }
    where
      go : Dec (ahead w s ≡ 0) → 0 < ahead w s
      go (yes e) = let r = good-end g.good e in absurd (h (omega arith) (omega arith))
      go (no n) = omega arith
