-- The fate of a plot, from what the code tests.
use Rattle.std.proofs.Common.{◌≡◌, ℕ, ◌+◌, ◌-◌, ◌%◌, ◌^◌, ◌<◌, ◌≤◌, Bool, true, false, cond, ltb, leb, ℤ, pos, negsuc, nat_abs, sym, refl, ◌∙◌, zero-add, arith, ltb-true, le-ltb, lt-ltb}
use native.Mathlib.Decide.{dec_lt}
use lib.Dec.{leb-zero}
use Rattle.pixels.specs.declared.Canvas.{Canvas}
use Rattle.words.proofs.Either.{both}
use Rattle.canvas.specs.declared.Clip.{Clip}
use Rattle.pixels.specs.Bytes.{On}
use Rattle.canvas.specs.Clip.{within, in_clip}
use Rattle.canvas.specs.Plot.{Plot, plot, on_canvas, landed, outside, clipped, judge, fate}
use Rattle.canvas.specs.Walk.{lowered}
use Rattle.canvas.proofs.span.Spans.{both_no}
use Rattle.canvas.proofs.span.Lifts.{lowered-neg, lowered_pos}

-- ---- a side of the canvas

pub side_yes : (n x : ℕ) → x < n → within (pos 0) n (pos x) ≡ true
unfolding within
side_yes n x h = rw (leb-zero x, zero-add n, lt-ltb x n h) refl

pub side-past : (n x : ℕ) → n ≤ x → within (pos 0) n (pos x) ≡ false
unfolding within
side-past n x h = rw (leb-zero x, zero-add n, le-ltb x n h) refl

pub side-minus : (n x : ℕ) → within (pos 0) n (negsuc x) ≡ false
unfolding within
side-minus n x = refl

-- the two tests of a lifted number
pub side_before : (n p : ℕ) → p < 2147483648 → false ≡ within (pos 0) n (lowered p)
side_before n p h = sym (rw (lowered-neg p h) (side-minus n (2147483647 - p)))

pub side_tests : (n p : ℕ) → 2147483648 ≤ p → ltb (p - 2147483648) n ≡ within (pos 0) n (lowered p)
unfolding within
side_tests n p h = rw (lowered_pos p h, leb-zero (p - 2147483648), zero-add n) refl

-- r is how far p lies past the zero, modulo 2^64
pub side_around : (n p r : ℕ) → n < 2 ^ 32 → p < 2 ^ 64 → r < 2 ^ 64 → (r + 2147483648) % 2 ^ 64 ≡ p → ltb r n ≡ within (pos 0) n (lowered p)
side_around n p r k l m e = go (dec_lt p 2147483648)
  where
    go : Dec (p < 2147483648) → ltb r n ≡ within (pos 0) n (lowered p)
    go (yes h) = le-ltb r n (omega arith) ∙ side_before n p h
    go (no h) = let d : r ≡ p - 2147483648 = omega arith in rw d (side_tests n p (omega arith))

pub on_canvas_lem : (v : Canvas) (x y : ℕ) → x < v.width → y < v.height → on_canvas v (pos x) (pos y) ≡ true
unfolding on_canvas
on_canvas_lem v x y hx hy = rw (side_yes v.width x hx, side_yes v.height y hy) refl

pub off_across : (v : Canvas) (x y : ℤ) → within (pos 0) v.width x ≡ false → on_canvas v x y ≡ false
unfolding on_canvas
off_across v x y e = rw e refl

pub off_down : (v : Canvas) (x y : ℤ) → within (pos 0) v.height y ≡ false → on_canvas v x y ≡ false
unfolding on_canvas
off_down v x y e = rw e (both_no (within (pos 0) v.width x))

-- ---- the fates

pub is-outside : (v : Canvas) (c : Clip) (x y : ℤ) (f : ℕ → ℕ) → on_canvas v x y ≡ false → fate v c (plot f x y) ≡ outside
unfolding fate
is-outside v c x y f o = rw o refl

pub is-inside : (v : Canvas) (c : Clip) (x y : ℤ) (f : ℕ → ℕ) (r : Bool) → on_canvas v x y ≡ true → r ≡ in_clip c x y → fate v c (plot f x y) ≡ cond r landed clipped
unfolding fate
is-inside v c x y f true o e = rw (o, ← e) refl
is-inside v c x y f false o e = rw (o, ← e) refl

-- ---- what lands is on the canvas

side_in : (n : ℕ) (x : ℤ) → within (pos 0) n x ≡ true → nat_abs x < n
unfolding within
side_in n (pos m) e = let h : m < 0 + n = ltb-true m (0 + n) (both (leb 0 m) (ltb m (0 + n)) e).1 in omega arith
side_in n (negsuc m) e = absurd (let z : ◌≡◌ {A = ℕ} 0 1 = cc in omega arith)

judged_on : (a b : Bool) → judge a b ≡ landed → a ≡ true
judged_on true b e = refl
judged_on false b e = absurd (let z : ◌≡◌ {A = ℕ} 0 1 = cc in omega arith)

pub lands_on : (v : Canvas) (c : Clip) (p : Plot) → fate v c p ≡ landed → On v (nat_abs p.x) (nat_abs p.y)
unfolding fate on_canvas
lands_on v c p e =
    let o : on_canvas v p.x p.y ≡ true = judged_on (on_canvas v p.x p.y) (in_clip c p.x p.y) e in
    record {
      across = side_in v.width p.x (both (within (pos 0) v.width p.x) (within (pos 0) v.height p.y) o).0;
      down = side_in v.height p.y (both (within (pos 0) v.width p.x) (within (pos 0) v.height p.y) o).1;
    }

-- ---- a lifted point of the canvas

lifted-side : (n p : ℕ) → within (pos 0) n (lowered p) ≡ true → (2147483648 ≤ p) × (p - 2147483648 < n)
lifted-side n p e = go (dec_lt p 2147483648)
  where
    go : Dec (p < 2147483648) → (2147483648 ≤ p) × (p - 2147483648 < n)
    go (yes h) = absurd (let f : false ≡ true = side_before n p h ∙ e in let z : ◌≡◌ {A = ℕ} 0 1 = cc in omega arith)
    go (no h) = (omega arith, ltb-true (p - 2147483648) n (side_tests n p (omega arith) ∙ e))

pub record Lifted (v : Canvas) (p q : ℕ) : Type 0 where
  pub left : 2147483648 ≤ p
  pub top : 2147483648 ≤ q
  pub on : On v (p - 2147483648) (q - 2147483648)

module _ (v : Canvas) (p q : ℕ) (o : on_canvas v (lowered p) (lowered q) ≡ true) where
  pub lifted_on : Lifted v p q
  unfolding on_canvas
  lifted_on =
      let a = lifted-side v.width p (both (within (pos 0) v.width (lowered p)) (within (pos 0) v.height (lowered q)) o).0 in
      let b = lifted-side v.height q (both (within (pos 0) v.width (lowered p)) (within (pos 0) v.height (lowered q)) o).1 in
      record { left = a.0; top = b.0; on = record { across = a.1; down = b.1 } }

  pub lifted-fate : (c : Clip) (f : ℕ → ℕ) (r : Bool) → r ≡ in_clip c (pos (p - 2147483648)) (pos (q - 2147483648))
      → fate v c (plot f (lowered p) (lowered q)) ≡ cond r landed clipped
  lifted-fate c f r e =
      is-inside v c (lowered p) (lowered q) f r o (rw (lowered_pos p lifted_on.left, lowered_pos q lifted_on.top) e)
