-- Rows and boxes of pixels that pass a test: the invariant of the loops over them, and what lands of a sieve.
use Rattle.std.proofs.Common.{◌≡◌, ℕ, zero, suc, ◌+◌, ◌-◌, ◌<◌, ◌≤◌, min, Bool, true, false, List, [], ◌++◌, length, sym, refl, ap, ◌∙◌, ap₂, append-nil, arith, length-append}
use mathlib.Core.List.{flat_map}
use native.Mathlib.Decide.{dec_lt}
use Rattle.curves.specs.Pies.{Next}
use Rattle.pixels.specs.declared.Canvas.{Canvas}
use Rattle.canvas.specs.declared.Tally.{Tally}
use Rattle.pixels.specs.Bytes.{Sized}
use Rattle.pixels.specs.Hits.{Hit, paint}
use Rattle.pixels.specs.Rows.{run, marks, flat}
use Rattle.canvas.specs.Walk.{plus, Work, work, Fits}
use Rattle.ovals.specs.Sift.{sift, sifts, land}
use Rattle.pixels.proofs.bytes.Pixels.{sized-length}
use Rattle.pixels.proofs.Hits.{paint-append, paint-length}
use Rattle.pixels.proofs.rows.Rows.{run_step, run_none, marks-length}
use Rattle.pixels.proofs.rows.Parts.{parts, run_alike}

-- ---- the invariant: what is left leads to the same end as all of it from the start

pub record Left (v : Canvas) (hs : List Hit) (w : Work) (hs₀ : List Hit) (w₀ : Work) : Type 0 where
  pub same : land v hs w ≡ land v hs₀ w₀

pub left-start : {v : Canvas} {hs : List Hit} {w : Work} → Left v hs w hs w
left-start = record { same = refl }

pub land-length : (v : Canvas) (hs : List Hit) (w w' : Work) → w' ≡ land v hs w → length w'.bytes ≡ length w.bytes
land-length v hs w w' e = ap (λ (z : Work). length z.bytes) e ∙ paint-length v hs w.bytes

pub left-length : {v : Canvas} {hs hs₀ : List Hit} {w w₀ : Work} → Left v hs w hs₀ w₀ → length w.bytes ≡ length w₀.bytes
left-length {v} {hs} {hs₀} {w} {w₀} r = sym (paint-length v hs w.bytes) ∙ land-length v hs₀ w₀ (land v hs w) r.same

pub left-sized : {v : Canvas} {hs hs₀ : List Hit} {w w₀ : Work} → Left v hs w hs₀ w₀ → Sized v w₀.bytes → Sized v w.bytes
left-sized r s = sized-length (left-length r) s

-- how many there are to the end
left-count : {v : Canvas} {hs hs₀ : List Hit} {w w₀ : Work} → Left v hs w hs₀ w₀ → w.tally.landed + length hs ≡ w₀.tally.landed + length hs₀
left-count r = ap (λ (z : Work). z.tally.landed) r.same

land-append : (v : Canvas) (hs ks : List Hit) (w : Work) → land v (hs ++ ks) w ≡ land v ks (land v hs w)
land-append v hs ks w =
    let e : w.tally.landed + length (hs ++ ks) ≡ w.tally.landed + length hs + length ks = omega (arith, length-append hs ks) in
    ap₂ (λ (b : List ℕ) (n : ℕ). work b (record { landed = n })) (paint-append v hs ks w.bytes) e

-- some of what is left has landed
left_step : {v : Canvas} {hs hs₀ : List Hit} {w w₀ : Work} (ks ls : List Hit) (w' : Work) → Left v hs w hs₀ w₀ → hs ≡ ks ++ ls → w' ≡ land v ks w → Left v ls w' hs₀ w₀
left_step {v} {hs} {hs₀} {w} {w₀} ks ls w' r e f =
    record { same = ap (land v ls) f ∙ sym (land-append v ks ls w) ∙ sym (ap (λ (z : List Hit). land v z w) e) ∙ r.same }

pub left_end : {v : Canvas} {hs hs₀ : List Hit} {w w₀ : Work} → Left v hs w hs₀ w₀ → hs ≡ [] → w ≡ land v hs₀ w₀
unfolding paint
left_end {v} {hs} {hs₀} {w} {w₀} r e =
    let z : w.tally.landed ≡ w.tally.landed + 0 = omega arith in
    ap (λ (n : ℕ). work w.bytes (record { landed = n })) z ∙ sym (ap (λ (z : List Hit). land v z w) e) ∙ r.same

-- room for some of what is left
left-room : {v : Canvas} {hs hs₀ : List Hit} {w w₀ : Work} (ks ls : List Hit) → Left v hs w hs₀ w₀ → hs ≡ ks ++ ls → Fits (land v hs₀ w₀).tally → Fits (land v ks w).tally
left-room {v} {hs} {hs₀} {w} {w₀} ks ls r e f = omega (arith, f, left-count r, ap length e, length-append ks ls)

-- ---- a row's runs

cut_at : {A : Type 0} (g : ℕ → List A) (x e x1 : ℕ) → x ≤ e → e ≤ x1 → flat_map g (run x (x1 - x)) ≡ flat_map g (run x (e - x)) ++ flat_map g (run e (x1 - e))
cut_at g x e x1 h k =
    let p : x1 - x ≡ (e - x) + (x1 - e) = omega arith in
    let q : x + (e - x) ≡ e = omega arith in
    ap (λ (n : ℕ). flat_map g (run x n)) p ∙ parts g x (e - x) (x1 - e) ∙ ap (λ (i : ℕ). flat_map g (run x (e - x)) ++ flat_map g (run i (x1 - e))) q

each_none : {A : Type 0} (g : ℕ → List A) (x n : ℕ) → ((k : ℕ) → x ≤ k → k < x + n → g k ≡ []) → flat_map g (run x n) ≡ []
unfolding flat_map run
each_none g x zero e = refl
each_none g x (suc n) e = ap₂ (λ (l m : List _). l ++ m) (e x (omega arith) (omega arith)) (each_none g (suc x) n (λ k l m. e k (omega arith) (omega arith)))

-- of a row the part outside of which no pixel passes
module _ (t u : ℕ → ℕ → Bool) (f : ℕ → ℕ) (y x a e x1 : ℕ) (h : x ≤ a) (k : a ≤ e) (l : e ≤ x1)
    (before : (i : ℕ) → x ≤ i → i < a → t i y ≡ false) (within : (i : ℕ) → a ≤ i → i < e → t i y ≡ u i y) (after : (i : ℕ) → e ≤ i → i < x1 → t i y ≡ false) where
  pub part-hits : sifts t f (run x (x1 - x)) y ≡ sifts u f (run a (e - a)) y
  unfolding sift
  part-hits =
      cut_at (sift t f y) x a x1 h (omega arith)
      ∙ ap₂ (λ (l m : List Hit). l ++ m) (each_none (sift t f y) x (a - x) (λ i m n. rw (before i m (omega arith)) refl)) (cut_at (sift t f y) a e x1 k l)
      ∙ ap₂ (λ (l m : List Hit). l ++ m) (run_alike (sift t f y) (sift u f y) a (e - a) (λ i m n. rw (within i m (omega arith)) refl))
      (each_none (sift t f y) e (x1 - e) (λ i m n. rw (after i m (omega arith)) refl))
      ∙ append-nil (sifts u f (run a (e - a)) y)

  pub part_fits : (v : Canvas) (w : Work) → Fits (land v (sifts t f (run x (x1 - x)) y) w).tally → Fits (land v (sifts u f (run a (e - a)) y) w).tally
  part_fits v w r = omega (arith, r, ap length part-hits)

  pub part-lands : (v : Canvas) (w w' : Work) → w' ≡ land v (sifts u f (run a (e - a)) y) w → w' ≡ land v (sifts t f (run x (x1 - x)) y) w
  part-lands v w w' g = g ∙ sym (ap (λ (l : List Hit). land v l w) part-hits)

-- a part of a row in which each pixel passes
module _ (t : ℕ → ℕ → Bool) (f : ℕ → ℕ) (y x x1 : ℕ) (all : (i : ℕ) → t i y ≡ true) (v : Canvas) (b : List ℕ) (n : Tally) where
  all_hits : sifts t f (run x (x1 - x)) y ≡ marks (flat f) (run x (x1 - x)) y
  unfolding sift
  all_hits = run_alike (sift t f y) _ x (x1 - x) (λ i l m. rw (all i) refl)

  pub all_room : Fits (land v (sifts t f (run x (x1 - x)) y) (work b n)).tally → Fits (plus n (x1 - x))
  all_room r = omega (arith, r, ap length all_hits, marks-length (flat f) x (x1 - x) y)

  pub all_lands : (b' : List ℕ) (n' : Tally) → b' ≡ paint v (marks (flat f) (run x (x1 - x)) y) b → n' ≡ plus n (x1 - x) → work b' n' ≡ land v (sifts t f (run x (x1 - x)) y) (work b n)
  all_lands b' n' g h = ap₂ work g (h ∙ ap (plus n) (sym (marks-length (flat f) x (x1 - x) y))) ∙ sym (ap (λ (l : List Hit). land v l (work b n)) all_hits)

-- the search of a row stands at a pixel that passes, or at the end; what is left leads to the same end as all of it
pub record Found (v : Canvas) (t : ℕ → ℕ → Bool) (f : ℕ → ℕ) (y x₀ x x1 : ℕ) (w w₀ : Work) : Type 0 where
  pub from : x₀ ≤ x
  pub to : x ≤ x1
  pub here : x < x1 → t x y ≡ true
  pub left : Left v (sifts t f (run x (x1 - x)) y) w (sifts t f (run x₀ (x1 - x₀)) y) w₀

module _ (t : ℕ → ℕ → Bool) (f : ℕ → ℕ) (y x1 : ℕ) where
  -- from e on none passes up to z
  skipped : (e z : ℕ) → e ≤ z → z ≤ x1 → ((i : ℕ) → e ≤ i → i < z → t i y ≡ false) → sifts t f (run e (x1 - e)) y ≡ sifts t f (run z (x1 - z)) y
  unfolding sift
  skipped e z h k none =
      cut_at (sift t f y) e z x1 h k
      ∙ ap (λ (l : List Hit). l ++ sifts t f (run z (x1 - z)) y) (each_none (sift t f y) e (z - e) (λ i m n. rw (none i m (omega arith)) refl))

  pub found_first : (v : Canvas) (w : Work) (x r : ℕ) → Next (λ i. t i y) true x x1 r → Found v t f y x r x1 w w
  found_first v w x r p = record {
    from = p.from;
    to = p.to;
    here = p.here;
    left = record { same = sym (ap (λ (l : List Hit). land v l w) (skipped x r p.from p.to p.before)) };
  }

  module _ (v : Canvas) (b : List ℕ) (n : Tally) (x₀ x e : ℕ) (w₀ : Work) (r : Found v t f y x₀ x x1 (work b n) w₀) (l : x < x1) (p : Next (λ i. t i y) false (x + 1) x1 e) where
    taken : (i : ℕ) → x ≤ i → i < e → t i y ≡ true
    taken i h k = go (dec_lt x i)
      where
        go : Dec (x < i) → t i y ≡ true
        go (yes o) = p.before i (omega arith) k
        go (no o) = let s : i ≡ x = omega arith in ap (λ (a : ℕ). t a y) s ∙ r.here l

    -- what is left begins with a run, from x up to e
    hits : sifts t f (run x (x1 - x)) y ≡ marks (flat f) (run x (e - x)) y ++ sifts t f (run e (x1 - e)) y
    unfolding sift
    hits =
        cut_at (sift t f y) x e x1 (omega (arith, p.from)) p.to
        ∙ ap (λ (l : List Hit). l ++ sifts t f (run e (x1 - e)) y) (run_alike (sift t f y) _ x (e - x) (λ i m n. rw (taken i m (omega arith)) refl))

    pub run_room : Fits (land v (sifts t f (run x₀ (x1 - x₀)) y) w₀).tally → Fits (plus n (e - x))
    run_room h = omega (arith, left-room (marks (flat f) (run x (e - x)) y) _ r.left hits h, marks-length (flat f) x (e - x) y)

    -- and the search goes on behind it
    module _ (u z : ℕ) (g : u ≡ min (e + 1) x1) (q : Next (λ i. t i y) true u x1 z) where
      onward : e ≤ z
      onward = omega (arith, q.from, p.to)

      pub run_less : x1 - z < x1 - x
      run_less = omega (arith, onward, p.from)

      left_out : (i : ℕ) → e ≤ i → i < z → t i y ≡ false
      left_out i h k = go (dec_lt e i)
        where
          go : Dec (e < i) → t i y ≡ false
          go (yes o) = q.before i (omega arith) k
          go (no o) = let s : i ≡ e = omega arith in ap (λ (a : ℕ). t a y) s ∙ p.here (omega (arith, q.to))

      pub run-turn : (b' : List ℕ) (n' : Tally) → b' ≡ paint v (marks (flat f) (run x (e - x)) y) b → n' ≡ plus n (e - x) → Found v t f y x₀ z x1 (work b' n') w₀
      run-turn b' n' d h = record {
        from = omega (arith, r.from, onward, p.from);
        to = q.to;
        here = q.here;
        left = left_step (marks (flat f) (run x (e - x)) y) _ (work b' n') r.left
            (hits ∙ ap (λ (l : List Hit). marks (flat f) (run x (e - x)) y ++ l) (skipped e z onward q.to left_out))
            (ap₂ work d (h ∙ ap (plus n) (sym (marks-length (flat f) x (e - x) y))));
      }

-- what the numbers from x on give is left, of what those from x₀ on give
pub record Going (v : Canvas) (g : ℕ → List Hit) (x₀ x x1 : ℕ) (w w₀ : Work) : Type 0 where
  pub from : x₀ ≤ x
  pub left : Left v (flat_map g (run x (x1 - x))) w (flat_map g (run x₀ (x1 - x₀))) w₀

-- ---- a box's rows

module _ (v : Canvas) (g : ℕ → List Hit) (y y1 : ℕ) {hs₀ : List Hit} {w w₀ : Work} (r : Left v (flat_map g (run y (y1 - y))) w hs₀ w₀) where
  first : y < y1 → flat_map g (run y (y1 - y)) ≡ g y ++ flat_map g (run (y + 1) (y1 - (y + 1)))
  unfolding flat_map
  first h = ap (flat_map g) (run_step y y1 h)

  pub rows-room : y < y1 → Fits (land v hs₀ w₀).tally → Fits (land v (g y) w).tally
  rows-room h k = left-room (g y) (flat_map g (run (y + 1) (y1 - (y + 1)))) r (first h) k

  pub rows-turn : y < y1 → (w' : Work) → w' ≡ land v (g y) w → Left v (flat_map g (run (y + 1) (y1 - (y + 1)))) w' hs₀ w₀
  rows-turn h w' e = left_step (g y) (flat_map g (run (y + 1) (y1 - (y + 1)))) w' r (first h) e

  pub rows_end : y1 ≤ y → w ≡ land v hs₀ w₀
  unfolding flat_map
  rows_end h = left_end r (ap (flat_map g) (run_none y y1 h))
