-- A span of signed numbers, read above the least one, and the run of a canvas's side that lies in it.
use Rattle.std.proofs.Common.{◌≡◌, ℕ, zero, suc, ◌+◌, ◌-◌, ◌%◌, ◌^◌, ◌<◌, ◌≤◌, min, max, Bool, true, false, cond, ◌&&◌, ltb, leb, List, [], ◌∷◌, ◌++◌, ℤ, pos, ◌+ℤ◌, sym, refl, ap, ◌∙◌, ap₂, append-nil, add-zero, suc-add, zero-add, arith, w32, SFits, to_z, of_z, le-ltb, lt-ltb, le-leb}
use native.Mathlib.Nat.{min-le_left, min-le_right}
use native.Mathlib.Decide.{dec_lt, dec_le}
use borrow.Author.Tests.{lt-leb}
use lib.IntN.{sub_ℕ}
use lib.Signed.{le_z, lt_z}
use mir.ValLaws.{to_z-of_z, to_z-Fits, of_z_fits}
use Rattle.canvas.specs.declared.Clip.{Clip}
use Rattle.pixels.specs.declared.rows.Span.{Span}
use Rattle.canvas.specs.Clip.{within, in_clip}
use Rattle.canvas.specs.Boxes.{select}
use Rattle.canvas.specs.Walk.{lifted, lowered, Holds, Cut, in_order, cut_of}
use Rattle.pixels.specs.Rows.{run}
use Rattle.canvas.proofs.span.Lifts.{lift_is, lift_lt, lower_lift, lowered-neg, lowered_pos}

pub both_no : (t : Bool) → (t && false) ≡ false
both_no true = refl
both_no false = refl

-- two tests that say the same (`ltb a b` is `leb (suc a) b`)
pub same_leb : (a b c d : ℕ) → (a ≤ b → c ≤ d) → (c ≤ d → a ≤ b) → leb a b ≡ leb c d
same_leb a b c d f g = go (dec_le a b) (dec_le c d)
  where
    go : Dec (a ≤ b) → Dec (c ≤ d) → leb a b ≡ leb c d
    go (yes h) k = le-leb a b h ∙ sym (le-leb c d (f h))
    go (no h) (yes k) = absurd (h (g k))
    go (no h) (no k) = lt-leb a b (omega arith) ∙ sym (lt-leb c d (omega arith))

-- the test of a span at a number that is not negative, among lifted numbers
pub within-lowered : (u n p : ℕ) → within (lowered u) n (pos p) ≡ (leb u (2147483648 + p) && ltb (2147483648 + p) (u + n))
unfolding within
within-lowered u n p = go (dec_lt u 2147483648)
  where
    past : Dec (n < suc (2147483647 - u)) → u < 2147483648 → lt_z (pos p) (sub_ℕ n (suc (2147483647 - u))) ≡ ltb (2147483648 + p) (u + n)
    past (yes k) h = rw (lt-ltb n (suc (2147483647 - u)) k) (sym (le-ltb (2147483648 + p) (u + n) (omega arith)))
    past (no k) h =
        rw (le-ltb n (suc (2147483647 - u)) (omega arith))
        (same_leb (suc p) (n - suc (2147483647 - u)) (suc (2147483648 + p)) (u + n) (omega arith) (omega arith))

    go : Dec (u < 2147483648) → (le_z (lowered u) (pos p) && lt_z (pos p) (lowered u +ℤ pos n)) ≡ (leb u (2147483648 + p) && ltb (2147483648 + p) (u + n))
    go (yes h) = rw (lowered-neg u h, le-leb u (2147483648 + p) (omega arith)) (past (dec_lt n (suc (2147483647 - u))) h)
    go (no h) =
        let l : 2147483648 ≤ u = omega arith in
        rw (lowered_pos u l)
        (ap₂ ◌&&◌ (same_leb (u - 2147483648) p u (2147483648 + p) (omega arith) (omega arith))
        (same_leb (suc p) (u - 2147483648 + n) (suc (2147483648 + p)) (u + n) (omega arith) (omega arith)))

within-lifted : (a : ℤ) (n p : ℕ) → SFits w32 a
    → within a n (pos p) ≡ (leb (lifted a) (2147483648 + p) && ltb (2147483648 + p) (lifted a + n))
within-lifted a n p h = ap (λ (z : ℤ). within z n (pos p)) (sym (lower_lift a h)) ∙ within-lowered (lifted a) n p

-- what `in_span` answers
module _ (a : ℤ) (n p u : ℕ) (s : SFits w32 a) (e : u ≡ lifted (to_z w32 (of_z w32 a))) where
  span_no : 2147483648 + p < u → false ≡ within a n (pos p)
  span_no h = rw (within-lifted a n p s, ← lift_is a u s e, lt-leb _ _ h)

  span_yes : u ≤ 2147483648 + p → ltb (2147483648 + p) (u + n) ≡ within a n (pos p)
  span_yes h = rw (within-lifted a n p s, ← lift_is a u s e, le-leb _ _ h)

  -- r is how far the point lies past the span's first, modulo 2^64
  pub span_around : (r : ℕ) → n < 2 ^ 32 → p < 32768 → r < 2 ^ 64 → (r + u) % 2 ^ 64 ≡ 2147483648 + p → ltb r n ≡ within a n (pos p)
  span_around r k l m i = go (dec_lt (2147483648 + p) u)
    where
      low : u < 4294967296
      low = lift_lt a u s e

      go : Dec (2147483648 + p < u) → ltb r n ≡ within a n (pos p)
      go (yes h) = le-ltb r n (omega (arith, low)) ∙ span_no h
      go (no h) =
          let j : r + u ≡ 2147483648 + p = omega (arith, low) in
          same_leb (suc r) n (suc (2147483648 + p)) (u + n) (omega arith) (omega arith) ∙ span_yes (omega arith)

-- what `in_clip` answers
module _ (c : Clip) (x y : ℤ) (r : Bool) (s : SFits w32 c.x) (e : r ≡ within (to_z w32 (of_z w32 c.x)) c.width x) where
  across : r ≡ within c.x c.width x
  across = rw (to_z-of_z w32 c.x s) at e

  pub clip_no : r ≡ false → false ≡ in_clip c x y
  unfolding in_clip
  clip_no h = rw (← across, h) refl

  pub clip_yes : (q : Bool) → SFits w32 c.y → r ≡ true → q ≡ within (to_z w32 (of_z w32 c.y)) c.height y → q ≡ in_clip c x y
  unfolding in_clip
  clip_yes q t h k = let k' : q ≡ within c.y c.height y = rw (to_z-of_z w32 c.y t) at k in rw (← across, h) k'

-- ---- a selected span is a run

run-zero : (i : ℕ) → run i 0 ≡ []
unfolding run
run-zero i = refl

pub select-none : (t : ℕ → Bool) (i m : ℕ) → ((k : ℕ) → i ≤ k → k < i + m → t k ≡ false) → select t i m ≡ []
unfolding select
select-none t i zero h = refl
select-none t i (suc m) h = rw (h i (omega arith) (omega arith)) (select-none t (suc i) m (λ k p q. h k (omega arith) (omega arith)))

select_all : (t : ℕ → Bool) (i m : ℕ) → ((k : ℕ) → i ≤ k → k < i + m → t k ≡ true) → select t i m ≡ run i m
unfolding select run
select_all t i zero h = refl
select_all t i (suc m) h = rw (h i (omega arith) (omega arith)) (ap (λ (l : List ℕ). i ∷ l) (select_all t (suc i) m (λ k p q. h k (omega arith) (omega arith))))

cond-append : (t : Bool) (i : ℕ) (xs ys : List ℕ) → cond t (i ∷ (xs ++ ys)) (xs ++ ys) ≡ cond t (i ∷ xs) xs ++ ys
cond-append true i xs ys = refl
cond-append false i xs ys = refl

select_cut : (t : ℕ → Bool) (i m k : ℕ) → select t i (m + k) ≡ select t i m ++ select t (i + m) k
unfolding select
select_cut t i zero k = rw (zero-add, add-zero) refl
select_cut t i (suc m) k =
    let e : i + suc m ≡ suc i + m = omega arith in
    rw (suc-add m k, select_cut t (suc i) m k, e) (cond-append (t i) i (select t (suc i) m) (select t (suc i + m) k))

select-span : (t : ℕ → Bool) (lo end hi n : ℕ) → Holds t lo end → lo ≤ hi → hi ≤ n → hi ≤ end → ((k : ℕ) → hi ≤ k → k < n → end ≤ k) → select t 0 n ≡ run lo (hi - lo)
select-span t lo end hi n h l l' m p =
    let e : n ≡ lo + ((hi - lo) + (n - hi)) = omega arith in
    ap (select t 0) e ∙ select_cut t 0 lo ((hi - lo) + (n - hi))
    ∙ ap₂ (λ (x y : List ℕ). x ++ y) (select-none t 0 lo (λ k a b. h.before k (omega arith)))
    (select_cut t (0 + lo) (hi - lo) (n - hi)
    ∙ ap₂ (λ (x y : List ℕ). x ++ y)
    (select_all t (0 + lo) (hi - lo) (λ k a b. h.inside k (omega arith) (omega arith)) ∙ ap (λ (x : ℕ). run x (hi - lo)) (zero-add lo))
    (select-none t (0 + lo + (hi - lo)) (n - hi) (λ k a b. h.past k (p k (omega arith) (omega arith)))) ∙ append-nil (run lo (hi - lo)))

-- what of it lies among the first n
pub run_is : (t : ℕ → Bool) (lo end n to : ℕ) → Holds t lo end → to ≡ min end n → run lo (to - lo) ≡ select t 0 n
run_is t lo end n to h e = go (dec_le lo to)
  where
    l1 : to ≤ end
    l1 = rw e (min-le_left end n)

    l2 : to ≤ n
    l2 = rw e (min-le_right end n)

    l3 : (k : ℕ) → to ≤ k → k < n → end ≤ k
    l3 k p q = omega arith

    out : (k : ℕ) → to < lo → Dec (k < lo) → k < n → t k ≡ false
    out k l (yes p) q = h.before k p
    out k l (no p) q = h.past k (l3 k (omega arith) q)

    go : Dec (lo ≤ to) → run lo (to - lo) ≡ select t 0 n
    go (yes l) = sym (select-span t lo end to n h l l2 l1 l3)
    go (no l) =
        let z : to - lo ≡ 0 = omega arith in
        ap (run lo) z ∙ run-zero lo ∙ sym (select-none t 0 n (λ k p q. out k (omega arith) (dec_lt k lo) (omega arith)))

-- ---- the ends of what two tests share, and of one span

pub holds_both : {t u : ℕ → Bool} {lo end lo' end' : ℕ} → Holds t lo end → Holds u lo' end' → Holds (λ k. t k && u k) (max lo lo') (min end end')
holds_both {t} {u} {lo} {end} {lo'} {end'} h g = record {
  before = λ k l. no_start k l (dec_lt k lo);
  inside = λ k l m. rw (h.inside k (omega arith) (omega arith), g.inside k (omega arith) (omega arith)) refl;
  past = λ k l. no_end k l (dec_le end k);
}
  where
    no_start : (k : ℕ) → k < max lo lo' → Dec (k < lo) → (t k && u k) ≡ false
    no_start k l (yes m) = rw (h.before k m) refl
    no_start k l (no m) = rw (g.before k (omega arith)) (both_no (t k))

    no_end : (k : ℕ) → min end end' ≤ k → Dec (end ≤ k) → (t k && u k) ≡ false
    no_end k l (yes m) = rw (h.past k m) refl
    no_end k l (no m) = rw (g.past k (omega arith)) (both_no (t k))

pub span_holds : (u len from end : ℕ) → from ≡ u - 2147483648 → end ≡ u + len - 2147483648 → Holds (λ k. within (lowered u) len (pos k)) from end
span_holds u len from end ef ee = record { before = before; inside = inside; past = past }
  where
    before : (k : ℕ) → k < from → within (lowered u) len (pos k) ≡ false
    before k h = within-lowered u len k ∙ rw (lt-leb u (2147483648 + k) (omega arith)) refl

    inside : (k : ℕ) → from ≤ k → k < end → within (lowered u) len (pos k) ≡ true
    inside k h l = within-lowered u len k ∙ rw (le-leb u (2147483648 + k) (omega arith), lt-ltb (2147483648 + k) (u + len) (omega arith)) refl

    past : (k : ℕ) → end ≤ k → within (lowered u) len (pos k) ≡ false
    past k h = within-lowered u len k ∙ rw (le-ltb (2147483648 + k) (u + len) (omega arith)) (both_no (leb u (2147483648 + k)))

-- what is left of a span
module _ (lo end : ℕ) (c : ℤ) (m n : ℕ) (s : SFits w32 c) (cf ct : ℕ) (ef : cf ≡ lifted c - 2147483648) (et : ct ≡ lifted c + m - 2147483648) where
  clip_holds : Holds (λ k. within c m (pos k)) cf ct
  clip_holds = rw (lower_lift c s) at (span_holds (lifted c) m cf ct ef et)

  module _ (from to : ℕ) (gf : from ≡ max lo cf) (gt : to ≡ min (min end ct) n) where
    same-run : (t : ℕ → Bool) → Holds t lo end → run from (to - from) ≡ select (λ i. t i && within c m (pos i)) 0 n
    same-run t h =
        let g : Holds (λ i. t i && within c m (pos i)) from (min end ct) = rw (← gf) at (holds_both h clip_holds) in
        run_is (λ i. t i && within c m (pos i)) from (min end ct) n to g gt

    same_point : (t : ℕ → Bool) → Holds t lo end → (i : ℕ) → i < n → (t i && within c m (pos i)) ≡ (leb from i && ltb i to)
    same_point t h i l =
        let g : Holds (λ k. t k && within c m (pos k)) from (min end ct) = rw (← gf) at (holds_both h clip_holds) in
        go g (dec_lt i from) (dec_lt i to)
      where
        go : Holds (λ k. t k && within c m (pos k)) from (min end ct) → Dec (i < from) → Dec (i < to) → (t i && within c m (pos i)) ≡ (leb from i && ltb i to)
        go g (yes a) d = g.before i a ∙ rw (lt-leb from i a) refl
        go g (no a) (yes d) = g.inside i (omega arith) (omega arith) ∙ rw (le-leb from i (omega arith), lt-ltb i to d) refl
        go g (no a) (no d) = g.past i (omega arith) ∙ rw (le-ltb i to (omega arith)) (sym (both_no (leb from i)))

    cut_some : from ≤ to → Cut lo end c m n from to
    cut_some l = record {
      ordered = l;
      held = rw gt (min-le_right (min end ct) n);
      begins = λ h. omega arith;
      ends = λ h. omega arith;
      same = same-run;
      point = same_point;
    }

    cut_none : to < from → Cut lo end c m n 0 0
    cut_none l =
        let z : to - from ≡ 0 = omega arith in
        record { ordered = omega arith; held = omega arith; begins = λ h. absurd (omega arith); ends = λ h. absurd (omega arith); same = λ t h. run-zero 0 ∙ sym (run-zero from) ∙ ap (run from) (sym z) ∙ same-run t h; point = λ t h i k. same_point t h i k ∙ nowhere i }
      where
        nowhere : (i : ℕ) → (leb from i && ltb i to) ≡ (leb 0 i && ltb i 0)
        nowhere i = neither (dec_lt i to) ∙ rw (le-ltb i 0 (omega arith)) (sym (both_no (leb 0 i)))
          where
            neither : Dec (i < to) → (leb from i && ltb i to) ≡ false
            neither (yes h) = rw (lt-leb from i (omega arith)) refl
            neither (no h) = rw (le-ltb i to (omega arith)) (both_no (leb from i))

max_lowered : (a b z : ℕ) → max a b - z ≡ max (a - z) (b - z)
max_lowered a b z = omega arith

min_lowered : (a b z : ℕ) → min a b - z ≡ min (a - z) (b - z)
min_lowered a b z = omega arith

max_last : (a b d : ℕ) → max (max a b) d ≡ max (max a d) b
max_last a b d = omega arith

min_last : (a b d : ℕ) → min (min a b) d ≡ min (min a d) b
min_last a b d = omega arith

min_twice : (a n : ℕ) → min a n ≡ min (min n a) n
min_twice a n = omega arith

-- the least signed number is added to both, and taken off again
both_lifted : (p s z : ℕ) → p + z - s - z ≡ p - s
both_lifted p s z = omega arith

-- What `overlap`, `window` and `shown_in` answer: the largest start and the smallest end are found among lifted numbers and then lowered.
-- u is the clip's start, lifted.
module _ (c : ℤ) (m n u : ℕ) (r : Span) (s : SFits w32 c) (eu : u ≡ lifted (to_z w32 (of_z w32 c))) where
  is_cut : (lo end from to : ℕ) → from ≡ max lo (u - 2147483648) → to ≡ min (min end (u + m - 2147483648)) n → r ≡ in_order from to → r ≡ cut_of lo end c m n
  unfolding cut_of
  is_cut lo end from to ef et er = rw (er, et, ef, lift_is c u s eu) refl

  pub is_overlap : (p len from end : ℕ) → from ≡ max p u → end ≡ min (p + len) (u + m)
      → r ≡ in_order (from - 2147483648) (min (end - 2147483648) n) → r ≡ cut_of (p - 2147483648) (p + len - 2147483648) c m n
  is_overlap p len from end ef ee er =
      is_cut _ _ _ _ (rw ef (max_lowered p u 2147483648)) (ap (λ (k : ℕ). min k n) (rw ee (min_lowered (p + len) (u + m) 2147483648))) er

  pub is_window : r ≡ in_order (u - 2147483648) (min (u + m - 2147483648) n) → r ≡ cut_of 0 n c m n
  is_window er = is_cut 0 n _ _ (omega arith) (min_twice (u + m - 2147483648) n) er

  -- q is the span's start, lifted twice
  pub is-shown : (p s' len side q a from b end : ℕ) → q ≡ p + 2147483648 → a ≡ max p u → from ≡ max a (q - s')
      → b ≡ min (p + len) (u + m) → end ≡ min b (q + side - s') → r ≡ in_order (from - 2147483648) (min (end - 2147483648) n)
      → r ≡ cut_of (max (p - 2147483648) (p - s')) (min (p + len - 2147483648) (p + side - s')) c m n
  is-shown p s' len side q a from b end eq ea ef eb ee er = is_cut _ _ _ _ starts ends er
    where
      starts : from - 2147483648 ≡ max (max (p - 2147483648) (p - s')) (u - 2147483648)
      starts =
          ap (λ (k : ℕ). k - 2147483648) ef ∙ max_lowered a (q - s') 2147483648
          ∙ ap₂ max (rw ea (max_lowered p u 2147483648)) (rw eq (both_lifted p s' 2147483648)) ∙ max_last _ _ _

      ends : min (end - 2147483648) n ≡ min (min (min (p + len - 2147483648) (p + side - s')) (u + m - 2147483648)) n
      ends =
          let e : q + side ≡ p + side + 2147483648 = omega arith in
          ap (λ (k : ℕ). min k n)
          (ap (λ (k : ℕ). k - 2147483648) ee ∙ min_lowered b (q + side - s') 2147483648
          ∙ ap₂ min (rw eb (min_lowered (p + len) (u + m) 2147483648)) (rw e (both_lifted (p + side) s' 2147483648)) ∙ min_last _ _ _)

-- and what that is
pub cut_of_lem : (lo end : ℕ) (c : ℤ) (m n : ℕ) (r : Span) → SFits w32 c → r ≡ cut_of lo end c m n → Cut lo end c m n r.from r.to
unfolding cut_of
cut_of_lem lo end c m n r s e = go (dec_lt to from)
  where
    cf : ℕ
    cf = lifted c - 2147483648

    ct : ℕ
    ct = lifted c + m - 2147483648

    from : ℕ
    from = max lo cf

    to : ℕ
    to = min (min end ct) n

    go : Dec (to < from) → Cut lo end c m n r.from r.to
    go (yes l) = rw (e, lt-ltb to from l) (cut_none lo end c m n s cf ct refl refl from to refl refl l)
    go (no l) = rw (e, le-ltb to from (omega arith)) (cut_some lo end c m n s cf ct refl refl from to refl refl (omega arith))

-- a signed argument reaches a callee as `to_z w (of_z w x)`
pub told_cut : (c : ℤ) {lo end m n : ℕ} {r : Span} → SFits w32 c → r ≡ cut_of lo end (to_z w32 (of_z w32 c)) m n → Cut lo end (to_z w32 (of_z w32 c)) m n r.from r.to
told_cut c {lo} {end} {m} {n} {r} s e = cut_of_lem lo end (to_z w32 (of_z w32 c)) m n r (to_z-Fits w32 (of_z w32 c) (of_z_fits w32 c s)) e
