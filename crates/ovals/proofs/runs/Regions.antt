-- The sieves of pies and of round fills are those of regions: the first of a pie's sides and sweep, the second of all directions.
use Rattle.std.proofs.Common.{◌≡◌, ℕ, zero, suc, ◌+◌, ◌-◌, ◌<◌, ◌≤◌, Bool, true, false, cond, ◌&&◌, ◌||◌, eqb, ltb, leb, List, [], ◌∷◌, ◌++◌, ℤ, pos, ◌+ℤ◌, sym, refl, ap, ◌∙◌, subst, ap₂, arith, ltb-true, le-ltb, leb-true}
use mathlib.Core.List.{flat_map}
use native.Mathlib.Decide.{dec_lt}
use Rattle.words.proofs.Either.{neither, both}
use Rattle.curves.specs.declared.bulges.Side.{Side}
use Rattle.curves.specs.declared.pies.Pie.{Pie}
use Rattle.curves.specs.Bulges.{part_on, has_at, pie_side, round_side, Sided}
use Rattle.curves.specs.Pies.{pie_of, in_pie, all_round}
use Rattle.curves.specs.Corners.{in_round}
use Rattle.curves.proofs.Disc.{pie-is, pie_sided}
use Rattle.curves.proofs.Parts.{all_covers}
use Rattle.curves.proofs.Arcs.{round_is, round_sided}
use Rattle.pixels.specs.declared.Canvas.{Canvas}
use Rattle.canvas.specs.Clip.{within}
use Rattle.canvas.specs.Plot.{Point, at}
use Rattle.canvas.specs.Boxes.{select, side}
use Rattle.canvas.specs.Walk.{lowered}
use Rattle.canvas.proofs.span.Spans.{within-lowered}
use Rattle.canvas.proofs.span.Lifts.{lowered-neg, lowered_pos}
use Rattle.ovals.specs.Faults.{Shaped}
use Rattle.ovals.specs.Curves.{sieve, pie, round_fill}
use Rattle.ovals.specs.Sift.{region_at}

-- ---- sieves whose tests agree in the box
select_alike : {A : Type 0} (g h : ℕ → List A) (t : ℕ → Bool) (i n : ℕ) → ((k : ℕ) → k < i + n → t k ≡ true → g k ≡ h k) → flat_map g (select t i n) ≡ flat_map h (select t i n)
unfolding select flat_map
select_alike g h t i zero e = refl
select_alike g h t i (suc n) e = go (t i) (λ q. e i (omega arith) q) (select_alike g h t (suc i) n (λ k l q. e k (omega arith) q))
  where
    go : (b : Bool) → (b ≡ true → g i ≡ h i) → flat_map g (select t (suc i) n) ≡ flat_map h (select t (suc i) n)
        → flat_map g (cond b (i ∷ select t (suc i) n) (select t (suc i) n)) ≡ flat_map h (cond b (i ∷ select t (suc i) n) (select t (suc i) n))
    go true q rest = ap₂ (λ (l m : List _). l ++ m) (q refl) rest
    go false q rest = rest

sieve-within : (t u : ℕ → ℕ → Bool) (x y : ℤ) (w h m n : ℕ) → ((i j : ℕ) → i < m → j < n → within x w (pos i) ≡ true → within y h (pos j) ≡ true → t i j ≡ u i j)
    → sieve t (side x w m) (side y h n) ≡ sieve u (side x w m) (side y h n)
unfolding sieve
sieve-within t u x y w h m n e =
    select_alike _ _ (λ j. within y h (pos j)) 0 n
    (λ j l q. select_alike _ _ (λ i. within x w (pos i)) 0 m (λ i k r. ap (λ (a : Bool). cond a (at (pos i) (pos j) ∷ []) []) (e i j (omega arith) (omega arith) r q)))

-- ---- a place of a box with a lifted corner
placed : (p i : ℕ) → p ≤ i + 2147483648 → pos i ≡ lowered p +ℤ pos (i + 2147483648 - p)
placed p i h = go (dec_lt p 2147483648)
  where
    go : Dec (p < 2147483648) → pos i ≡ lowered p +ℤ pos (i + 2147483648 - p)
    go (yes l) = rw (lowered-neg p l, le-ltb (i + 2147483648 - p) (suc (2147483647 - p)) (fits p i h l)) (ap pos (back p i h l))
      where
        fits : (p i : ℕ) → p ≤ i + 2147483648 → p < 2147483648 → suc (2147483647 - p) ≤ i + 2147483648 - p
        fits p i h l = omega arith

        back : (p i : ℕ) → p ≤ i + 2147483648 → p < 2147483648 → i ≡ i + 2147483648 - p - suc (2147483647 - p)
        back p i h l = omega arith
    go (no l) = rw (lowered_pos p (omega arith)) (ap pos (on p i h (omega arith)))
      where
        on : (p i : ℕ) → p ≤ i + 2147483648 → 2147483648 ≤ p → i ≡ p - 2147483648 + (i + 2147483648 - p)
        on p i h l = omega arith

record Place (p w i : ℕ) : Type 0 where
  from : p ≤ i + 2147483648
  below : i + 2147483648 - p < w

place : (p w i : ℕ) → within (lowered p) w (pos i) ≡ true → Place p w i
place p w i e =
    let k = both (leb p (2147483648 + i)) (ltb (2147483648 + i) (p + w)) (sym (within-lowered p w i) ∙ e) in
    let l : p ≤ 2147483648 + i = leb-true p (2147483648 + i) k.0 in
    let m : 2147483648 + i < p + w = ltb-true (2147483648 + i) (p + w) k.1 in
    record { from = omega arith; below = omega arith }

-- ---- pies and round fills
module _ (v : Canvas) (x y : ℤ) (w h p q : ℕ) (wide : v.width ≤ 32767) (high : v.height ≤ 32767) (s : Shaped x y w h) (a : lowered p ≡ x) (b : lowered q ≡ y) where
  in_box : (i k : ℕ) → i < k → k ≤ 32767 → i ≤ 32767
  in_box i k h l = omega arith

  abbrev plotted : (ℕ → ℕ → Bool) → List Point
  plotted t = sieve t (side (lowered p) w v.width) (side (lowered q) h v.height)

  at_x : (i : ℕ) → p ≤ i + 2147483648 → pos i ≡ x +ℤ pos (i + 2147483648 - p)
  at_x i k = placed p i k ∙ ap (λ (z : ℤ). z +ℤ pos (i + 2147483648 - p)) a

  at_y : (j : ℕ) → q ≤ j + 2147483648 → pos j ≡ y +ℤ pos (j + 2147483648 - q)
  at_y j k = placed q j k ∙ ap (λ (z : ℤ). z +ℤ pos (j + 2147483648 - q)) b

  -- a test that is the region's in the box
  the_region : (t u : ℕ → ℕ → Bool)
      → ((i j : ℕ) → i ≤ 32767 → j ≤ 32767 → i + 2147483648 - p < w → j + 2147483648 - q < h → pos i ≡ x +ℤ pos (i + 2147483648 - p) → pos j ≡ y +ℤ pos (j + 2147483648 - q) → t i j ≡ u i j)
      → sieve t (side x w v.width) (side y h v.height) ≡ plotted u
  the_region t u e =
      ap₂ (λ (z o : ℤ). sieve t (side z w v.width) (side o h v.height)) (sym a) (sym b)
      ∙ sieve-within t u (lowered p) (lowered q) w h v.width v.height
      (λ i j l m f g.
      let k = place p w i f in
      let o = place q h j g in
      e i j (in_box i v.width l wide) (in_box j v.height m high) k.below o.below (at_x i k.from) (at_y j o.from))

  pub pie_region : (start arc : ℤ) (k : Pie) → k ≡ pie_of x y w h start arc → (eqb w 0 || eqb h 0) ≡ false
      → pie v x y w h start arc ≡ plotted (region_at (pie_side w) (pie_side h) k p q)
  unfolding pie
  pie_region start arc k d n =
      rw (n, d)
      (the_region (in_pie x y w h start arc) (region_at (pie_side w) (pie_side h) (pie_of x y w h start arc) p q)
      (λ i j l m f g e o. pie-is x y w h start arc i j (i + 2147483648 - p) (j + 2147483648 - q) s.left s.top s.wide s.high l m f g e o))

  pub round_region : (aw ah : ℕ) → ((eqb w 0 || eqb h 0) || (eqb aw 0 || eqb ah 0)) ≡ false
      → round_fill v x y w h aw ah ≡ plotted (region_at (round_side aw w) (round_side ah h) all_round p q)
  unfolding round_fill
  round_region aw ah c =
      let n = neither (eqb w 0 || eqb h 0) (eqb aw 0 || eqb ah 0) c in
      rw (n.0, n.1)
      (the_region (in_round x y w h aw ah) (region_at (round_side aw w) (round_side ah h) all_round p q)
      (λ i j l m f g e o.
      round_is x y w h aw ah i j (i + 2147483648 - p) (j + 2147483648 - q) s.left s.top s.wide s.high l m f g e o
      ∙ sym (ap (λ (t : Bool). has_at (round_side aw w) (part_on (round_side ah h) (j + 2147483648 - q)) (i + 2147483648 - p) && t) (all_covers i j) ∙ and_true _)))
    where
      and_true : (t : Bool) → (t && true) ≡ t
      and_true true = refl
      and_true false = refl

-- ---- the sides that code works out
module _ (v : Canvas) (k : Pie) (p q : ℕ) where
  abbrev plots : Side → Side → ℕ → ℕ → List Point
  plots sx sy w h = sieve (region_at sx sy k p q) (side (lowered p) w v.width) (side (lowered q) h v.height)

  same : (sx sy s t : Side) (w h : ℕ) → sx ≡ s → sy ≡ t → s.count ≡ w → t.count ≡ h → plots s t w h ≡ plots sx sy sx.count sy.count
  same sx sy s t w h e f g k =
      sym (ap₂ (λ (a b : Side). plots a b a.count b.count) e f ∙ ap₂ (λ (a b : ℕ). plots s t a b) g k)

  pub pie-same : (sx sy : Side) (w h : ℕ) → sx ≡ pie_side w → sy ≡ pie_side h → plots (pie_side w) (pie_side h) w h ≡ plots sx sy sx.count sy.count
  pie-same sx sy w h e f = same sx sy (pie_side w) (pie_side h) w h e f (count w) (count h)
    where
      count : (n : ℕ) → (pie_side n).count ≡ n
      count n = unfold pie_side in refl

  pub round_same : (sx sy : Side) (w h aw ah : ℕ) → sx ≡ round_side aw w → sy ≡ round_side ah h → k ≡ all_round
      → sieve (region_at (round_side aw w) (round_side ah h) all_round p q) (side (lowered p) w v.width) (side (lowered q) h v.height) ≡ plots sx sy sx.count sy.count
  round_same sx sy w h aw ah e f g =
      ap (λ (l : Pie). sieve (region_at (round_side aw w) (round_side ah h) l p q) (side (lowered p) w v.width) (side (lowered q) h v.height)) (sym g)
      ∙ same sx sy (round_side aw w) (round_side ah h) w h e f (count aw w) (count ah h)
    where
      count : (a n : ℕ) → (round_side a n).count ≡ n
      count a n = unfold round_side in refl

pub pie_side_of : (s : Side) (n : ℕ) → s ≡ pie_side n → 1 ≤ n → n ≤ 32767 → Sided s
pie_side_of s n e h k = subst Sided (sym e) (pie_sided n h k)

pub round_side_of : (s : Side) (arc n : ℕ) → s ≡ round_side arc n → 1 ≤ n → n ≤ 32767 → Sided s
round_side_of s arc n e h k = subst Sided (sym e) (round_sided arc n h k)
