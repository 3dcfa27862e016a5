-- A round fill takes what lies near its middle: the offset from the nearest corner's centre is the one from the middle, less what is
-- straight. That holds where the centres cross as well, at an arc size of the side or more. Assumes nothing.
use Rattle.std.proofs.Common.{◌≡◌, ℕ, zero, suc, ◌+◌, ◌-◌, ◌*◌, ◌^◌, ◌<◌, ◌≤◌, min, max, Bool, true, false, cond, ltb, ℤ, pos, negsuc, ◌+ℤ◌, ◌-ℤ◌, neg_ℤ, nat_abs, sym, refl, ap, ◌∙◌, subst, lt_of_mul-lt-mul_right, mul-lt-mul_of_pos_right, mul-pos, arith, lit<, le-ltb, lt-ltb}
use native.Mathlib.Decide.{dec_lt}
use lib.IntN.{sub_ℕ, neg_ℤ-neg_ℤ, neg_ℤ-+ℤ, +ℤ_assoc, +ℤ_comm, +ℤ_invr}
use lib.Ieee.{Float, nan, inf, fin, binary32, up, down, round, add, sub, div, of_int, lt, le, below}
use lib.Ieee.Fits.{down_pos}
use lib.Ieee.Exact.{HasValue}
use Rattle.floats.specs.Size.{one, max_of}
use Rattle.angle.specs.Meaning.{signed}
use Rattle.angle.proofs.Signs.{opposite, plus, less, short}
use Rattle.curves.specs.Oval.{half, two}
use Rattle.curves.specs.Corners.{radius_of, nearest_centre, in_round}
use Rattle.curves.specs.Bulges.{reach, part_on, has_at, round_side, Sided}
use Rattle.curves.proofs.Offsets.{Half, add_half, sub-half, int_half, half_of, regroup, cancel}
use Rattle.curves.proofs.Rising.{square, part-is}
use Rattle.curves.proofs.Disc.{at_least, distance, Off, off_of, on_is}

-- ---- the order of two numbers of halves is that of their counts
ltb_same : (a b c d : ℕ) → (a < b → c < d) → (c < d → a < b) → ltb a b ≡ ltb c d
ltb_same a b c d f g = go (dec_lt a b)
  where
    go : Dec (a < b) → ltb a b ≡ ltb c d
    go (yes l) = lt-ltb a b l ∙ sym (lt-ltb c d (f l))
    go (no l) = le-ltb a b (omega arith) ∙ sym (le-ltb c d (not_less (dec_lt c d)))
      where
        not_less : Dec (c < d) → d ≤ c
        not_less (yes k) = absurd (l (g k))
        not_less (no k) = omega arith

scaled : (A B a b C : ℕ) → 0 < C → A * 2 ≡ a * C → B * 2 ≡ b * C → ltb A B ≡ ltb a b
scaled A B a b C p e f = ltb_same A B a b (λ l. lt_of_mul-lt-mul_right C (there l)) (λ l. back (mul-lt-mul_of_pos_right l p))
  where
    there : A < B → a * C < b * C
    there l = omega arith

    back : a * C < b * C → A < B
    back l = omega arith

below-same : (s t : Bool) (A B a b C : ℕ) → 0 < C → A * 2 ≡ a * C → B * 2 ≡ b * C → below s A t B ≡ below s a t b
below-same false false A B a b C p e f = scaled A B a b C p e f
below-same false true A B a b C p e f = refl
below-same true false A B a b C p e f = scaled 0 (A + B) 0 (a + b) C p (none C) (omega arith)
  where
    none : (c : ℕ) → 0 * 2 ≡ 0 * c
    none c = omega arith
below-same true true A B a b C p e f = scaled B A b a C p f e

abbrev minus : ℤ → Bool
minus (pos n) = false
minus (negsuc n) = true

minus-signed : (n : ℕ) → minus (signed true n) ≡ ltb 0 n
minus-signed zero = sym (le-ltb 0 0 (omega arith))
minus-signed (suc n) = sym (lt-ltb 0 (suc n) (omega arith))

below-minus : (s t : Bool) (a b : ℕ) → below s a t b ≡ minus (signed s a -ℤ signed t b)
below-minus false false a b = go (dec_lt a b)
  where
    go : Dec (a < b) → ltb a b ≡ minus (pos a -ℤ pos b)
    go (yes l) = lt-ltb a b l ∙ sym (ap minus (short false a b (b - a) (omega arith)) ∙ minus-signed (b - a) ∙ lt-ltb 0 (b - a) (omega arith))
    go (no l) = le-ltb a b (omega arith) ∙ sym (ap minus (less false a b (a - b) (omega arith)))
below-minus true true a b = go (dec_lt b a)
  where
    go : Dec (b < a) → ltb b a ≡ minus (signed true a -ℤ signed true b)
    go (yes l) = lt-ltb b a l ∙ sym (ap minus (less true a b (a - b) (omega arith)) ∙ minus-signed (a - b) ∙ lt-ltb 0 (a - b) (omega arith))
    go (no l) = le-ltb b a (omega arith) ∙ sym (ap minus (short true a b (b - a) (omega arith)))
below-minus false true a b = sym (ap (λ (z : ℤ). minus (pos a +ℤ z)) (opposite true b))
below-minus true false a b = sym (ap minus (plus true a b) ∙ minus-signed (a + b))

lt-half : (x y : Float) (z w : ℤ) (K L : ℕ) → Half x z K → Half y w L → lt x y ≡ minus (z -ℤ w)
lt-half nan y z w K L p q = absurd p.value
lt-half (inf s) y z w K L p q = absurd p.value
lt-half (fin s m e) nan z w K L p q = absurd q.value
lt-half (fin s m e) (inf t) z w K L p q = absurd q.value
lt-half (fin s m e) (fin t n d) z w K L p q =
    opened
    ∙ below-same s t (m * up e * down d) (n * up d * down e) p.count q.count (down e * down d) (mul-pos (down_pos e) (down_pos d))
    (left (m * up e) (down e) (down d) p.count p.value.1) (right (n * up d) (down d) (down e) q.count q.value.1)
    ∙ below-minus s t p.count q.count
    ∙ ap (λ (b : Bool). minus (signed b p.count -ℤ signed t q.count)) p.value.0
    ∙ ap (λ (b : Bool). minus (signed p.sign p.count -ℤ signed b q.count)) q.value.0
    ∙ ap (λ (k : ℤ). minus (k -ℤ signed q.sign q.count)) p.is
    ∙ ap (λ (k : ℤ). minus (z -ℤ k)) q.is
  where
    opened : lt (fin s m e) (fin t n d) ≡ below s (m * up e * down d) t (n * up d * down e)
    opened = unfold lt in refl

    left : (a d f k : ℕ) → a * 2 ≡ k * d → a * f * 2 ≡ k * (d * f)
    left a d f k h = omega (arith, ap (λ (z : ℕ). z * f) h)

    right : (a f d k : ℕ) → a * 2 ≡ k * f → a * d * 2 ≡ k * (d * f)
    right a f d k h = omega (arith, ap (λ (z : ℕ). z * d) h)

-- ---- whole numbers
turned : (x y : ℤ) → nat_abs (x -ℤ y) ≡ nat_abs (y -ℤ x)
turned x y = ap nat_abs (sym (neg_ℤ-+ℤ y (neg_ℤ x) ∙ ap (λ (k : ℤ). neg_ℤ y +ℤ k) (neg_ℤ-neg_ℤ x) ∙ +ℤ_comm (neg_ℤ y) x)) ∙ same (y -ℤ x)
  where
    same : (z : ℤ) → nat_abs (neg_ℤ z) ≡ nat_abs z
    same (pos zero) = refl
    same (pos (suc n)) = refl
    same (negsuc n) = refl

-- (M + X) - K - (I + X) is M - (K + I)
less_both : (M X K I : ℤ) → ((M +ℤ X) -ℤ K) -ℤ (I +ℤ X) ≡ M -ℤ (K +ℤ I)
less_both M X K I =
    ap (λ (z : ℤ). z -ℤ (I +ℤ X)) (+ℤ_assoc M X (neg_ℤ K) ∙ ap (λ (z : ℤ). M +ℤ z) (+ℤ_comm X (neg_ℤ K)) ∙ sym (+ℤ_assoc M (neg_ℤ K) X))
    ∙ ap (λ (z : ℤ). ((M +ℤ neg_ℤ K) +ℤ X) -ℤ z) (+ℤ_comm I X)
    ∙ cancel X (M +ℤ neg_ℤ K) I
    ∙ +ℤ_assoc M (neg_ℤ K) (neg_ℤ I)
    ∙ ap (λ (z : ℤ). M +ℤ z) (sym (neg_ℤ-+ℤ K I))

reaches : (x : ℤ) (m : ℕ) → nat_abs x ≤ 32768 → m ≤ 32767 → nat_abs (x +ℤ pos m) ≤ 65535
reaches (pos a) m h k = omega arith
reaches (negsuc a) m h k = go (dec_lt m (suc a))
  where
    go : Dec (m < suc a) → nat_abs (sub_ℕ m (suc a)) ≤ 65535
    go (yes l) = rw (lt-ltb m (suc a) l) (omega arith)
    go (no l) = rw (le-ltb m (suc a) (omega arith)) (omega arith)

-- ---- the offset from the nearest centre
-- of the i-th place up to m: left of the first centre, right of the last one, and between them
module _ (m k i : ℕ) (h : k ≤ m + 1) (l : i ≤ m) where
  at_left : i + i < k → (i + i - k) + (k - (i + i)) ≡ (2 * i - m) + (m - 2 * i) + k - m
  at_left f = omega arith

  at_right : k ≤ i + i → m + m < k + (i + i) → (m + m - (k + (i + i))) + (k + (i + i) - (m + m)) ≡ (2 * i - m) + (m - 2 * i) + k - m
  at_right f g = omega arith

  at_middle : k ≤ i + i → k + (i + i) ≤ m + m → 0 ≡ (2 * i - m) + (m - 2 * i) + k - m
  at_middle f g = omega arith

module _ (p x : ℤ) (m k i : ℕ) (r : Float) (a : nat_abs p ≤ 32767) (b : nat_abs x ≤ 32768) (c : m ≤ 32766) (h : k ≤ m + 1) (l : i ≤ m) (e : p ≡ x +ℤ pos i) (v : HasValue r false k 2) where
  abbrev px : Float
  px = of_int binary32 p

  abbrev first : Float
  first = add binary32 (of_int binary32 x) r

  abbrev last : Float
  last = sub binary32 (of_int binary32 (x +ℤ pos m)) r

  at_px : Half px (p +ℤ p) 65534
  at_px = int_half p 65534 (omega arith) (lit< tt)

  radius : Half r (pos k) 32767
  radius = record { sign = false; count = k; value = v; is = refl; few = omega arith }

  at_first : Half first ((x +ℤ x) +ℤ pos k) (65536 + 32767)
  at_first = add_half 65536 32767 (lit< tt) (of_int binary32 x) r (x +ℤ x) (pos k) (int_half x 65536 (omega arith) (lit< tt)) radius

  at_last : Half last (((x +ℤ pos m) +ℤ (x +ℤ pos m)) -ℤ pos k) (131070 + 32767)
  at_last =
      sub-half 131070 32767 (lit< tt) (of_int binary32 (x +ℤ pos m)) r ((x +ℤ pos m) +ℤ (x +ℤ pos m)) (pos k)
      (int_half (x +ℤ pos m) 131070 (omega (arith, reaches x m b (omega arith))) (lit< tt)) radius

  from_first : (p +ℤ p) -ℤ ((x +ℤ x) +ℤ pos k) ≡ pos (i + i) -ℤ pos k
  from_first = ap (λ (z : ℤ). (z +ℤ z) -ℤ ((x +ℤ x) +ℤ pos k)) e ∙ ap (λ (z : ℤ). z -ℤ ((x +ℤ x) +ℤ pos k)) (regroup x (pos i)) ∙ cancel (x +ℤ x) (pos (i + i)) (pos k)

  to_last : (((x +ℤ pos m) +ℤ (x +ℤ pos m)) -ℤ pos k) -ℤ (p +ℤ p) ≡ pos (m + m) -ℤ pos (k + (i + i))
  to_last =
      ap (λ (z : ℤ). (((x +ℤ pos m) +ℤ (x +ℤ pos m)) -ℤ pos k) -ℤ (z +ℤ z)) e
      ∙ ap (λ (z : ℤ). (z -ℤ pos k) -ℤ ((x +ℤ pos i) +ℤ (x +ℤ pos i))) (regroup x (pos m))
      ∙ ap (λ (z : ℤ). ((pos (m + m) +ℤ (x +ℤ x)) -ℤ pos k) -ℤ z) (regroup x (pos i))
      ∙ less_both (pos (m + m)) (x +ℤ x) (pos k) (pos (i + i))

  before : lt px first ≡ ltb (i + i) k
  before = lt-half px first (p +ℤ p) ((x +ℤ x) +ℤ pos k) 65534 (65536 + 32767) at_px at_first ∙ ap minus from_first ∙ sym (below-minus false false (i + i) k)

  after : lt last px ≡ ltb (m + m) (k + (i + i))
  after = lt-half last px (((x +ℤ pos m) +ℤ (x +ℤ pos m)) -ℤ pos k) (p +ℤ p) (131070 + 32767) 65534 at_last at_px ∙ ap minus to_last ∙ sym (below-minus false false (m + m) (k + (i + i)))

  abbrev away : ℕ
  away = (2 * i - m) + (m - 2 * i) + k - m

  pub nearest_off : Off (sub binary32 px (nearest_centre px first last)) away
  nearest_off = subst (λ (z : Float). Off (sub binary32 px z) away) (sym opened) (go (dec_lt (i + i) k))
    where
      opened : nearest_centre px first last ≡ cond (ltb (i + i) k) first (cond (ltb (m + m) (k + (i + i))) last px)
      opened =
          let o : nearest_centre px first last ≡ cond (lt px first) first (cond (lt last px) last px) = unfold nearest_centre in refl in
          o ∙ ap (λ (t : Bool). cond t first (cond (lt last px) last px)) before ∙ ap (λ (t : Bool). cond (ltb (i + i) k) first (cond t last px)) after

      right : k ≤ i + i → Dec (m + m < k + (i + i)) → Off (sub binary32 px (cond (ltb (m + m) (k + (i + i))) last px)) away
      right f (yes g) =
          subst (λ (t : Bool). Off (sub binary32 px (cond t last px)) away) (sym (lt-ltb (m + m) (k + (i + i)) g))
          (off_of (sub binary32 px last) ((p +ℤ p) -ℤ (((x +ℤ pos m) +ℤ (x +ℤ pos m)) -ℤ pos k)) (65534 + (131070 + 32767)) away
          (sub-half 65534 (131070 + 32767) (lit< tt) px last (p +ℤ p) (((x +ℤ pos m) +ℤ (x +ℤ pos m)) -ℤ pos k) at_px at_last)
          (turned (p +ℤ p) (((x +ℤ pos m) +ℤ (x +ℤ pos m)) -ℤ pos k) ∙ ap nat_abs to_last ∙ distance (m + m) (k + (i + i)) ∙ at_right m k i h l f g))
      right f (no g) =
          subst (λ (t : Bool). Off (sub binary32 px (cond t last px)) away) (sym (le-ltb (m + m) (k + (i + i)) (omega arith)))
          (off_of (sub binary32 px px) ((p +ℤ p) -ℤ (p +ℤ p)) (65534 + 65534) away (sub-half 65534 65534 (lit< tt) px px (p +ℤ p) (p +ℤ p) at_px at_px)
          (ap nat_abs (+ℤ_invr (p +ℤ p)) ∙ at_middle m k i h l f (omega arith)))

      go : Dec (i + i < k) → Off (sub binary32 px (cond (ltb (i + i) k) first (cond (ltb (m + m) (k + (i + i))) last px))) away
      go (yes f) =
          subst (λ (t : Bool). Off (sub binary32 px (cond t first (cond (ltb (m + m) (k + (i + i))) last px))) away) (sym (lt-ltb (i + i) k f))
          (off_of (sub binary32 px first) ((p +ℤ p) -ℤ ((x +ℤ x) +ℤ pos k)) (65534 + (65536 + 32767)) away
          (sub-half 65534 (65536 + 32767) (lit< tt) px first (p +ℤ p) ((x +ℤ x) +ℤ pos k) at_px at_first)
          (ap nat_abs from_first ∙ distance (i + i) k ∙ at_left m k i h l f))
      go (no f) =
          subst (λ (t : Bool). Off (sub binary32 px (cond t first (cond (ltb (m + m) (k + (i + i))) last px))) away) (sym (le-ltb (i + i) k (omega arith)))
          (right (omega arith) (dec_lt (m + m) (k + (i + i))))

-- ---- a side with arcs
pub round_sided : (arc n : ℕ) → 0 < n → n ≤ 32767 → Sided (round_side arc n)
unfolding round_side
round_sided arc n h k = record { some = h; few = k; bent = omega arith; divides = omega arith; small = omega arith }

pub radius_value : (arc n : ℕ) → n ≤ 32767 → HasValue (radius_of arc n) false (max (min arc n) 1) 2
radius_value arc n h =
    let k = min arc n in
    let e : radius_of arc n ≡ max_of (div binary32 (of_int binary32 (pos k)) two) half = unfold radius_of in refl in
    subst (λ (z : Float). HasValue z false (max k 1) 2) (sym e)
    (at_least (div binary32 (of_int binary32 (pos k)) two) k k (half_of (of_int binary32 (pos k)) k 65534 (int_half (pos k) 65534 (few arc n h) (lit< tt)) (less_than arc n h)))
  where
    few : (arc n : ℕ) → n ≤ 32767 → 2 * min arc n ≤ 65534
    few arc n h = omega arith

    less_than : (arc n : ℕ) → n ≤ 32767 → min arc n < 2 ^ 24
    less_than arc n h = omega arith

-- the offset from the nearest centre, over the radius, squared
unfoldable part_of : Float → Float → Float → Float → Float
part_of p low high r = square (div binary32 (sub binary32 p (nearest_centre p low high)) r)

part_of_lem : (p x : ℤ) (w arc i : ℕ) → nat_abs p ≤ 32767 → nat_abs x ≤ 32768 → w ≤ 32767 → i < w → p ≡ x +ℤ pos i
    → part_of (of_int binary32 p) (add binary32 (of_int binary32 x) (radius_of arc w)) (sub binary32 (of_int binary32 (x +ℤ pos (w - 1))) (radius_of arc w)) (radius_of arc w) ≡ part_on
    (round_side arc w) i
part_of_lem p x w arc i a b h l e =
    let r = radius_of arc w in
    let k = max (min arc w) 1 in
    let px = of_int binary32 p in
    let c = nearest_centre px (add binary32 (of_int binary32 x) r) (sub binary32 (of_int binary32 (x +ℤ pos (w - 1))) r) in
    let v = radius_value arc w h in
    let o : part_of px (add binary32 (of_int binary32 x) r) (sub binary32 (of_int binary32 (x +ℤ pos (w - 1))) r) r ≡ square (div binary32 (sub binary32 px c) r) = unfold part_of in refl in
    let q = nearest_off p x (w - 1) k i r a b (omega arith) (bent arc w (omega arith)) (omega arith) e v in
    o ∙ part-is (sub binary32 px c) r q.sign (reach w k i) k (some arc w) q.value v ∙ sym (on w l (round_sided arc w (omega arith) h))
  where
    bent : (arc w : ℕ) → 0 < w → max (min arc w) 1 ≤ w - 1 + 1
    bent arc w h = omega arith

    some : (arc w : ℕ) → 0 < max (min arc w) 1
    some arc w = omega arith

    on : (w : ℕ) → i < w → Sided (round_side arc w) → part_on (round_side arc w) i ≡ square (round binary32 false (reach w (max (min arc w) 1) i) (max (min arc w) 1))
    on w l g = unfold round_side in on_is (record { count = w; arc = max (min arc w) 1; by = max (min arc w) 1 }) g i l

pub round_is : (x y : ℤ) (w h aw ah p q i j : ℕ) → nat_abs x ≤ 32768 → nat_abs y ≤ 32768 → w ≤ 32767 → h ≤ 32767 → p ≤ 32767 → q ≤ 32767 → i < w → j < h → pos p ≡ x +ℤ pos i
    → pos q ≡ y +ℤ pos j
    → in_round x y w h aw ah p q ≡ has_at (round_side aw w) (part_on (round_side ah h) j) i
round_is x y w h aw ah p q i j a b c d f g k l e o =
    let rx = radius_of aw w in
    let ry = radius_of ah h in
    let u = part_of (of_int binary32 (pos p)) (add binary32 (of_int binary32 x) rx) (sub binary32 (of_int binary32 (x +ℤ pos (w - 1))) rx) rx in
    let v = part_of (of_int binary32 (pos q)) (add binary32 (of_int binary32 y) ry) (sub binary32 (of_int binary32 (y +ℤ pos (h - 1))) ry) ry in
    let begins : in_round x y w h aw ah p q ≡ le (add binary32 u v) one = unfold in_round part_of square in refl in
    let ends : le (add binary32 (part_on (round_side aw w) i) (part_on (round_side ah h) j)) one ≡ has_at (round_side aw w) (part_on (round_side ah h) j) i = unfold has_at in refl in
    begins
    ∙ ap (λ (t : Float). le (add binary32 t v) one) (part_of_lem (pos p) x w aw i f a c k e)
    ∙ ap (λ (t : Float). le (add binary32 (part_on (round_side aw w) i) t) one) (part_of_lem (pos q) y h ah j g b d l o)
    ∙ ends
