-- A pie's ellipse takes what lies near its middle: its test is one of distances from there, and the same wherever the box lies.
-- Assumes nothing.
use Rattle.std.proofs.Common.{◌≡◌, ℕ, zero, suc, ◌+◌, ◌-◌, ◌*◌, ◌^◌, ◌<◌, ◌≤◌, max, Bool, true, false, cond, ◌&&◌, ◌||◌, T, eqb, ltb, ℤ, pos, ◌+ℤ◌, ◌-ℤ◌, nat_abs, sym, refl, ap, ◌∙◌, subst, arith, lit<, eqb→eq, le-ltb, lt-ltb}
use mathlib.Core.Bool.{beq}
use native.Mathlib.Decide.{dec_lt}
use lib.IntN.{pos-ne-negsuc}
use lib.Ieee.{Float, nan, inf, fin, binary32, up, down, round, add, div, of_int, lt, eq, le, is_nan}
use lib.Ieee.Fits.{down_pos}
use lib.Ieee.Exact.{HasValue}
use lib.Ieee.Scale.{round_same}
use Rattle.floats.specs.Size.{one, max_of}
use Rattle.angle.specs.Meaning.{signed}
use Rattle.angle.proofs.Signs.{size, less, short}
use Rattle.curves.specs.Oval.{half, half_axis, offset}
use Rattle.curves.specs.Pies.{sweep_of, in_sweep, in_pie, pie_of, covers}
use Rattle.curves.specs.declared.bulges.Side.{Side}
use Rattle.curves.specs.Bulges.{far, reach, part_at, part_on, has_at, pie_side, Sided, Rising}
use Rattle.curves.proofs.Offsets.{Half, halved, axis_half, offset-half}
use Rattle.curves.proofs.Parts.{covers-is}
use Rattle.curves.proofs.Rising.{plain, at_most, square, part-is, part-plain, part_mono, add-plain, add_mono, le_chain}

pub is_true : (b : Bool) → T b → b ≡ true
is_true true t = refl
is_true false t = absurd t

pub holds : (b : Bool) → b ≡ true → T b
holds true e = tt
holds false e = let z : ◌≡◌ {A = ℕ} 0 1 = cc in absurd (omega arith)

-- ---- the part of k halves over d halves
pub at-is : (k d : ℕ) → 0 < d → k < 2 ^ 23 → d < 2 ^ 23 → part_at k d ≡ square (round binary32 false k d)
at-is k d D h g =
    let e : part_at k d ≡ square (div binary32 (of_int binary32 (pos k)) (of_int binary32 (pos d))) = unfold part_at square in refl in
    e ∙ part-is (of_int binary32 (pos k)) (of_int binary32 (pos d)) false (k + k) (d + d) (omega arith) (whole k h) (whole d g)
    ∙ ap square (round_same binary32 false (k + k) (d + d) k d (omega arith) D (twice k d))
  where
    whole : (n : ℕ) → n < 2 ^ 23 → HasValue (of_int binary32 (pos n)) false (n + n) 2
    whole n h = unfold of_int in halved false n 1 (n + n) (lit< tt) (omega arith) (omega arith)

    twice : (k d : ℕ) → (k + k) * d ≡ k * (d + d)
    twice k d = omega arith

module _ (s : Side) (p : Sided s) where
  under : (a b : ℕ) → a ≤ 32767 → b ≤ 32767 → (m i : ℕ) → m ≤ 32767 → i ≤ 32767 → (2 * i - m) + (m - 2 * i) + a - m < 2 ^ 23
  under a b h k m i l n = omega arith

  pub on_is : (i : ℕ) → i < s.count → part_on s i ≡ square (round binary32 false (reach s.count s.arc i) s.by)
  on_is i l =
      let e : part_on s i ≡ part_at (reach s.count s.arc i) s.by = unfold part_on in refl in
      e ∙ at-is (reach s.count s.arc i) s.by p.divides (under s.arc s.by (omega (arith, p.bent, p.few)) p.small (s.count - 1) i (omega (arith, p.few))
      (omega (arith, p.few))) (omega (arith, p.small))

  pub on_plain : (i : ℕ) → i < s.count → T (plain (part_on s i))
  on_plain i l = subst (λ (z : Float). T (plain z)) (sym (on_is i l)) (part-plain (reach s.count s.arc i) s.by)

  -- the part grows with the distance from the middle
  pub on_mono : (i k : ℕ) → i < s.count → k < s.count → far s.count i ≤ far s.count k → T (le (part_on s i) (part_on s k))
  on_mono i k h g l =
      subst (λ (z : Float). T (le z (part_on s k))) (sym (on_is i h))
      (subst (λ (z : Float). T (le (square (round binary32 false (reach s.count s.arc i) s.by)) z)) (sym (on_is k g))
      (part_mono (reach s.count s.arc i) (reach s.count s.arc k) s.by p.divides (shifted (far s.count i) (far s.count k) s.arc (s.count - 1) l)))
    where
      shifted : (a b c m : ℕ) → a ≤ b → a + c - m ≤ b + c - m
      shifted a b c m h = omega arith

  -- so that each row takes what is near its middle
  pub rising : (row : Float) → T (plain row) → Rising (has_at s row) s.count
  rising row q = record { nearer = nearer }
    where
      nearer : (i k : ℕ) → i < s.count → k < s.count → far s.count k ≤ far s.count i → has_at s row i ≡ true → has_at s row k ≡ true
      nearer i k h g l e =
          has_is k
          ∙ is_true (le (add binary32 (part_on s k) row) one)
          (le_chain (add binary32 (part_on s k) row) (add binary32 (part_on s i) row) one (add-plain (part_on s k) row (on_plain k g) q) (add-plain (part_on s i) row (on_plain i h) q) tt
          (add_mono (part_on s k) (part_on s i) row (on_plain k g) (on_plain i h) q (on_mono k i g h l)) (holds (le (add binary32 (part_on s i) row) one) (sym (has_is i) ∙ e)))
        where
          has_is : (i : ℕ) → has_at s row i ≡ le (add binary32 (part_on s i) row) one
          has_is i = unfold has_at in refl

-- ---- a half axis, and a radius: n halves, or one
pub at_least : (x : Float) (n K : ℕ) → Half x (pos n) K → HasValue (max_of x half) false (max n 1) 2
unfolding max_of lt is_nan
at_least nan n K p = absurd p.value
at_least (inf s) n K p = absurd p.value
at_least (fin true m e) n K p = go p.sign p.count p.value.0 p.is
  where
    more : (a d : ℕ) → 0 < d → 0 < a + 1 * 1 * d
    more a d h = omega arith

    nothing : 0 ≡ n → (◌≡◌ {A = ℕ} 1 (max n 1))
    nothing z = omega arith

    first : (b : Bool) → b ≡ true → ◌≡◌ {A = ℕ} 1 (max n 1) → HasValue (cond (b || false) half (fin true m e)) false (max n 1) 2
    first true f z = (refl, ap (λ (k : ℕ). k * 2) z)
    first false f z = let w : ◌≡◌ {A = ℕ} 0 1 = cc in absurd (omega arith)

    go : (s : Bool) (c : ℕ) → true ≡ s → signed s c ≡ pos n → HasValue (cond (ltb 0 (m * up e * 2 + 1 * 1 * down e) || false) half (fin true m e)) false (max n 1) 2
    go false c f g = let w : ◌≡◌ {A = ℕ} 0 1 = cc in absurd (omega arith)
    go true zero f g = first (ltb 0 (m * up e * 2 + 1 * 1 * down e)) (lt-ltb 0 (m * up e * 2 + 1 * 1 * down e) (more (m * up e * 2) (down e) (down_pos e))) (nothing (ap nat_abs g))
    go true (suc c) f g = absurd (pos-ne-negsuc n c (sym g))
at_least (fin false m e) n K p = go (dec_lt 0 n)
  where
    count : p.count ≡ n
    count = sym (size p.sign p.count) ∙ ap nat_abs p.is

    value : m * up e * 2 ≡ n * down e
    value = p.value.1 ∙ ap (λ (k : ℕ). k * down e) count

    small : (a d : ℕ) → 0 < d → a ≡ 0 * d → a < 1 * 1 * d
    small a d h f = omega arith

    large : (a n d : ℕ) → 0 < n → a ≡ n * d → 1 * 1 * d ≤ a
    large a zero d h f = elim h [ ]
    large a (suc n) d h f = omega arith

    pick : (b c : Bool) → b ≡ c → HasValue (cond (c || false) half (fin false m e)) false (max n 1) 2 → HasValue (cond (b || false) half (fin false m e)) false (max n 1) 2
    pick b c f v = subst (λ (z : Bool). HasValue (cond (z || false) half (fin false m e)) false (max n 1) 2) (sym f) v

    go : Dec (0 < n) → HasValue (cond (ltb (m * up e * 2) (1 * 1 * down e) || false) half (fin false m e)) false (max n 1) 2
    go (yes l) =
        pick (ltb (m * up e * 2) (1 * 1 * down e)) false (le-ltb (m * up e * 2) (1 * 1 * down e) (large (m * up e * 2) n (down e) l value))
        (refl, value ∙ ap (λ (k : ℕ). k * down e) (same n l))
      where
        same : (n : ℕ) → 0 < n → n ≡ max n 1
        same n h = omega arith
    go (no l) =
        pick (ltb (m * up e * 2) (1 * 1 * down e)) true (lt-ltb (m * up e * 2) (1 * 1 * down e) (small (m * up e * 2) (down e) (down_pos e) (value ∙ ap (λ (k : ℕ). k * down e) (none n l))))
        (refl, ap (λ (k : ℕ). k * 2) (one_of n l))
      where
        none : (n : ℕ) → ((0 < n) → ⊥) → n ≡ 0
        none n h = omega arith

        one_of : (n : ℕ) → ((0 < n) → ⊥) → ◌≡◌ {A = ℕ} 1 (max n 1)
        one_of n h = omega arith

-- ---- the distance of two numbers
pub distance : (a b : ℕ) → nat_abs (pos a -ℤ pos b) ≡ (a - b) + (b - a)
distance a b = go (dec_lt a b)
  where
    right : (a b : ℕ) → a < b → b - a ≡ (a - b) + (b - a)
    right a b l = omega arith

    left : (a b : ℕ) → b ≤ a → a - b ≡ (a - b) + (b - a)
    left a b l = omega arith

    go : Dec (a < b) → nat_abs (pos a -ℤ pos b) ≡ (a - b) + (b - a)
    go (yes l) = ap nat_abs (short false a b (b - a) (omega arith)) ∙ size true (b - a) ∙ right a b l
    go (no l) = ap nat_abs (less false a b (a - b) (omega arith)) ∙ left a b (omega arith)

-- k halves, of either sign
pub record Off (x : Float) (k : ℕ) : Type 0 where
  pub sign : Bool
  pub value : HasValue x sign k 2

pub off_of : (x : Float) (z : ℤ) (K k : ℕ) → Half x z K → nat_abs z ≡ k → Off x k
off_of x z K k p e = record { sign = p.sign; value = subst (λ (n : ℕ). HasValue x p.sign n 2) (sym (size p.sign p.count) ∙ ap nat_abs p.is ∙ e) p.value }

-- ---- a pie
pub pie_sided : (n : ℕ) → 0 < n → n ≤ 32767 → Sided (pie_side n)
unfolding pie_side
pie_sided n h k = record { some = h; few = k; bent = omega arith; divides = omega arith; small = omega arith }

part_of_lem : (p x : ℤ) (w i : ℕ) → nat_abs p ≤ 32767 → nat_abs x ≤ 32768 → w ≤ 32767 → i < w → p ≡ x +ℤ pos i
    → square (div binary32 (offset p x w) (max_of (half_axis w) half)) ≡ part_on (pie_side w) i
part_of_lem p x w i a b h l e =
    let q = off_of (offset p x w) (pos (i + i) -ℤ pos (w - 1)) 163836 (far w i) (offset-half p x w i a b h l e)
    (distance (i + i) (w - 1) ∙ ap (λ (k : ℕ). (k - (w - 1)) + (w - 1 - k)) (twice i)) in
    part-is (offset p x w) (max_of (half_axis w) half) q.sign (far w i) (max (w - 1) 1) (positive (w - 1)) q.value (at_least (half_axis w) (w - 1) (w - 1) (axis_half w (omega arith) h))
    ∙ sym (on w l (pie_sided w (omega arith) h))
  where
    twice : (i : ℕ) → i + i ≡ 2 * i
    twice i = omega arith

    positive : (n : ℕ) → 0 < max n 1
    positive n = omega arith

    back : (a m : ℕ) → a + m - m ≡ a
    back a m = omega arith

    on : (w : ℕ) → i < w → Sided (pie_side w) → part_on (pie_side w) i ≡ square (round binary32 false (far w i) (max (w - 1) 1))
    on w l g =
        unfold pie_side in (on_is (record { count = w; arc = w - 1; by = max (w - 1) 1 }) g i l ∙ ap (λ (k : ℕ). square (round binary32 false k (max (w - 1) 1))) (back (far w i) (w - 1)))

turned : (z : Float) → T (plain z) → cond (lt one z) false true ≡ le z one
unfolding lt le eq
turned nan p = absurd p
turned (inf true) p = absurd p
turned (inf false) p = refl
turned (fin true m e) p = absurd p
turned (fin false m e) p = go (m * up e * 1) (1 * 1 * down e)
  where
    go : (a b : ℕ) → cond (ltb b a) false true ≡ ltb a b || (eqb a b && (beq false false || eqb a 0))
    go a b = by (dec_lt b a)
      where
        apart : (b < a) → (t : Bool) → (T t → a ≡ b) → t ≡ false
        apart l true f = let e : a ≡ b = f tt in absurd (omega arith)
        apart l false f = refl

        by : Dec (b < a) → cond (ltb b a) false true ≡ ltb a b || (eqb a b && true)
        by (yes l) =
            ap (λ (t : Bool). cond t false true) (lt-ltb b a l)
            ∙ sym (ap (λ (t : Bool). t || (eqb a b && true)) (le-ltb a b (omega arith)) ∙ ap (λ (t : Bool). false || (t && true)) (apart l (eqb a b) (eqb→eq a b)))
        by (no l) = ap (λ (t : Bool). cond t false true) (le-ltb b a (omega arith)) ∙ sym (is_true (ltb a b || (eqb a b && true)) (at_most a b (omega arith)))

-- a pie's test, in its box: that of the distances, and that of the sweep
apart : (b t : Bool) → cond b false t ≡ cond b false true && t
apart true t = refl
apart false t = refl

pub pie-is : (x y : ℤ) (w h : ℕ) (start sweep : ℤ) (p q i j : ℕ)
    → nat_abs x ≤ 32768 → nat_abs y ≤ 32768 → w ≤ 32767 → h ≤ 32767 → p ≤ 32767 → q ≤ 32767 → i < w → j < h → pos p ≡ x +ℤ pos i → pos q ≡ y +ℤ pos j
    → in_pie x y w h start sweep p q ≡ has_at (pie_side w) (part_on (pie_side h) j) i && covers (pie_of x y w h start sweep) p q
pie-is x y w h start sweep p q i j a b c d f g k l e o =
    let dx = offset (pos p) x w in
    let dy = offset (pos q) y h in
    let t = in_sweep (sweep_of (of_int binary32 start) (of_int binary32 sweep)) dx dy in
    let u = square (div binary32 dx (max_of (half_axis w) half)) in
    let v = square (div binary32 dy (max_of (half_axis h) half)) in
    let m = part_on (pie_side w) i in
    let n = part_on (pie_side h) j in
    let begins : in_pie x y w h start sweep p q ≡ cond (lt one (add binary32 u v)) false t = unfold in_pie square in refl in
    let ends : le (add binary32 m n) one ≡ has_at (pie_side w) n i = unfold has_at in refl in
    begins
    ∙ ap (λ (z : Float). cond (lt one (add binary32 z v)) false t) (part_of_lem (pos p) x w i f a c k e)
    ∙ ap (λ (z : Float). cond (lt one (add binary32 m z)) false t) (part_of_lem (pos q) y h j g b d l o)
    ∙ apart (lt one (add binary32 m n)) t
    ∙ ap (λ (z : Bool). z && t) (turned (add binary32 m n) (add-plain m n (smooth w i k c) (smooth h j l d)) ∙ ends)
    ∙ ap (λ (z : Bool). has_at (pie_side w) n i && z) (sym (covers-is x y w h start sweep p q))
  where
    smooth : (w i : ℕ) → i < w → w ≤ 32767 → T (plain (part_on (pie_side w) i))
    smooth w i h k = on_plain (pie_side w) (pie_sided w (omega arith) k) i (unfold pie_side in h)
