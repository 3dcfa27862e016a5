-- What a pie hands to the arctangent, for a point of its box that is no nearer to the centre than 1, is in its domain.
-- Assumes nothing.
use Rattle.std.proofs.Common.{◌≡◌, ℕ, zero, suc, ◌+◌, ◌-◌, ◌*◌, ◌/◌, ◌%◌, ◌^◌, ◌<◌, ◌≤◌, min, Bool, true, false, cond, ◌&&◌, T, eqb, ltb, leb, ℤ, pos, negsuc, ◌+ℤ◌, sym, refl, ap, ◌∙◌, mul-pos, div-add-mod', zero-mul, arith, lit<, eqb→eq, ltb-true, le-ltb, lt-ltb, leb-true}
use mathlib.Core.Bool.{beq}
use native.Mathlib.Nat.{eq_of_mul-eq-mul_right}
use native.Mathlib.Decide.{dec_lt}
use lib.Signed.{le_z, lt_z}
use lib.Ieee.{Float, nan, inf, fin, binary32, up, down, round, neg, add, mul, sum, lt, unlike}
use lib.Ieee.Fits.{down_pos, and_l}
use lib.Ieee.Exact.{HasValue, round_exact}
use Rattle.floats.specs.Size.{one}
use Rattle.angle.specs.Arctangent.{is_halves, halves_of, Domain}
use Rattle.curves.specs.Oval.{offset}
use Rattle.curves.specs.Pies.{Inside}
use Rattle.curves.proofs.Offsets.{pie-right, pie-up}

-- ---- a point of the box is the i-th of its row, or of its column
pub record Placed (x : ℤ) (w p : ℕ) : Type 0 where
  pub index : ℕ
  pub below : index < w
  pub at : pos p ≡ x +ℤ pos index

placed : (x : ℤ) (w p : ℕ) → le_z x (pos p) ≡ true → lt_z (pos p) (x +ℤ pos w) ≡ true → Placed x w p
placed (pos a) w p h k =
    let l : a ≤ p = leb-true a p h in
    let m : p < a + w = ltb-true p (a + w) k in
    record { index = p - a; below = omega arith; at = ap pos (over a p l) }
  where
    over : (a p : ℕ) → a ≤ p → p ≡ a + (p - a)
    over a p l = omega arith
placed (negsuc a) w p h k = record { index = p + suc a; below = below (dec_lt w (suc a)); at = sym (rw (le-ltb (p + suc a) (suc a) (omega arith)) (ap pos (back p a))) }
  where
    back : (p a : ℕ) → p + suc a - suc a ≡ p
    back p a = omega arith

    below : Dec (w < suc a) → p + suc a < w
    below (yes l) = absurd (none (rw (lt-ltb w (suc a) l) at k))
      where
        none : false ≡ true → ⊥
        none e = let z : ◌≡◌ {A = ℕ} 0 1 = cc in omega arith
    below (no l) = let m : p < w - suc a = ltb-true p (w - suc a) (rw (le-ltb w (suc a) (omega arith)) at k) in omega arith

module _ (x : ℤ) (w p : ℕ) (h : Inside x w p) where
  right : T (is_halves (offset (pos p) x w))
  right = let k = placed x w p h.from h.to in (pie-right (pos p) x w k.index h.place h.corner h.side k.below k.at).0

  above : T (is_halves (neg (offset (pos p) x w)))
  above = let k = placed x w p h.from h.to in (pie-up (pos p) x w k.index h.place h.corner h.side k.below k.at).0

-- ---- not both zero: the centre's distance from itself is below 1
abbrev Zero : Float → Type 0
Zero nan = ⊥
Zero (inf s) = ⊥
Zero (fin s m e) = m * up e ≡ 0

no_times : (n k : ℕ) → n ≡ 0 → n * k ≡ 0
no_times n k z = ap (λ (a : ℕ). a * k) z ∙ zero-mul k

round_zero : (s : Bool) (a c : ℕ) → 0 < c → a ≡ 0 → Zero (round binary32 s a c)
round_zero s a c p z = go (round binary32 s a c) (round_exact binary32 s a c 0 0 p (lit< tt) (lit< tt) (no_times a (2 ^ 149) z ∙ sym (zero-mul c)))
  where
    go : (x : Float) → HasValue x s a c → Zero x
    go nan v = v
    go (inf t) v = v
    go (fin t m e) v = eq_of_mul-eq-mul_right c p (m * up e) 0 (v.1 ∙ no_times a (down e) z ∙ sym (zero-mul c))

square_zero : (x : Float) → Zero x → Zero (mul binary32 x x)
unfolding mul
square_zero nan z = absurd z
square_zero (inf s) z = absurd z
square_zero (fin s m e) z = round_zero (unlike s s) (m * up e * (m * up e)) (down e * down e) (mul-pos (down_pos e) (down_pos e)) (no_times (m * up e) (m * up e) z)

sum_zero : (s t : Bool) (a b c : ℕ) → 0 < c → a ≡ 0 → b ≡ 0 → Zero (sum binary32 s a t b c)
unfolding sum
sum_zero s t a b c p y z =
    either (beq s t) (round binary32 s (a + b) c) (cond (ltb a b) (round binary32 t (b - a) c) (round binary32 (s && ltb b a) (a - b) c))
    (round_zero s (a + b) c p (omega arith))
    (either (ltb a b) (round binary32 t (b - a) c) (round binary32 (s && ltb b a) (a - b) c) (round_zero t (b - a) c p (omega arith)) (round_zero (s && ltb b a) (a - b) c p (omega arith)))
  where
    either : (b : Bool) (x y : Float) → Zero x → Zero y → Zero (cond b x y)
    either true x y p q = p
    either false x y p q = q

add-zero : (x y : Float) → Zero x → Zero y → Zero (add binary32 x y)
unfolding add
add-zero nan y p q = absurd p
add-zero (inf s) y p q = absurd p
add-zero (fin s m e) nan p q = absurd q
add-zero (fin s m e) (inf t) p q = absurd q
add-zero (fin s m e) (fin t n o) p q =
    sum_zero s t (m * up e * down o) (n * up o * down e) (down e * down o) (mul-pos (down_pos e) (down_pos o)) (no_times (m * up e) (down o) p) (no_times (n * up o) (down e) q)

below_one : (x : Float) → Zero x → lt x one ≡ true
unfolding lt
below_one nan z = absurd z
below_one (inf s) z = absurd z
below_one (fin true m e) z = lt-ltb 0 (m * up e * 1 + 1 * 1 * down e) (more (m * up e) (down e) (down_pos e))
  where
    more : (n d : ℕ) → 0 < d → 0 < n * 1 + 1 * 1 * d
    more n d p = omega arith
below_one (fin false m e) z = lt-ltb (m * up e * 1) (1 * 1 * down e) (less (m * up e) (down e) z (down_pos e))
  where
    less : (n d : ℕ) → n ≡ 0 → 0 < d → n * 1 < 1 * 1 * d
    less n d z p = omega arith

count-zero : (x : Float) → T (is_halves x) → halves_of x ≡ 0 → Zero x
unfolding is_halves halves_of
count-zero nan h z = absurd h
count-zero (inf s) h z = absurd h
count-zero (fin s m e) h z =
    go (m * up e) (down e) (eqb→eq (m * up e * 2 % down e) 0 (and_l (eqb (m * up e * 2 % down e) 0) (leb (m * up e * 2 / down e) 32766) h)) z
  where
    go : (n d : ℕ) → n * 2 % d ≡ 0 → min (n * 2 / d) 32766 ≡ 0 → n ≡ 0
    go n d r q =
        let k : n * 2 / d ≡ 0 = omega arith in
        let f : n * 2 ≡ 0 = sym (div-add-mod' (n * 2) d) ∙ rw (k, r) (omega arith) in
        omega arith

un_neg : (x : Float) → Zero (neg x) → Zero x
unfolding neg
un_neg nan z = z
un_neg (inf s) z = z
un_neg (fin s m e) z = z

not_both : (x y : Float) → T (is_halves x) → T (is_halves (neg y)) → lt (add binary32 (mul binary32 x x) (mul binary32 y y)) one ≡ false → halves_of (neg y) + halves_of x ≡ 0 → ⊥
not_both x y h k far z =
    let p : Zero x = count-zero x h (omega arith) in
    let q : Zero y = un_neg y (count-zero (neg y) k (omega arith)) in
    let near = below_one (add binary32 (mul binary32 x x) (mul binary32 y y)) (add-zero (mul binary32 x x) (mul binary32 y y) (square_zero x p) (square_zero y q)) in
    let n : ◌≡◌ {A = ℕ} 0 1 = cc in
    omega arith

pub in_domain : (x y : ℤ) (w h i j : ℕ) → Inside x w i → Inside y h j
    → let dx = offset (pos i) x w in let dy = offset (pos j) y h in lt (add binary32 (mul binary32 dx dx) (mul binary32 dy dy)) one ≡ false → Domain (neg dy) dx
in_domain x y w h i j p q far =
    record {
      halves = record { up = above y h j q; right = right x w i p };
      some = positive (halves_of (neg (offset (pos j) y h)) + halves_of (offset (pos i) x w)) (not_both (offset (pos i) x w) (offset (pos j) y h) (right x w i p) (above y h j q) far);
    }
  where
    positive : (n : ℕ) → (n ≡ 0 → ⊥) → 0 < n
    positive zero f = absurd (f refl)
    positive (suc n) f = omega arith
