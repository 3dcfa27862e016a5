-- A pie's points are in the arctangent's domain: a box's centre and a point's offset from it are multiples of a half, which
-- f32 holds exactly, and the offset of a point of the box is 16,383 in size at most. Assumes nothing.
use Rattle.std.proofs.Common.{◌≡◌, ℕ, zero, suc, ◌+◌, ◌-◌, ◌*◌, ◌/◌, ◌%◌, ◌^◌, ◌<◌, ◌≤◌, min, Bool, true, false, cond, not, ◌&&◌, T, eqb, ltb, leb, ℤ, pos, negsuc, ◌+ℤ◌, ◌-ℤ◌, neg_ℤ, nat_abs, sym, refl, ap, ◌∙◌, subst, le_trans, le_refl, lt_of_lt_of_le, lt_of_mul-lt-mul_right, mul-pos, mul-one, le_of_mul-le-mul_right, mul-div_cancel, arith, lit<, lit≤, le→leb, ltb→lt, nltb→le, shl_lt}
use native.Mathlib.Nat.{mul-mod_left, eq_of_mul-eq-mul_right}
use lib.IntN.{pos-ne-negsuc, neg_ℤ-+ℤ, +ℤ_assoc, +ℤ_comm, +ℤ_invr, +ℤ_idl}
use lib.Ieee.{Float, nan, inf, fin, binary32, up, down, round, neg, add, sub, div, sum, of_int, unlike}
use lib.Ieee.Fits.{down_pos, and_i, eq→eqb}
use lib.Ieee.Exact.{HasValue, round_exact}
use Rattle.angle.specs.Meaning.{signed}
use Rattle.angle.specs.Arctangent.{is_halves, halves_of}
use Rattle.floats.proofs.Powers.{like}
use Rattle.angle.proofs.Signs.{size, none, opposite, plus, less, short, apart}
use Rattle.curves.specs.Oval.{half_axis, centre, offset}

-- x is z halves, K of them at most
pub record Half (x : Float) (z : ℤ) (K : ℕ) : Type 0 where
  pub sign : Bool
  pub count : ℕ
  pub value : HasValue x sign count 2
  pub is : signed sign count ≡ z
  pub few : count ≤ K

-- a fraction that is k halves
pub halved : (s : Bool) (a c k : ℕ) → 0 < c → a * 2 ≡ k * c → k < 2 ^ 24 → HasValue (round binary32 s a c) s k 2
halved s a c k C e h =
    over (round binary32 s a c) (round_exact binary32 s a c k 148 C h (lt_of_lt_of_le (shl_lt 24 148 h) (lit≤ tt)) (scale a c k (2 ^ 148) (2 ^ 149) refl e))
  where
    scale : (a c k p q : ℕ) → q ≡ 2 * p → a * 2 ≡ k * c → a * q ≡ k * p * c
    scale a c k p q f g = omega (arith, ap (λ (z : ℕ). a * z) f, ap (λ (z : ℕ). z * p) g)

    over : (x : Float) → HasValue x s a c → HasValue x s k 2
    over nan v = v
    over (inf t) v = v
    over (fin t m o) v = (v.0, eq_of_mul-eq-mul_right c C (m * up o * 2) (k * down o) (go (m * up o) (down o) v.1))
      where
        go : (b d : ℕ) → b * c ≡ a * d → b * 2 * c ≡ k * d * c
        go b d f = omega (arith, ap (λ (z : ℕ). z * d) e, ap (λ (z : ℕ). z * 2) f)

module _ (K L : ℕ) (room : K + L < 2 ^ 24) where
  -- A / C less B / C, which are a and b halves, with the sign s before both
  module _ (s : Bool) (A B C a b : ℕ) (p : 0 < C) (e : A * 2 ≡ a * C) (f : B * 2 ≡ b * C) (h : a ≤ K) (k : b ≤ L) where
    rises : A < B → a < b
    rises l = lt_of_mul-lt-mul_right C (omega arith)

    falls : B ≤ A → b ≤ a
    falls l = le_of_mul-le-mul_right {k = C} (omega arith) p

    left : (X x Y y d : ℕ) → X * 2 ≡ x * C → Y * 2 ≡ y * C → d + x ≡ y → (Y - X) * 2 ≡ d * C
    left X x Y y d e f g = omega (arith, ap (λ (z : ℕ). z * C) g)

    difference : Half (cond (ltb A B) (round binary32 (not s) (B - A) C) (round binary32 (s && ltb B A) (A - B) C)) (signed s a -ℤ signed s b) (K + L)
    difference = go (ltb A B) (ltb→lt A B) (nltb→le A B)
      where
        on : (s t : Bool) → T t → s && t ≡ s
        on true true q = refl
        on false t q = refl
        on true false q = absurd q

        off : (s t : Bool) → T (not t) → s && t ≡ false
        off true true q = absurd q
        off true false q = refl
        off false t q = refl

        -- the first is not the smaller: the sign is s, or there is nothing left
        sign : (d : ℕ) → d + b ≡ a → (t : Bool) → (T (not t) → A ≤ B) → signed (s && t) d ≡ signed s d
        sign d g true q = ap (λ (r : Bool). signed r d) (on s true tt)
        sign d g false q =
            let l : b ≤ a = omega arith in
            let z : 0 ≡ d = omega (arith, rises' (q tt)) in
            subst (λ (x : ℕ). signed (s && false) x ≡ signed s x) z (sym (none (s && false) 0 refl) ∙ none s 0 refl)
          where
            rises' : A ≤ B → a ≤ b
            rises' l = le_of_mul-le-mul_right {k = C} (omega arith) p

        go : (t : Bool) → (T t → A < B) → (T (not t) → B ≤ A) → Half (cond t (round binary32 (not s) (B - A) C) (round binary32 (s && ltb B A) (A - B) C)) (signed s a -ℤ signed s b) (K + L)
        go true q r =
            let l : a < b = rises (q tt) in
            let g : b - a + a ≡ b = omega arith in
            record {
              sign = not s;
              count = b - a;
              value = halved (not s) (B - A) C (b - a) p (left A a B b (b - a) e f g) (omega arith);
              is = sym (short s a b (b - a) g);
              few = omega arith;
            }
        go false q r =
            let l : b ≤ a = falls (r tt) in
            let g : a - b + b ≡ a = omega arith in
            record {
              sign = s && ltb B A;
              count = a - b;
              value = halved (s && ltb B A) (A - B) C (a - b) p (left B b A a (a - b) f e g) (omega arith);
              is = sign (a - b) g (ltb B A) (nltb→le B A) ∙ sym (less s a b (a - b) g);
              few = omega arith;
            }

    total : Half (round binary32 s (A + B) C) (signed s a +ℤ signed s b) (K + L)
    total = record { sign = s; count = a + b; value = halved s (A + B) C (a + b) p (omega arith) (omega arith); is = sym (plus s a b); few = omega arith }

  sum_half : (s t : Bool) (A B C a b : ℕ) → 0 < C → A * 2 ≡ a * C → B * 2 ≡ b * C → a ≤ K → b ≤ L → Half (sum binary32 s A t B C) (signed s a +ℤ signed t b) (K + L)
  unfolding sum
  sum_half true true A B C a b p e f h k = total true A B C a b p e f h k
  sum_half false false A B C a b p e f h k = total false A B C a b p e f h k
  sum_half true false A B C a b p e f h k =
      subst (λ (z : ℤ). Half (cond (ltb A B) (round binary32 false (B - A) C) (round binary32 (true && ltb B A) (A - B) C)) (signed true a +ℤ z) (K + L)) (opposite true b)
      (difference true A B C a b p e f h k)
  sum_half false true A B C a b p e f h k = difference false A B C a b p e f h k

  pub add_half : (x y : Float) (z w : ℤ) → Half x z K → Half y w L → Half (add binary32 x y) (z +ℤ w) (K + L)
  unfolding add
  add_half nan y z w p q = absurd p.value
  add_half (inf s) y z w p q = absurd p.value
  add_half (fin s m e) nan z w p q = absurd q.value
  add_half (fin s m e) (inf t) z w p q = absurd q.value
  add_half (fin s m e) (fin t n o) z w p q =
      subst (λ (x : ℤ). Half (sum binary32 s (m * up e * down o) t (n * up o * down e) (down e * down o)) x (K + L))
      (ap (λ (b : Bool). signed b p.count +ℤ signed t q.count) p.value.0 ∙ ap (λ (b : Bool). signed p.sign p.count +ℤ signed b q.count) q.value.0 ∙ ap
      (λ (x : ℤ). x +ℤ signed q.sign q.count) p.is ∙ ap (λ (x : ℤ). z +ℤ x) q.is)
      (sum_half s t (m * up e * down o) (n * up o * down e) (down e * down o) p.count q.count (mul-pos (down_pos e) (down_pos o))
      (left (m * up e) (down e) (down o) p.count p.value.1) (right (n * up o) (down o) (down e) q.count q.value.1) p.few q.few)
    where
      left : (a d f k : ℕ) → a * 2 ≡ k * d → a * f * 2 ≡ k * (d * f)
      left a d f k h = omega (arith, ap (λ (z : ℕ). z * f) h)

      right : (a f d k : ℕ) → a * 2 ≡ k * f → a * d * 2 ≡ k * (d * f)
      right a f d k h = omega (arith, ap (λ (z : ℕ). z * d) h)

pub neg-half : (x : Float) (z : ℤ) (K : ℕ) → Half x z K → Half (neg x) (neg_ℤ z) K
unfolding neg
neg-half nan z K p = absurd p.value
neg-half (inf s) z K p = absurd p.value
neg-half (fin s m e) z K p = record {
  sign = not p.sign;
  count = p.count;
  value = (ap not p.value.0, p.value.1);
  is = sym (opposite p.sign p.count) ∙ ap neg_ℤ p.is;
  few = p.few;
}

pub sub-half : (K L : ℕ) → K + L < 2 ^ 24 → (x y : Float) (z w : ℤ) → Half x z K → Half y w L → Half (sub binary32 x y) (z -ℤ w) (K + L)
unfolding sub
sub-half K L room x y z w p q = add_half K L room x (neg y) z (neg_ℤ w) p (neg-half y w L q)

pub int_half : (z : ℤ) (K : ℕ) → 2 * nat_abs z ≤ K → K < 2 ^ 24 → Half (of_int binary32 z) (z +ℤ z) K
unfolding of_int
int_half (pos n) K h k = record { sign = false; count = n + n; value = halved false n 1 (n + n) (lit< tt) (omega arith) (omega arith); is = refl; few = omega arith }
int_half (negsuc n) K h k =
    record {
      sign =
          true;
      count = suc n + suc n;
      value = halved true (suc n) 1 (suc n + suc n) (lit< tt) (omega arith) (omega arith);
      is = sym (plus true (suc n) (suc n));
      few = omega arith;
    }

-- ---- the centre
-- twice n halves, halved
pub half_of : (x : Float) (n K : ℕ) → Half x (pos (n + n)) K → n < 2 ^ 24 → Half (div binary32 x (fin false 1 (pos 1))) (pos n) n
unfolding div
half_of nan n K q k = absurd q.value
half_of (inf s) n K q k = absurd q.value
half_of (fin s m e) n K q k = record {
  sign = unlike s false;
  count = n;
  value = halved (unlike s false) (m * up e * 1) (1 * 2 * down e) n (mul-pos {m = 1 * 2} (lit< tt) (down_pos e)) (go (m * up e) (down e) q.count twice q.value.1) k;
  is = ap (λ (b : Bool). signed b n) (like s ∙ q.value.0) ∙ plain q.sign q.count twice q.is;
  few = le_refl n;
}
  where
    twice : q.count ≡ n + n
    twice = sym (size q.sign q.count) ∙ ap nat_abs q.is

    go : (a d c : ℕ) → c ≡ n + n → a * 2 ≡ c * d → a * 1 * 2 ≡ n * (1 * 2 * d)
    go a d c e f = omega (arith, ap (λ (z : ℕ). z * d) e)

    plain : (s : Bool) (c : ℕ) → c ≡ n + n → signed s c ≡ pos (n + n) → signed s n ≡ pos n
    plain false c e f = refl
    plain true zero e f = let z : 0 ≡ n = omega arith in subst (λ (k : ℕ). signed true k ≡ pos k) z refl
    plain true (suc c) e f = absurd (pos-ne-negsuc (n + n) c (sym f))

pub axis_half : (w : ℕ) → 0 < w → w ≤ 32767 → Half (half_axis w) (pos (w - 1)) (w - 1)
unfolding half_axis
axis_half w p h =
    half_of (sub binary32 (of_int binary32 (pos w)) (fin false 1 (pos 0))) (w - 1) 65536
    (subst (λ (z : ℤ). Half (sub binary32 (of_int binary32 (pos w)) (fin false 1 (pos 0))) z 65536) (less false (w + w) 2 (w - 1 + (w - 1)) (omega arith))
    (sub-half 65534 2 (lit< tt) (of_int binary32 (pos w)) (fin false 1 (pos 0)) (pos (w + w)) (pos 2) (int_half (pos w) 65534 (omega arith) (lit< tt)) one))
    (omega arith)
  where
    one : Half (fin false 1 (pos 0)) (pos 2) 2
    one = record { sign = false; count = 2; value = (refl, refl); is = refl; few = lit≤ tt }

pub wider : (x : Float) (z : ℤ) (K L : ℕ) → K ≤ L → Half x z K → Half x z L
wider x z K L h p = record { sign = p.sign; count = p.count; value = p.value; is = p.is; few = le_trans p.few h }

centre-half : (x : ℤ) (w : ℕ) → nat_abs x ≤ 32768 → 0 < w → w ≤ 32767 → Half (centre x w) (x +ℤ x +ℤ pos (w - 1)) 98302
unfolding centre
centre-half x w b p h =
    add_half 65536 32766 (lit< tt) (of_int binary32 x) (half_axis w) (x +ℤ x) (pos (w - 1)) (int_half x 65536 (omega arith) (lit< tt))
    (wider (half_axis w) (pos (w - 1)) (w - 1) 32766 (omega arith) (axis_half w p h))

-- ---- the offset of the i-th point of a row or a column
pub regroup : (x b : ℤ) → (x +ℤ b) +ℤ (x +ℤ b) ≡ (b +ℤ b) +ℤ (x +ℤ x)
regroup x b =
    ap (λ (z : ℤ). z +ℤ (x +ℤ b)) (+ℤ_comm x b)
    ∙ +ℤ_assoc b x (x +ℤ b)
    ∙ ap (λ (z : ℤ). b +ℤ z) (sym (+ℤ_assoc x x b) ∙ +ℤ_comm (x +ℤ x) b)
    ∙ sym (+ℤ_assoc b b (x +ℤ x))

pub cancel : (a b c : ℤ) → (b +ℤ a) -ℤ (a +ℤ c) ≡ b -ℤ c
cancel a b c =
    ap (λ (z : ℤ). (b +ℤ a) +ℤ z) (neg_ℤ-+ℤ a c)
    ∙ +ℤ_assoc b a (neg_ℤ a +ℤ neg_ℤ c)
    ∙ ap (λ (z : ℤ). b +ℤ z) (sym (+ℤ_assoc a (neg_ℤ a) (neg_ℤ c)) ∙ ap (λ (z : ℤ). z +ℤ neg_ℤ c) (+ℤ_invr a) ∙ +ℤ_idl (neg_ℤ c))

pub offset-half : (p x : ℤ) (w i : ℕ) → nat_abs p ≤ 32767 → nat_abs x ≤ 32768 → w ≤ 32767 → i < w → p ≡ x +ℤ pos i → Half (offset p x w) (pos (i + i) -ℤ pos (w - 1)) 163836
unfolding offset
offset-half p x w i a b h l e =
    subst (λ (z : ℤ). Half (offset p x w) z 163836) (ap (λ (z : ℤ). z +ℤ z -ℤ (x +ℤ x +ℤ pos (w - 1))) e ∙ ap (λ (z : ℤ). z -ℤ (x +ℤ x +ℤ pos (w - 1))) (regroup x (pos i)) ∙ cancel (x +ℤ x)
    (pos (i + i)) (pos (w - 1)))
    (sub-half 65534 98302 (lit< tt) (of_int binary32 p) (centre x w) (p +ℤ p) (x +ℤ x +ℤ pos (w - 1)) (int_half p 65534 (omega arith) (lit< tt)) (centre-half x w b (omega arith) h))

-- z halves are that many, and a multiple of a half
counted : (x : Float) (z : ℤ) (K : ℕ) → Half x z K → nat_abs z ≤ 32766 → T (is_halves x) × (halves_of x ≡ nat_abs z)
unfolding is_halves halves_of
counted nan z K q h = absurd q.value
counted (inf s) z K q h = absurd q.value
counted (fin s m e) z K q h = go (m * up e * 2) (down e) (nat_abs z) (down_pos e) (q.value.1 ∙ ap (λ (k : ℕ). k * down e) (sym (size q.sign q.count) ∙ ap nat_abs q.is)) h
  where
    go : (n d k : ℕ) → 0 < d → n ≡ k * d → k ≤ 32766 → T (eqb (n % d) 0 && leb (n / d) 32766) × (min (n / d) 32766 ≡ k)
    go n d k p f g =
        let r : n / d ≡ k = ap (λ (z : ℕ). z / d) f ∙ mul-div_cancel k p in (
          and_i (eqb (n % d) 0) (leb (n / d) 32766) (eq→eqb (ap (λ (z : ℕ). z % d) f ∙ mul-mod_left k d)) (le→leb (n / d) 32766 (subst (λ (z : ℕ). z ≤ 32766) (sym r) g)),
          ap
              (λ (z : ℕ). min z 32766) r ∙ kept k g,
        )
      where
        kept : (k : ℕ) → k ≤ 32766 → min k 32766 ≡ k
        kept k h = omega arith

inside : (i w : ℕ) → w ≤ 32767 → i < w → nat_abs (pos (i + i) -ℤ pos (w - 1)) ≤ 32766
inside i w h l =
    le_trans (subst (λ (z : ℕ). z ≤ w - 1) (mul-one (nat_abs (pos (i + i) -ℤ pos (w - 1)))) (apart false (i + i) (w - 1) 1 (w - 1) (omega arith) (omega arith))) (omega arith)

-- what a pie hands to the arctangent, at the i-th column and the j-th row of its box: right, and up, which is taken off. Each is a multiple of a half, of a known size.
module _ (p x : ℤ) (w i : ℕ) (a : nat_abs p ≤ 32767) (b : nat_abs x ≤ 32768) (h : w ≤ 32767) (l : i < w) (e : p ≡ x +ℤ pos i) where
  pub pie-right : T (is_halves (offset p x w)) × (halves_of (offset p x w) ≡ nat_abs (pos (i + i) -ℤ pos (w - 1)))
  pie-right = counted (offset p x w) (pos (i + i) -ℤ pos (w - 1)) 163836 (offset-half p x w i a b h l e) (inside i w h l)

  pub pie-up : T (is_halves (neg (offset p x w))) × (halves_of (neg (offset p x w)) ≡ nat_abs (pos (i + i) -ℤ pos (w - 1)))
  pie-up = same (offset p x w) pie-right
    where
      same : (y : Float) {n : ℕ} → T (is_halves y) × (halves_of y ≡ n) → T (is_halves (neg y)) × (halves_of (neg y) ≡ n)
      same nan q = absurd (unfold is_halves in q.0)
      same (inf s) q = absurd (unfold is_halves in q.0)
      same (fin s m e) q = unfold is_halves halves_of neg in q
