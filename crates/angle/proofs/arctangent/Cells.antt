-- The nodes, each a 4096th of the ratio x up to 7/16: the polynomial's angle there, its tangent and its slope, computed.
-- Assumes nothing.
use Rattle.std.proofs.Common.{◌≡◌, ℕ, zero, suc, ◌+◌, ◌-◌, ◌*◌, ◌/◌, ◌<◌, ◌≤◌, Bool, true, false, not, ◌&&◌, T, leb, sym, refl, subst, ⊎_elim, eq-or-lt_of_le, div-mul-le_self, arith, lit<, leb→le}
use native.Mathlib.Nat.{lt-div-mul-add}
use lib.Dec.{nleb→lt}
use Rattle.angle.specs.Meaning.{D, whole, coef}
use Rattle.angle.proofs.Terms.{sin_at, cos_at}
use Rattle.angle.proofs.Every.{both_left, both_right}
use Rattle.angle.proofs.arctangent.Poly.{eval, dev}
use Rattle.angle.proofs.arctangent.Lists.{sin_up_lem, sin_down_lem, cos_up_lem, cos_down_lem, sin_lists, cos_lists}
use Rattle.angle.proofs.arctangent.Budget.{B, B-few, Most, tau}
use Rattle.angle.proofs.arctangent.Horner.{evens, odds, A0, A1, A2, A3, A4, A5, A6, A7, A8, A9, A10}
use Rattle.angle.proofs.arctangent.Slope.{ups, downs, spread, scale, K, R}

-- the node's ratio in D-ths
unfoldable pub cell : ℕ
unfolding D
cell = D / 4096

-- the angle there, cut
angle_of : ℕ → ℕ → ℕ → ℕ
angle_of x u n = (x * K + n - u) / K

unfoldable pub angle_at : ℕ → ℕ
unfolding angle_of
angle_at j = angle_of (j * cell) (eval ups (j * cell)) (eval downs (j * cell))

tangent : ℕ → ℕ → ℕ → ℕ → Bool
tangent j a s c = leb (4096 * s) (j * c + tau) && (leb (j * c) (4096 * s + tau) && (leb c whole && (leb whole (2 * c) && leb (a + Most) B)))

slope : ℕ → ℕ → ℕ → Bool
slope x u n = leb u (K + n) && (leb ((K + n - u) * (D * D + x * x)) (K * (D * D) + R) && leb (K * (D * D)) ((K + n - u) * (D * D + x * x) + R))

test : ℕ → Bool
test j =
    let a = angle_at j in
    let x = j * cell in
    tangent j a (eval sin_up_lem a - eval sin_down_lem a) (eval cos_up_lem a - eval cos_down_lem a) && (slope x (dev ups x) (dev downs x) && leb (eval ups x) (x * K + eval downs x))

-- n of them from a on
span : ℕ → ℕ → Bool
span a zero = true
span a (suc n) = test (a + n) && span a n

in_span : (a n j : ℕ) → T (span a n) → j < n → T (test (a + j))
unfolding span
in_span a zero j t h = absurd (none j h)
  where
    none : (j : ℕ) → j < 0 → ⊥
    none j h = omega arith
in_span a (suc n) j t h =
    ⊎_elim
    (λ (e : j ≡ n). subst (λ (k : ℕ). T (test (a + k))) (sym e) (both_left (test (a + n)) (span a n) t))
    (λ (l : j < n). in_span a n j (both_right (test (a + n)) (span a n) t) l)
    (eq-or-lt_of_le {n = j} {m = n} (omega arith))

s0 : T (span 0 128)
unfolding span test tangent slope angle_at angle_of cell eval dev ups downs spread scale evens odds A0 A1 A2 A3 A4 A5 A6 A7 A8 A9 A10 K R sin_up_lem sin_down_lem cos_up_lem cos_down_lem coef B Most tau whole D
s0 = tt

s1 : T (span 128 128)
unfolding span test tangent slope angle_at angle_of cell eval dev ups downs spread scale evens odds A0 A1 A2 A3 A4 A5 A6 A7 A8 A9 A10 K R sin_up_lem sin_down_lem cos_up_lem cos_down_lem coef B Most tau whole D
s1 = tt

s2 : T (span 256 128)
unfolding span test tangent slope angle_at angle_of cell eval dev ups downs spread scale evens odds A0 A1 A2 A3 A4 A5 A6 A7 A8 A9 A10 K R sin_up_lem sin_down_lem cos_up_lem cos_down_lem coef B Most tau whole D
s2 = tt

s3 : T (span 384 128)
unfolding span test tangent slope angle_at angle_of cell eval dev ups downs spread scale evens odds A0 A1 A2 A3 A4 A5 A6 A7 A8 A9 A10 K R sin_up_lem sin_down_lem cos_up_lem cos_down_lem coef B Most tau whole D
s3 = tt

s4 : T (span 512 128)
unfolding span test tangent slope angle_at angle_of cell eval dev ups downs spread scale evens odds A0 A1 A2 A3 A4 A5 A6 A7 A8 A9 A10 K R sin_up_lem sin_down_lem cos_up_lem cos_down_lem coef B Most tau whole D
s4 = tt

s5 : T (span 640 128)
unfolding span test tangent slope angle_at angle_of cell eval dev ups downs spread scale evens odds A0 A1 A2 A3 A4 A5 A6 A7 A8 A9 A10 K R sin_up_lem sin_down_lem cos_up_lem cos_down_lem coef B Most tau whole D
s5 = tt

s6 : T (span 768 128)
unfolding span test tangent slope angle_at angle_of cell eval dev ups downs spread scale evens odds A0 A1 A2 A3 A4 A5 A6 A7 A8 A9 A10 K R sin_up_lem sin_down_lem cos_up_lem cos_down_lem coef B Most tau whole D
s6 = tt

s7 : T (span 896 128)
unfolding span test tangent slope angle_at angle_of cell eval dev ups downs spread scale evens odds A0 A1 A2 A3 A4 A5 A6 A7 A8 A9 A10 K R sin_up_lem sin_down_lem cos_up_lem cos_down_lem coef B Most tau whole D
s7 = tt

s8 : T (span 1024 128)
unfolding span test tangent slope angle_at angle_of cell eval dev ups downs spread scale evens odds A0 A1 A2 A3 A4 A5 A6 A7 A8 A9 A10 K R sin_up_lem sin_down_lem cos_up_lem cos_down_lem coef B Most tau whole D
s8 = tt

s9 : T (span 1152 128)
unfolding span test tangent slope angle_at angle_of cell eval dev ups downs spread scale evens odds A0 A1 A2 A3 A4 A5 A6 A7 A8 A9 A10 K R sin_up_lem sin_down_lem cos_up_lem cos_down_lem coef B Most tau whole D
s9 = tt

s10 : T (span 1280 128)
unfolding span test tangent slope angle_at angle_of cell eval dev ups downs spread scale evens odds A0 A1 A2 A3 A4 A5 A6 A7 A8 A9 A10 K R sin_up_lem sin_down_lem cos_up_lem cos_down_lem coef B Most tau whole D
s10 = tt

s11 : T (span 1408 128)
unfolding span test tangent slope angle_at angle_of cell eval dev ups downs spread scale evens odds A0 A1 A2 A3 A4 A5 A6 A7 A8 A9 A10 K R sin_up_lem sin_down_lem cos_up_lem cos_down_lem coef B Most tau whole D
s11 = tt

s12 : T (span 1536 128)
unfolding span test tangent slope angle_at angle_of cell eval dev ups downs spread scale evens odds A0 A1 A2 A3 A4 A5 A6 A7 A8 A9 A10 K R sin_up_lem sin_down_lem cos_up_lem cos_down_lem coef B Most tau whole D
s12 = tt

s13 : T (span 1664 128)
unfolding span test tangent slope angle_at angle_of cell eval dev ups downs spread scale evens odds A0 A1 A2 A3 A4 A5 A6 A7 A8 A9 A10 K R sin_up_lem sin_down_lem cos_up_lem cos_down_lem coef B Most tau whole D
s13 = tt

-- ---- what each node says
pub record Node (j : ℕ) : Type 0 where
  pub low : 4096 * sin_at (angle_at j) ≤ j * cos_at (angle_at j) + tau
  pub high : j * cos_at (angle_at j) ≤ 4096 * sin_at (angle_at j) + tau
  pub small : cos_at (angle_at j) ≤ whole
  pub large : whole ≤ 2 * cos_at (angle_at j)
  pub room : angle_at j + Most ≤ B
  pub falls : dev ups (j * cell) ≤ K + dev downs (j * cell)
  pub steep : (K + dev downs (j * cell) - dev ups (j * cell)) * (D * D + j * cell * (j * cell)) ≤ K * (D * D) + R
  pub flat : K * (D * D) ≤ (K + dev downs (j * cell) - dev ups (j * cell)) * (D * D + j * cell * (j * cell)) + R
  pub more : eval ups (j * cell) ≤ j * cell * K + eval downs (j * cell)

five : (a b c d e : Bool) → T (a && (b && (c && (d && e)))) → T a × T b × T c × T d × T e
five a b c d e t =
    let t1 = both_right a (b && (c && (d && e))) t in
    let t2 = both_right b (c && (d && e)) t1 in
    let t3 = both_right c (d && e) t2 in
    (both_left a (b && (c && (d && e))) t, both_left b (c && (d && e)) t1, both_left c (d && e) t2, both_left d e t3, both_right d e t3)

made : (j : ℕ) → T (test j) → Node j
unfolding test tangent slope
made j t =
    let a = angle_at j in
    let x = j * cell in
    let s = eval sin_up_lem a - eval sin_down_lem a in
    let c = eval cos_up_lem a - eval cos_down_lem a in
    let u = dev ups x in
    let n = dev downs x in
    let t0 = both_left (tangent j a s c) (slope x u n && leb (eval ups x) (x * K + eval downs x)) t in
    let t1 = both_right (tangent j a s c) (slope x u n && leb (eval ups x) (x * K + eval downs x)) t in
    let r = five (leb (4096 * s) (j * c + tau)) (leb (j * c) (4096 * s + tau)) (leb c whole) (leb whole (2 * c)) (leb (a + Most) B) t0 in
    let v = both_left (slope x u n) (leb (eval ups x) (x * K + eval downs x)) t1 in
    let v1 = both_right (leb u (K + n)) (leb ((K + n - u) * (D * D + x * x)) (K * (D * D) + R) && leb (K * (D * D)) ((K + n - u) * (D * D + x * x) + R)) v in
    let room : a + Most ≤ B = leb→le (a + Most) B r.4 in
    let few : a ≤ D = omega (arith, B-few) in
    let e = sin_lists a few in
    let f = cos_lists a few in
    record {
      low = subst (λ (z : ℕ). 4096 * z ≤ j * cos_at a + tau) (sym e) (subst (λ (z : ℕ). 4096 * s ≤ j * z + tau) (sym f) (leb→le (4096 * s) (j * c + tau) r.0));
      high = subst (λ (z : ℕ). j * cos_at a ≤ 4096 * z + tau) (sym e) (subst (λ (z : ℕ). j * z ≤ 4096 * s + tau) (sym f) (leb→le (j * c) (4096 * s + tau) r.1));
      small = subst (λ (z : ℕ). z ≤ whole) (sym f) (leb→le c whole r.2);
      large = subst (λ (z : ℕ). whole ≤ 2 * z) (sym f) (leb→le whole (2 * c) r.3);
      room = room;
      falls = leb→le u (K + n) (both_left (leb u (K + n)) _ v);
      steep = leb→le ((K + n - u) * (D * D + x * x)) (K * (D * D) + R) (both_left (leb ((K + n - u) * (D * D + x * x)) (K * (D * D) + R)) _ v1);
      flat = leb→le (K * (D * D)) ((K + n - u) * (D * D + x * x) + R) (both_right (leb ((K + n - u) * (D * D + x * x)) (K * (D * D) + R)) (leb (K * (D * D)) ((K + n - u) * (D * D + x * x) + R)) v1);
      more = leb→le (eval ups x) (x * K + eval downs x) (both_right (slope x u n) (leb (eval ups x) (x * K + eval downs x)) t1);
    }

-- one of the blocks
block : (k j : ℕ) → T (span k 128) → k ≤ j → j < k + 128 → Node j
block k j t l h = made j (subst (λ (z : ℕ). T (test z)) (back k j l) (in_span k 128 (j - k) t (short k j l h)))
  where
    back : (k j : ℕ) → k ≤ j → k + (j - k) ≡ j
    back k j l = omega arith

    short : (k j : ℕ) → k ≤ j → j < k + 128 → j - k < 128
    short k j l h = omega arith

either : {P : Type 0} (j k : ℕ) → (j < k → P) → (k ≤ j → P) → P
either {P} j k f g = go (leb k j) (leb→le k j) (nleb→lt k j)
  where
    go : (b : Bool) → (T b → k ≤ j) → (T (not b) → j < k) → P
    go true a b = g (a tt)
    go false a b = f (b tt)

-- by the blocks below
below_0 : (j : ℕ) → j < 0 → Node j
below_0 j h = absurd (none j h)
  where
    none : (j : ℕ) → j < 0 → ⊥
    none j h = omega arith

below_1 : (j : ℕ) → j < 128 → Node j
below_1 j h = either j 0 (λ (l : j < 0). below_0 j l) (λ (l : 0 ≤ j). block 0 j s0 l h)

below_2 : (j : ℕ) → j < 256 → Node j
below_2 j h = either j 128 (λ (l : j < 128). below_1 j l) (λ (l : 128 ≤ j). block 128 j s1 l h)

below_3 : (j : ℕ) → j < 384 → Node j
below_3 j h = either j 256 (λ (l : j < 256). below_2 j l) (λ (l : 256 ≤ j). block 256 j s2 l h)

below_4 : (j : ℕ) → j < 512 → Node j
below_4 j h = either j 384 (λ (l : j < 384). below_3 j l) (λ (l : 384 ≤ j). block 384 j s3 l h)

below_5 : (j : ℕ) → j < 640 → Node j
below_5 j h = either j 512 (λ (l : j < 512). below_4 j l) (λ (l : 512 ≤ j). block 512 j s4 l h)

below_6 : (j : ℕ) → j < 768 → Node j
below_6 j h = either j 640 (λ (l : j < 640). below_5 j l) (λ (l : 640 ≤ j). block 640 j s5 l h)

below_7 : (j : ℕ) → j < 896 → Node j
below_7 j h = either j 768 (λ (l : j < 768). below_6 j l) (λ (l : 768 ≤ j). block 768 j s6 l h)

below_8 : (j : ℕ) → j < 1024 → Node j
below_8 j h = either j 896 (λ (l : j < 896). below_7 j l) (λ (l : 896 ≤ j). block 896 j s7 l h)

below_9 : (j : ℕ) → j < 1152 → Node j
below_9 j h = either j 1024 (λ (l : j < 1024). below_8 j l) (λ (l : 1024 ≤ j). block 1024 j s8 l h)

below_10 : (j : ℕ) → j < 1280 → Node j
below_10 j h = either j 1152 (λ (l : j < 1152). below_9 j l) (λ (l : 1152 ≤ j). block 1152 j s9 l h)

below_11 : (j : ℕ) → j < 1408 → Node j
below_11 j h = either j 1280 (λ (l : j < 1280). below_10 j l) (λ (l : 1280 ≤ j). block 1280 j s10 l h)

below_12 : (j : ℕ) → j < 1536 → Node j
below_12 j h = either j 1408 (λ (l : j < 1408). below_11 j l) (λ (l : 1408 ≤ j). block 1408 j s11 l h)

below_13 : (j : ℕ) → j < 1664 → Node j
below_13 j h = either j 1536 (λ (l : j < 1536). below_12 j l) (λ (l : 1536 ≤ j). block 1536 j s12 l h)

below_14 : (j : ℕ) → j < 1792 → Node j
below_14 j h = either j 1664 (λ (l : j < 1664). below_13 j l) (λ (l : 1664 ≤ j). block 1664 j s13 l h)

pub node : (j : ℕ) → j < 1792 → Node j
node j h = below_14 j h

-- the angle is the polynomial's, cut
pub angle_hi : (j : ℕ) → j < 1792 → angle_at j * K + eval ups (j * cell) ≤ j * cell * K + eval downs (j * cell)
unfolding angle_at angle_of
angle_hi j h = go (j * cell * K + eval downs (j * cell)) (eval ups (j * cell)) K (node j h).more
  where
    go : (a u k : ℕ) → u ≤ a → (a - u) / k * k + u ≤ a
    go a u k l = omega (arith, div-mul-le_self (a - u) k)

pub K-pos : 0 < K
unfolding K D
K-pos = lit< tt

pub angle_lo : (j : ℕ) → j < 1792 → j * cell * K + eval downs (j * cell) ≤ angle_at j * K + eval ups (j * cell) + K
unfolding angle_at angle_of
angle_lo j h = go (j * cell * K + eval downs (j * cell)) (eval ups (j * cell)) K K-pos (node j h).more
  where
    go : (a u k : ℕ) → 0 < k → u ≤ a → a ≤ (a - u) / k * k + u + k
    go a u k p l = omega (arith, lt-div-mul-add {a = a - u} {b = k} p)

pub zero_angle : angle_at 0 ≡ 0
unfolding angle_at angle_of cell eval ups downs spread scale evens odds A0 A1 A2 A3 A4 A5 A6 A7 A8 A9 A10 K D
zero_angle = refl
