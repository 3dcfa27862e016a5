-- The rule at a rest below 0: what is taken off has the other sign. Assumes nothing.
use Rattle.std.proofs.Common.{◌≡◌, ℕ, ◌+◌, ◌-◌, ◌*◌, ◌<◌, ◌≤◌, Bool, true, false, cond, not, ◌&&◌, T, eqb, ltb, sym, refl, ap, ◌∙◌, subst, mul_comm, lt_of_mul-lt-mul_right, mul-lt-mul_of_pos_right, mul-pos, arith, lt→ltb}
use native.Mathlib.Nat.{mul-sub}
use lib.Ieee.{Float, nan, inf, fin, binary32, of_bits, up, down, unlike, round, sum, add, sub, mul, neg}
use lib.Ieee.Fits.{down_pos}
use lib.Ieee.Scale.{round_same}
use Rattle.floats.proofs.Negated.{neg_round}
use Rattle.angle.specs.Meaning.{D}
use Rattle.angle.specs.Arctangent.{less_of, even_of, odd_of, from_of}
use Rattle.angle.proofs.arctangent.Ops.{Val, D-pos, sub_is}

turned : (s t : Bool) → unlike (not s) t ≡ not (unlike s t)
turned true true = refl
turned true false = refl
turned false true = refl
turned false false = refl

neg-cond : (b : Bool) (x y : Float) → neg (cond b x y) ≡ cond b (neg x) (neg y)
neg-cond true x y = refl
neg-cond false x y = refl

pub mul-neg : (x y : Float) → mul binary32 (neg x) y ≡ neg (mul binary32 x y)
unfolding mul neg
mul-neg nan y = refl
mul-neg (inf s) nan = refl
mul-neg (inf s) (inf t) = ap inf (turned s t)
mul-neg (inf s) (fin t n d) = ap (λ (b : Bool). cond (eqb n 0) nan (inf b)) (turned s t) ∙ sym (neg-cond (eqb n 0) nan (inf (unlike s t)))
mul-neg (fin s m e) nan = refl
mul-neg (fin s m e) (inf t) = ap (λ (b : Bool). cond (eqb m 0) nan (inf b)) (turned s t) ∙ sym (neg-cond (eqb m 0) nan (inf (unlike s t)))
mul-neg (fin s m e) (fin t n d) = ap (λ (b : Bool). round binary32 b (m * up e * (n * up d)) (down e * down d)) (turned s t) ∙ sym (neg_round (unlike s t) (m * up e * (n * up d)) (down e * down d))

same : (s t : Bool) → unlike (not s) (not t) ≡ unlike s t
same true true = refl
same true false = refl
same false true = refl
same false false = refl

square_neg : (x : Float) → mul binary32 (neg x) (neg x) ≡ mul binary32 x x
unfolding mul neg
square_neg nan = refl
square_neg (inf s) = ap inf (same s s)
square_neg (fin s m e) = ap (λ (b : Bool). round binary32 b (m * up e * (m * up e)) (down e * down e)) (same s s)

-- for every float
pub less_neg : (x : Float) → less_of (neg x) ≡ neg (less_of x)
unfolding less_of
less_neg x =
    ap (λ (z : Float). mul binary32 (neg x) (sub binary32 (even_of z (mul binary32 z z)) (odd_of (mul binary32 z z)))) (square_neg x)
    ∙ mul-neg x (sub binary32 (even_of (mul binary32 x x) (mul binary32 (mul binary32 x x) (mul binary32 x x))) (odd_of (mul binary32 (mul binary32 x x) (mul binary32 x x))))

-- ---- two sums
both_neg : (x y : Float) (X Y : ℕ) → Val x X → Val y Y → sub binary32 (neg x) y ≡ neg (add binary32 x y)
unfolding sub add neg sum
both_neg nan y X Y v w = absurd v
both_neg (inf s) y X Y v w = absurd v
both_neg (fin s m e) nan X Y v w = absurd w
both_neg (fin s m e) (inf t) X Y v w = absurd w
both_neg (fin true m e) (fin t n d) X Y v w = absurd (subst (λ (b : Bool). T b) v.0 tt)
both_neg (fin false m e) (fin true n d) X Y v w = absurd (subst (λ (b : Bool). T b) w.0 tt)
both_neg (fin false m e) (fin false n d) X Y v w = sym (neg_round false (m * up e * down d + n * up d * down e) (down e * down d))

under : (y x : Float) (Y X : ℕ) → Val y Y → Val x X → Y < X → sub binary32 (neg y) (neg x) ≡ round binary32 false (X - Y) D
unfolding sub add neg sum
under nan x Y X v w h = absurd v
under (inf s) x Y X v w h = absurd v
under (fin s m e) nan Y X v w h = absurd w
under (fin s m e) (inf t) Y X v w h = absurd w
under (fin true m e) (fin t n d) Y X v w h = absurd (subst (λ (b : Bool). T b) v.0 tt)
under (fin false m e) (fin true n d) Y X v w h = absurd (subst (λ (b : Bool). T b) w.0 tt)
under (fin false m e) (fin false n d) Y X v w h =
    pick (m * up e * down d) (n * up d * down e) (down e * down d) (order (m * up e) (down e) (n * up d) (down d) D (down_pos e) (down_pos d) v.1 w.1)
    ∙ round_same binary32 false (n * up d * down e - m * up e * down d) (down e * down d) (X - Y) D (mul-pos (down_pos e) (down_pos d)) D-pos
    (cross (m * up e) (down e) (n * up d) (down d) D v.1 w.1)
  where
    pick : (a b c : ℕ) → a < b → cond (ltb a b) (round binary32 false (b - a) c) (round binary32 (true && ltb b a) (a - b) c) ≡ round binary32 false (b - a) c
    pick a b c h = by (ltb a b) (lt→ltb a b h)
      where
        by : (t : Bool) → T t → cond t (round binary32 false (b - a) c) (round binary32 (true && ltb b a) (a - b) c) ≡ round binary32 false (b - a) c
        by true k = refl
        by false k = absurd k

    both : (a p b q D : ℕ) → a * D ≡ Y * p → b * D ≡ X * q → (D * (a * q) ≡ p * q * Y) × (D * (b * p) ≡ p * q * X)
    both a p b q D f g = (omega (arith, ap (λ (z : ℕ). z * q) f), omega (arith, ap (λ (z : ℕ). z * p) g))

    order : (a p b q D : ℕ) → 0 < p → 0 < q → a * D ≡ Y * p → b * D ≡ X * q → a * q < b * p
    order a p b q D p0 q0 f g =
        lt_of_mul-lt-mul_right D
        (less' (a * q * D) (b * p * D) (p * q * Y) (p * q * X) (omega (arith, ap (λ (z : ℕ). z * q) f)) (omega (arith, ap (λ (z : ℕ). z * p) g)) (mul-lt (p * q) (mul-pos p0 q0)))
      where
        mul-lt : (k : ℕ) → 0 < k → k * Y < k * X
        mul-lt k k0 = subst (λ (z : ℕ). z < k * X) (mul_comm Y k) (subst (λ (z : ℕ). Y * k < z) (mul_comm X k) (mul-lt-mul_of_pos_right h k0))

        less' : (a b c d : ℕ) → a ≡ c → b ≡ d → c < d → a < b
        less' a b c d e f g = omega arith

    cross : (a p b q D : ℕ) → a * D ≡ Y * p → b * D ≡ X * q → (b * p - a * q) * D ≡ (X - Y) * (p * q)
    cross a p b q D f g =
        let t = both a p b q D f g in
        mul_comm (b * p - a * q) D ∙ mul-sub D (b * p) (a * q) ∙ ap (λ (z : ℕ). z - D * (a * q)) t.1 ∙ ap (λ (z : ℕ). p * q * X - z) t.0 ∙ sym (mul-sub (p * q) X Y) ∙ mul_comm (p * q) (X - Y)

turned_round : (y x : Float) (Y X : ℕ) → Val y Y → Val x X → Y < X → sub binary32 (neg y) (neg x) ≡ sub binary32 x y
turned_round y x Y X vy vx h = go y x vy vx ∙ sym (sub_is x y X Y vx vy (weak Y X h))
  where
    weak : (a b : ℕ) → a < b → a ≤ b
    weak a b h = omega arith

    go : (y x : Float) → Val y Y → Val x X → sub binary32 (neg y) (neg x) ≡ round binary32 false (X - Y) D
    go y x vy vx = under y x Y X vy vx h

-- the rest -p from a known angle
pub from-neg : (high low : ℕ) (p : Float) (P l B : ℕ) → Val p P → Val (less_of p) l → Val (of_bits binary32 low) B → (C : ℕ) → Val (add binary32 (less_of p) (of_bits binary32 low)) C → C < P
    → from_of high low (neg p) ≡ sub binary32 (of_bits binary32 high) (sub binary32 p (add binary32 (less_of p) (of_bits binary32 low)))
unfolding from_of
from-neg high low p P l B vp vl vb C vc h =
    ap (λ (z : Float). sub binary32 (of_bits binary32 high) (sub binary32 (sub binary32 z (of_bits binary32 low)) (neg p))) (less_neg p)
    ∙ ap (λ (z : Float). sub binary32 (of_bits binary32 high) (sub binary32 z (neg p))) (both_neg (less_of p) (of_bits binary32 low) l B vl vb)
    ∙ ap (λ (z : Float). sub binary32 (of_bits binary32 high) z) (turned_round (add binary32 (less_of p) (of_bits binary32 low)) p C P vc vp h)
