-- A result of f32 arithmetic is at most a whole number that the exact one is at most: that number is an f32 itself. Assumes nothing.
use Rattle.std.proofs.Common.{◌≡◌, ℕ, zero, suc, ◌+◌, ◌-◌, ◌*◌, ◌^◌, ◌<◌, ◌≤◌, Bool, true, false, cond, ◌&&◌, T, eqb, ltb, ℤ, pos, negsuc, nat_abs, sym, ap, ◌∙◌, subst, le_trans, lt_irrefl, mul-le-mul_right, mul-le-mul, mul-pos, zero-mul, le_of_mul-le-mul_right, arith, lit<, eqb→eq}
use mathlib.Core.Bool.{beq}
use lib.Ieee.{Float, nan, inf, fin, binary32, up, down, round, neg, odd, units, unlike, mul, add, div, sum, of_int, lt, eq, le}
use lib.Ieee.Fits.{down_pos, round_is}
use lib.Ieee.Exact.{HasValue}
use lib.Ieee.Back.{round_whole}
use lib.Ieee.Order.{round_mono, drop, kept}
use Rattle.floats.proofs.Range.{le_yes}
use Rattle.floats.proofs.Negated.{neg_round}

-- x is a number, K in size at most
abbrev pub AtMost : Float → ℕ → Type 0
AtMost nan K = ⊥
AtMost (inf s) K = ⊥
AtMost (fin s m e) K = m * up e ≤ K * down e

minus : (x : Float) (K : ℕ) → AtMost x K → AtMost (neg x) K
unfolding neg
minus nan K h = h
minus (inf s) K h = h
minus (fin s m e) K h = h

-- ---- rounding
plus : (m : ℕ) (e : ℤ) (y : Float) (K : ℕ) → HasValue y false K 1 → T (le (fin false m e) y) → m * up e ≤ K * down e
unfolding le lt eq
plus m e nan K v t = absurd v
plus m e (inf s) K v t = absurd v
plus m e (fin true n o) K v t = absurd (subst T v.0 tt)
plus m e (fin false n o) K v t = le_of_mul-le-mul_right {k = down o} (go (m * up e) (down e) (n * up o) (down o) v.1 (le_yes (m * up e * down o) (n * up o * down e) t)) (down_pos o)
  where
    go : (a d b f : ℕ) → b * 1 ≡ K * f → a * f ≤ b * d → a * f ≤ K * d * f
    go a d b f e h = omega (arith, ap (λ (z : ℕ). z * d) e)

not_inf : (y : Float) (K : ℕ) → HasValue y false K 1 → T (le (inf false) y) → ⊥
unfolding le lt eq
not_inf nan K v t = v
not_inf (inf s) K v t = v
not_inf (fin s n o) K v t = t

round_plus : (a c K : ℕ) → 0 < c → a ≤ K * c → K ≤ 2 ^ 24 → AtMost (round binary32 false a c) K
round_plus a c K C h k =
    subst (λ (z : Float). T (le z y) → AtMost z K) (sym (round_is binary32 false a c)) (by_units (kept 24 (a * 2 ^ 149) c) (drop 24 (a * 2 ^ 149) c))
    (round_mono binary32 a c K 1 C (lit< tt) (one a (K * c) h))
  where
    y : Float
    y = round binary32 false K 1

    v : HasValue y false K 1
    v = round_whole binary32 false K k

    one : (a b : ℕ) → a ≤ b → a * 1 ≤ b
    one a b h = omega arith

    by_odd : (q j : ℕ) → T (le (odd 25 false q j 149) y) → AtMost (odd 25 false q j 149) K
    by_odd zero j t = unfold odd in plus 0 (pos 0) y K v t
    by_odd (suc q) j t = unfold odd in plus _ _ y K v t

    by_units : (q j : ℕ) → T (le (units binary32 false q j) y) → AtMost (units binary32 false q j) K
    by_units q j = unfold units in go (ltb (q * 2 ^ j) (2 ^ (149 + 128)))
      where
        go : (b : Bool) → T (le (cond b (odd 25 false q j 149) (inf false)) y) → AtMost (cond b (odd 25 false q j 149) (inf false)) K
        go true t = by_odd q j t
        go false t = not_inf y K v t

pub round_most : (s : Bool) (a c K : ℕ) → 0 < c → a ≤ K * c → K ≤ 2 ^ 24 → AtMost (round binary32 s a c) K
round_most false a c K C h k = round_plus a c K C h k
round_most true a c K C h k = subst (λ (z : Float). AtMost z K) (neg_round false a c) (minus (round binary32 false a c) K (round_plus a c K C h k))

-- ---- arithmetic
pub int_most : (z : ℤ) (K : ℕ) → nat_abs z ≤ K → K ≤ 2 ^ 24 → AtMost (of_int binary32 z) K
unfolding of_int
int_most (pos n) K h k = round_most false n 1 K (lit< tt) (omega arith) k
int_most (negsuc n) K h k = round_most true (suc n) 1 K (lit< tt) (omega arith) k

pub mul_most : (x y : Float) (A B : ℕ) → AtMost x A → AtMost y B → A * B ≤ 2 ^ 24 → AtMost (mul binary32 x y) (A * B)
unfolding mul
mul_most nan y A B a b k = absurd a
mul_most (inf s) y A B a b k = absurd a
mul_most (fin s m e) nan A B a b k = absurd b
mul_most (fin s m e) (inf t) A B a b k = absurd b
mul_most (fin s m e) (fin t n o) A B a b k =
    round_most (unlike s t) (m * up e * (n * up o)) (down e * down o) (A * B) (mul-pos (down_pos e) (down_pos o)) (go (m * up e) (n * up o) (down e) (down o) (mul-le-mul a b)) k
  where
    go : (a b d f : ℕ) → a * b ≤ A * d * (B * f) → a * b ≤ A * B * (d * f)
    go a b d f h = omega arith

-- x is at most A for each of the i, and y is n, which is i at least
pub div_most : (x y : Float) (A i n : ℕ) → AtMost x (A * i) → HasValue y false n 1 → i ≤ n → 0 < n → A ≤ 2 ^ 24 → AtMost (div binary32 x y) A
unfolding div
div_most nan y A i n a v l p k = absurd a
div_most (inf s) y A i n a v l p k = absurd a
div_most (fin s m e) nan A i n a v l p k = absurd v
div_most (fin s m e) (inf t) A i n a v l p k = absurd v
div_most (fin s m e) (fin t q o) A i n a v l p k = by_test (eqb q 0) (eqb→eq q 0)
  where
    some : (q : ℕ) → q * up o * 1 ≡ n * down o → 0 < q * up o
    some q f = omega (arith, mul-pos p (down_pos o))

    none : (z : ℕ) → z ≡ 0 → 0 < z * up o → ⊥
    none z f g = lt_irrefl 0 (subst (λ (x : ℕ). 0 < x) (ap (λ (x : ℕ). x * up o) f ∙ zero-mul (up o)) g)

    go : (a d b f : ℕ) → a ≤ A * i * d → b * 1 ≡ n * f → a * f ≤ A * (b * d)
    go a d b f h e = omega (arith, mul-le-mul_right f h, mul-le-mul_right (A * d * f) l, ap (λ (z : ℕ). A * d * z) e)

    by_test : (b : Bool) → (T b → q ≡ 0)
        → AtMost (cond b (cond (eqb m 0) nan (inf (unlike s t))) (round binary32 (unlike s t) (m * up e * down o) (q * up o * down e))) A
    by_test true f = absurd (none q (f tt) (some q v.1))
    by_test false f = round_most (unlike s t) (m * up e * down o) (q * up o * down e) A (mul-pos (some q v.1) (down_pos e)) (go (m * up e) (down e) (q * up o) (down o) a v.1) k

pub add_most : (x y : Float) (A B : ℕ) → AtMost x A → AtMost y B → A + B ≤ 2 ^ 24 → AtMost (add binary32 x y) (A + B)
unfolding add sum
add_most nan y A B a b k = absurd a
add_most (inf s) y A B a b k = absurd a
add_most (fin s m e) nan A B a b k = absurd b
add_most (fin s m e) (inf t) A B a b k = absurd b
add_most (fin s m e) (fin t n o) A B a b k = go (beq s t) (ltb p q)
  where
    p : ℕ
    p = m * up e * down o

    q : ℕ
    q = n * up o * down e

    c : ℕ
    c = down e * down o

    both : (p q d f : ℕ) → p ≤ A * d * f → q ≤ B * f * d → p + q ≤ (A + B) * (d * f)
    both p q d f g h = omega arith

    all : p + q ≤ (A + B) * c
    all = both p q (down e) (down o) (mul-le-mul_right (down o) a) (mul-le-mul_right (down e) b)

    made : (r : Bool) (w : ℕ) → w ≤ p + q → AtMost (round binary32 r w c) (A + B)
    made r w h = round_most r w c (A + B) (mul-pos (down_pos e) (down_pos o)) (le_trans h all) k

    go : (g h : Bool) → AtMost (cond g (round binary32 s (p + q) c) (cond h (round binary32 t (q - p) c) (round binary32 (s && ltb q p) (p - q) c))) (A + B)
    go true h = made s (p + q) (omega arith)
    go false true = made t (q - p) (omega arith)
    go false false = made (s && ltb q p) (p - q) (omega arith)
