-- A cast keeps what is in the integer's range and takes the rest to the nearest end: the comparisons that the code
-- makes are comparisons of fractions. Assumes nothing.
use Rattle.std.proofs.Common.{◌≡◌, ℕ, ◌+◌, ◌-◌, ◌*◌, ◌/◌, ◌^◌, ◌<◌, ◌≤◌, min, Bool, true, false, not, ◌&&◌, ◌||◌, T, eqb, ltb, sym, refl, subst, le_trans, mul-le-mul_right, div-lt_iff_lt-mul, mul-pos, le-div_iff_mul-le, arith, lit<, lit≤, eqb→eq, ltb→lt, lt→ltb, nltb→le, pow_pos, pow_mono}
use lib.Ieee.{Float, nan, inf, fin, up, down, lt, eq, le, to_unsigned}
use lib.Ieee.Fits.{down_pos, eq→eqb, and_r}
use Rattle.std.proofs.num.Truncating.{one, two_to}

-- the two tests that `le` makes of sizes: a below b, or p and q equal, which say the same of a and b
at_most : (a b p q : ℕ) → (p ≡ q → a ≡ b) → T (ltb a b || (eqb p q && true)) → a ≤ b
at_most a b p q i = go (ltb a b) (eqb p q) (ltb→lt a b) (λ (t : T (eqb p q)). i (eqb→eq p q t))
  where
    go : (u v : Bool) → (T u → a < b) → (T v → a ≡ b) → T (u || (v && true)) → a ≤ b
    go true v f g t = let h = f tt in omega arith
    go false true f g t = let h = g tt in omega arith
    go false false f g t = absurd t

above : (a b p q : ℕ) → (a ≡ b → p ≡ q) → T (not (ltb a b || (eqb p q && true))) → b < a
above a b p q i = go (ltb a b) (eqb p q) (nltb→le a b) (λ (e : a ≡ b). eq→eqb (i e))
  where
    go : (u v : Bool) → (T (not u) → b ≤ a) → (a ≡ b → T v) → T (not (u || (v && true))) → b < a
    go true v f g t = absurd t
    go false true f g t = absurd t
    go false false f g t = let h = f tt in let k : a ≡ b → ⊥ = g in omega arith

-- of two that are not negative, and of two that are
pub le_yes : (a b : ℕ) → T (ltb a b || (eqb a b && true)) → a ≤ b
le_yes a b = at_most a b a b (λ (e : a ≡ b). e)

pub le_no : (a b : ℕ) → T (not (ltb a b || (eqb a b && true))) → b < a
le_no a b = above a b a b (λ (e : a ≡ b). e)

pub le_yes' : (p q : ℕ) → T (ltb q p || (eqb p q && true)) → q ≤ p
le_yes' p q = at_most q p p q sym

pub le_no' : (p q : ℕ) → T (not (ltb q p || (eqb p q && true))) → p < q
le_no' p q = above q p p q sym

-- comparisons with zero
pub none : (p d : ℕ) → p < 0 * d → ⊥
none p d h = omega arith

pub no_more : (n d : ℕ) → n * 1 ≤ 0 * d → n ≡ 0
no_more n d h = omega arith

pub no_less : (n d : ℕ) → n * 1 + 0 * d ≤ 0 → n ≡ 0
no_less n d h = omega arith

-- a number above zero is not below a negative one
pub not_zero : (a : ℕ) (q : Bool) → 0 < a → T (q && eqb a 0) → ⊥
not_zero a q h t = go (eqb→eq a 0 (and_r q (eqb a 0) t))
  where
    go : a ≡ 0 → ⊥
    go e = omega arith

-- ---- at 2 ^ w or above
full : (n d c : ℕ) → 0 < d → 1 * c * d ≤ n * 1 → min (n / d) (c - 1) ≡ c - 1
full n d c D h = go (n / d) ((le-div_iff_mul-le D).1 (omega arith))
  where
    go : (q : ℕ) → c ≤ q → min q (c - 1) ≡ c - 1
    go q k = omega arith

pub over : (w : ℕ) (x : Float) → T (le (two_to w) x) → to_unsigned w x ≡ 2 ^ w - 1
unfolding le lt eq to_unsigned
over w nan h = absurd h
over w (inf true) h = absurd h
over w (inf false) h = refl
over w (fin true m e) h = absurd (not_zero (1 * 2 ^ w * down e) (eqb (1 * 2 ^ w * down e) (m * up e * 1)) (mul-pos (mul-pos (lit< tt) (pow_pos w)) (down_pos e)) h)
over w (fin false m e) h = full (m * up e) (down e) (2 ^ w) (down_pos e) (le_yes (1 * 2 ^ w * down e) (m * up e * 1) h)

-- ---- from 1 to 2 ^ w
module _ (n d c big : ℕ) (D : 0 < d) (hi : n * 1 < 1 * c * d) (cb : c ≤ big) where
  low : n * 1 < 1 * big * d
  low = omega (arith, mul-le-mul_right d cb)

  quot : n / d < c
  quot = (div-lt_iff_lt-mul D).1 (omega arith)

  same : (b : ℕ) → c ≤ b → min (n / d) (b - 1) ≡ min (n / d) (c - 1)
  same b h = omega (arith, quot)

  is : min (n / d) (big - 1) < c
  is = omega (arith, quot)

abbrev pub Inside : ℕ → Float → Type 0
Inside w x = T (lt x (two_to 63)) × (to_unsigned 64 x < 2 ^ w) × (to_unsigned 64 x ≡ to_unsigned w x)

pub inside : (w : ℕ) (x : Float) → w ≤ 63 → T (le one x) → T (not (le (two_to w) x)) → Inside w x
unfolding le lt eq to_unsigned
inside w nan h a b = absurd a
inside w (inf true) h a b = absurd a
inside w (inf false) h a b = absurd b
inside w (fin true m e) h a b = absurd (not_zero (1 * down e) (eqb (1 * down e) (m * up e * 1)) (mul-pos (lit< tt) (down_pos e)) a)
inside w (fin false m e) h a b =
    let n = m * up e in
    let d = down e in
    let D = down_pos e in
    let hi : n * 1 < 1 * 2 ^ w * d = le_no (1 * 2 ^ w * d) (n * 1) b in
    let p : 2 ^ w ≤ 2 ^ 63 = pow_mono h in
    let q : 2 ^ w ≤ 2 ^ 64 = le_trans p (lit≤ tt) in
    (lt→ltb (n * 1) (1 * 2 ^ 63 * d) (low n d (2 ^ w) (2 ^ 63) D hi p), is n d (2 ^ w) (2 ^ 64) D hi q, same n d (2 ^ w) (2 ^ 64) D hi q (2 ^ 64) q)

-- a test's answer as a fact
pub yes : {b : Bool} → b ≡ true → T b
yes h = subst T (sym h) tt

pub no : {b : Bool} → b ≡ false → T (not b)
no h = subst (λ (a : Bool). T (not a)) (sym h) tt
