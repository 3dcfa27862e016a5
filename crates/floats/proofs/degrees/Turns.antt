-- The remainder by 360 and its sign: below 360 in size it is the number itself, and that of -x has the other sign.
-- Assumes nothing.
use Rattle.std.proofs.Common.{◌≡◌, ℕ, zero, suc, ◌+◌, ◌-◌, ◌*◌, ◌/◌, ◌%◌, ◌^◌, ◌<◌, ◌≤◌, Bool, true, false, cond, not, ◌&&◌, T, eqb, ltb, ℤ, pos, sym, refl, ap, ◌∙◌, subst, mod-eq_of_lt, arith, lit≤, eqb→eq, ltb→lt, nltb→le, le-ltb, lt-ltb}
use native.Mathlib.Nat.{add-mul-mod_self_right}
use lib.Count.{count_trailing_zeros}
use lib.Ieee.{Float, nan, inf, fin, binary32, hid, top, up, down, minus, size, odd, units, round, neg, add, sub, sum, mul, rem, lt, eq, le, fits, to_bits, of_bits}
use lib.Ieee.Fits.{down_pos, round_is, round-fits, and_l, eq→eqb}
use lib.Ieee.Bits.{of_bits-to_bits}
use lib.Ieee.Exact.{HasValue}
use lib.Ieee.Nearest.{div_same}
use lib.Ieee.Order.{drop, kept as kept'}
use Rattle.floats.specs.Size.{plus_zero}
use Rattle.floats.specs.Degrees.{turn, rem_euclid360}
use Rattle.floats.proofs.Range.{no, none, le_no}
use Rattle.floats.proofs.Powers.{times_pow}
use Rattle.floats.proofs.Negated.{neg_round}

-- ---- what is rounded with plus is not below zero
plus : (m : ℕ) (e : ℤ) → lt (fin false m e) plus_zero ≡ false
unfolding lt
plus m e = le-ltb (m * up e * 1) (0 * 1 * down e) (least (m * up e * 1) (down e))
  where
    least : (n d : ℕ) → 0 * 1 * d ≤ n
    least n d = omega arith

odd_plus : (d q k l : ℕ) → lt (odd d false q k l) plus_zero ≡ false
unfolding odd lt
odd_plus d zero k l = refl
odd_plus d (suc q) k l = let t = count_trailing_zeros d (suc q) in plus (suc q / 2 ^ t) (minus (k + t) l)

units_plus : (q k : ℕ) → lt (units binary32 false q k) plus_zero ≡ false
unfolding units lt
units_plus q k = go (ltb (q * 2 ^ k) (2 ^ (149 + 128)))
  where
    go : (b : Bool) → lt (cond b (odd 25 false q k 149) (inf false)) plus_zero ≡ false
    go true = odd_plus 25 q k 149
    go false = refl

round_plus : (a c : ℕ) → lt (round binary32 false a c) plus_zero ≡ false
round_plus a c = ap (λ (z : Float). lt z plus_zero) (round_is binary32 false a c) ∙ units_plus (kept' 24 (a * 2 ^ 149) c) (drop 24 (a * 2 ^ 149) c)

pub rem_neg : (x : Float) → rem binary32 x turn ≡ neg (rem binary32 (neg x) turn)
unfolding rem neg
rem_neg nan = refl
rem_neg (inf s) = refl
rem_neg (fin true m e) = sym (neg_round false (m * up e * 1 % (45 * 8 * down e)) (down e * 1))
rem_neg (fin false m e) = sym (neg_round true (m * up e * 1 % (45 * 8 * down e)) (down e * 1))

-- ---- an f32 is its own rounding
same_bits : (s : Bool) (m : ℕ) (e : ℤ) (n : ℕ) (d : ℤ) → n * up d * (down e * 1) ≡ m * up e * 1 * down d → to_bits binary32 (fin s n d) ≡ to_bits binary32 (fin s m e)
unfolding to_bits
same_bits s m e n d h =
    ap (λ (z : ℕ). cond s (top binary32) 0 + (size z - 24) * hid binary32 + z / 2 ^ (size z - 24))
    (div_same (n * up d * 2 ^ 149) (down d) (m * up e * 2 ^ 149) (down e) (down_pos d) (down_pos e) (cross (n * up d) (down d) (m * up e) (down e) (2 ^ 149) h))
  where
    cross : (a c b d p : ℕ) → a * (d * 1) ≡ b * 1 * c → a * p * d ≡ b * p * c
    cross a c b d p h = omega (arith, ap (λ (x : ℕ). x * p) h)

unique : (y : Float) (s : Bool) (m : ℕ) (e : ℤ) → T (fits binary32 (fin s m e)) → T (fits binary32 y) → HasValue y s (m * up e * 1) (down e * 1) → y ≡ fin s m e
unique nan s m e f g v = absurd v
unique (inf t) s m e f g v = absurd v
unique (fin t n d) s m e f g v =
    ap (λ (b : Bool). fin b n d) v.0
    ∙ sym (of_bits-to_bits binary32 (fin s n d) (subst (λ (b : Bool). T (fits binary32 (fin b n d))) v.0 g))
    ∙ ap (of_bits binary32) (same_bits s m e n d v.1)
    ∙ of_bits-to_bits binary32 (fin s m e) f

own : (s : Bool) (m : ℕ) (e : ℤ) → T (fits binary32 (fin s m e)) → m * up e < 2 ^ 63 * down e → round binary32 s (m * up e * 1) (down e * 1) ≡ fin s m e
unfolding mul
own true m e f h = unique (round binary32 true (m * up e * 1) (down e * 1)) true m e f (round-fits binary32 true (m * up e * 1) (down e * 1)) (times_pow binary32 0 true m e f h (lit≤ tt))
own false m e f h = unique (round binary32 false (m * up e * 1) (down e * 1)) false m e f (round-fits binary32 false (m * up e * 1) (down e * 1)) (times_pow binary32 0 false m e f h (lit≤ tt))

small : (s : Bool) (m : ℕ) (e : ℤ) → T (fits binary32 (fin s m e)) → m * up e * 1 < 45 * 8 * down e → rem binary32 (fin s m e) turn ≡ fin s m e
unfolding rem
small s m e f h = ap (λ (x : ℕ). round binary32 s x (down e * 1)) (mod-eq_of_lt h) ∙ own s m e f (less (m * up e) (down e) h)
  where
    less : (n d : ℕ) → n * 1 < 360 * d → n < 9223372036854775808 * d
    less n d h = omega arith

-- ---- the definition, by the remainder's sign
pub kept : (x r : Float) → rem binary32 x turn ≡ r → lt r plus_zero ≡ false → r ≡ rem_euclid360 x
unfolding rem_euclid360
kept x r e h = cc

pub raised : (x r : Float) → rem binary32 x turn ≡ r → lt r plus_zero ≡ true → add binary32 r turn ≡ rem_euclid360 x
unfolding rem_euclid360
raised x r e h = cc

-- ---- below 360 in size
pub within : (x : Float) → T (fits binary32 x) → T (le plus_zero x) → T (lt x turn) → x ≡ rem_euclid360 x
unfolding le lt eq
within nan f a b = absurd a
within (inf true) f a b = absurd a
within (inf false) f a b = absurd b
within (fin false m e) f a b = kept (fin false m e) (fin false m e) (small false m e f (ltb→lt (m * up e * 1) (45 * 8 * down e) b)) (plus m e)
within (fin true m e) f a b =
    let z : 0 * 1 * down e ≡ m * up e * 1 = eqb→eq (0 * 1 * down e) (m * up e * 1) (and_l (eqb (0 * 1 * down e) (m * up e * 1)) (eqb (0 * 1 * down e) 0) a) in
    kept (fin true m e) (fin true m e) (small true m e f (low (m * up e) (down e) (down_pos e) z)) (le-ltb 0 (m * up e * 1 + 0 * 1 * down e) (nothing (m * up e) (down e) z))
  where
    low : (n d : ℕ) → 0 < d → 0 * 1 * d ≡ n * 1 → n * 1 < 360 * d
    low n d D z = omega arith

    nothing : (n d : ℕ) → 0 * 1 * d ≡ n * 1 → n * 1 + 0 * 1 * d ≤ 0
    nothing n d z = omega arith

no_plus : (m : ℕ) (e : ℤ) → T (not (le plus_zero (fin false m e))) → ⊥
unfolding le lt eq
no_plus m e a = none (m * up e * 1) (down e) (le_no (0 * 1 * down e) (m * up e * 1) a)

pub below : (x : Float) → T (fits binary32 x) → T (not (le plus_zero x)) → T (lt (fin true 45 (pos 3)) x) → add binary32 x turn ≡ rem_euclid360 x
unfolding le lt eq
below nan f a b = absurd b
below (inf true) f a b = absurd b
below (inf false) f a b = absurd a
below (fin false m e) f a b = absurd (no_plus m e a)
below (fin true m e) f a b = raised (fin true m e) (fin true m e) (small true m e f (ltb→lt (m * up e * 1) (45 * 8 * down e) b)) (lt-ltb 0 (m * up e * 1 + 0 * 1 * down e) (some (m * up e) (down e) a))
  where
    some : (n d : ℕ) → T (not (eqb (0 * 1 * d) (n * 1) && eqb (0 * 1 * d) 0)) → 0 < n * 1 + 0 * 1 * d
    some n d = go (eqb (0 * 1 * d) (n * 1)) (eqb (0 * 1 * d) 0) (λ (z : 0 * 1 * d ≡ n * 1). eq→eqb z) (eq→eqb none_of)
      where
        none_of : 0 * 1 * d ≡ 0
        none_of = omega arith

        go : (u v : Bool) → (0 * 1 * d ≡ n * 1 → T u) → T v → T (not (u && v)) → 0 < n * 1 + 0 * 1 * d
        go true true f g t = absurd t
        go true false f g t = absurd g
        go false v f g t = let k : 0 * 1 * d ≡ n * 1 → ⊥ = f in omega arith

-- ---- from 360 on
pub beyond : (x : Float) → T (le plus_zero x) → lt x turn ≡ false → rem binary32 x turn ≡ rem_euclid360 x
unfolding le lt eq rem
beyond nan a b = absurd a
beyond (inf true) a b = absurd a
beyond (inf false) a b = kept (inf false) nan refl refl
beyond (fin false m e) a b = kept (fin false m e) (rem binary32 (fin false m e) turn) refl (round_plus (m * up e * 1 % (45 * 8 * down e)) (down e * 1))
beyond (fin true m e) a b = absurd (never (m * up e) (down e) (down_pos e) (nltb→le 0 (m * up e * 1 + 45 * 8 * down e) (no b)))
  where
    never : (n d : ℕ) → 0 < d → n * 1 + 360 * d ≤ 0 → ⊥
    never n d D h = omega arith

pub turned : (x : Float) → T (not (le plus_zero x)) → lt (fin true 45 (pos 3)) x ≡ false → lt (neg x) turn ≡ false
unfolding le lt eq neg
turned nan a b = refl
turned (inf true) a b = refl
turned (inf false) a b = absurd a
turned (fin false m e) a b = absurd (no_plus m e a)
turned (fin true m e) a b = b

-- ---- j turns taken off leave less than one
pub taken_off : (j a b a' b' : ℕ) → a * 2 ^ b ≡ j * 360 → a' * 2 ^ b' ≡ suc j * 360 → (y : Float) → T (not (lt y (fin false a (pos b)))) → T (lt y (fin false a' (pos b'))) → sub binary32 y (fin false a (pos b)) ≡ rem binary32 y turn
unfolding lt sub add neg sum rem
taken_off j a b a' b' p q nan lo hi = absurd hi
taken_off j a b a' b' p q (inf true) lo hi = absurd lo
taken_off j a b a' b' p q (inf false) lo hi = absurd hi
taken_off j a b a' b' p q (fin true m e) lo hi =
    ap (λ (x : ℕ). round binary32 true x (down e * 1)) (gone (m * up e * 1) (a * 2 ^ b * down e) (down e) (down_pos e) (nltb→le 0 (m * up e * 1 + a * 2 ^ b * down e) lo))
  where
    gone : (n t d : ℕ) → 0 < d → n + t ≤ 0 → n + t ≡ n % (360 * d)
    gone n t d D h = same ∙ sym (mod-eq_of_lt low)
      where
        same : n + t ≡ n
        same = omega arith

        low : n < 360 * d
        low = omega arith
taken_off j a b a' b' p q (fin false m e) lo hi =
    let n = m * up e * 1 in
    let d = down e in
    let t = a * 2 ^ b * d in
    let l : t ≤ n = nltb→le n t lo in
    let h : n < a' * 2 ^ b' * d = ltb→lt n (a' * 2 ^ b' * d) hi in
    ap (λ (z : Bool). cond z (round binary32 true (t - n) (d * 1)) (round binary32 false (n - t) (d * 1))) (le-ltb n t l)
    ∙ ap (λ (x : ℕ). round binary32 false x (d * 1)) (sym (over n d t l (ap (λ (x : ℕ). x * d) p) (subst (λ (x : ℕ). n < x * d) q h)))
  where
    over : (n d t : ℕ) → t ≤ n → t ≡ j * 360 * d → n < suc j * 360 * d → n % (360 * d) ≡ n - t
    over n d t l e h = ap (λ (x : ℕ). x % (360 * d)) (split n t d l e) ∙ add-mul-mod_self_right (n - t) j (360 * d) ∙ mod-eq_of_lt (less n t d l e h)
      where
        split : (n t d : ℕ) → t ≤ n → t ≡ j * 360 * d → n ≡ n - t + j * (360 * d)
        split n t d l e = omega arith

        less : (n t d : ℕ) → t ≤ n → t ≡ j * 360 * d → n < suc j * 360 * d → n - t < 360 * d
        less n t d l e h = omega arith
