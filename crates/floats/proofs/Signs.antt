-- A float's size, by the library's word, and its sign, by comparisons: a zero's shows in its reciprocal. Assumes nothing.
use Rattle.std.proofs.Common.{◌≡◌, ℕ, zero, suc, ◌+◌, ◌*◌, ◌<◌, ◌≤◌, Bool, true, false, not, T, eqb, ltb, ℤ, pos, sym, refl, ap, subst, zero-lt-suc, mul-pos, arith, eqb→eq, ltb→lt, nltb→le, T_not, le-ltb}
use Rattle.std.specs.Float.{float_with_sign}
use lib.Ieee.{Float, nan, inf, fin, binary32, up, down, neg, div, lt, eq, ne, is_nan}
use lib.Ieee.Fits.{up_pos, and_i, and_l, eq→eqb}
use lib.Ieee.Compare.{differs_from_itself}
use Rattle.floats.specs.Size.{plus_zero, abs_of, sign_of}
use Rattle.floats.proofs.Range.{none, no_less, yes, no}

-- ---- a NaN, by the test that tells it
pub nan_is : (x : Float) → ne x x ≡ true → is_nan x ≡ true
unfolding is_nan
nan_is x h = ap is_nan (differs_from_itself x (yes h))

pub nan_is_not : (x : Float) → ne x x ≡ false → is_nan x ≡ false
unfolding is_nan ne eq
nan_is_not nan h = h
nan_is_not (inf s) h = refl
nan_is_not (fin s m e) h = refl

-- ---- abs
pub abs_is : (x : Float) → float_with_sign false x ≡ abs_of x
unfolding float_with_sign abs_of
abs_is nan = refl
abs_is (inf s) = refl
abs_is (fin s m e) = refl

pub abs_neg : (x : Float) → T (lt x plus_zero) → neg x ≡ abs_of x
unfolding lt neg abs_of
abs_neg nan h = absurd h
abs_neg (inf true) h = refl
abs_neg (inf false) h = absurd h
abs_neg (fin true m e) h = refl
abs_neg (fin false m e) h = absurd (none (m * up e * 1) (down e) (ltb→lt (m * up e * 1) (0 * 1 * down e) h))

-- ---- the sign
pub zero-size : (s : Bool) (m : ℕ) (e : ℤ) → T (eq (fin s m e) plus_zero) → m * up e ≡ 0
unfolding eq
zero-size s m e t = zero_times (m * up e) (down e) (eqb→eq (m * up e * 1) (0 * 1 * down e) (and_l (eqb (m * up e * 1) (0 * 1 * down e)) _ t))
  where
    zero_times : (n d : ℕ) → n * 1 ≡ 0 * d → n ≡ 0
    zero_times n d h = omega arith

-- a size of 0 is a zero
is_zero : (m : ℕ) (e : ℤ) → m * up e ≡ 0 → T (eq (fin true m e) plus_zero)
unfolding eq
is_zero m e z = and_i (eqb (m * up e * 1) (0 * 1 * down e)) (eqb (m * up e * 1) 0) (eq→eqb (left (m * up e) (down e) z)) (eq→eqb (right (m * up e) z))
  where
    left : (n d : ℕ) → n ≡ 0 → n * 1 ≡ 0 * 1 * d
    left n d z = omega arith

    right : (n : ℕ) → n ≡ 0 → n * 1 ≡ 0
    right n z = omega arith

factor : (m u : ℕ) → 0 < u → m * u ≡ 0 → m ≡ 0
factor zero u p e = refl
factor (suc m) u p e = absurd (more (suc m * u) (mul-pos (zero-lt-suc m) p) e)
  where
    more : (n : ℕ) → 0 < n → n ≡ 0 → ⊥
    more n p e = omega arith

pub sign_zero : (x : Float) → T (eq x plus_zero) → lt (div binary32 (fin false 1 (pos 0)) x) plus_zero ≡ sign_of x
unfolding sign_of lt div eq
sign_zero nan h = absurd h
sign_zero (inf s) h = absurd h
sign_zero (fin s m e) h = subst (λ (z : ℕ). lt (div binary32 (fin false 1 (pos 0)) (fin s z e)) plus_zero ≡ s) (sym (factor m (up e) (up_pos e) (zero-size s m e h))) (go s)
  where
    go : (s : Bool) → lt (div binary32 (fin false 1 (pos 0)) (fin s 0 e)) plus_zero ≡ s
    go false = refl
    go true = refl

pub sign_other : (x : Float) → T (not (eq x plus_zero)) → lt x plus_zero ≡ sign_of x
unfolding sign_of lt
sign_other nan h = refl
sign_other (inf false) h = refl
sign_other (inf true) h = refl
sign_other (fin false m e) h = le-ltb (m * up e * 1) (0 * 1 * down e) (least (m * up e * 1) (down e))
  where
    least : (n d : ℕ) → 0 * d ≤ n
    least n d = omega arith
sign_other (fin true m e) h = go (ltb 0 (m * up e * 1 + 0 * 1 * down e)) refl
  where
    go : (b : Bool) → ltb 0 (m * up e * 1 + 0 * 1 * down e) ≡ b → ltb 0 (m * up e * 1 + 0 * 1 * down e) ≡ true
    go true g = g
    go false g = absurd (T_not (eq (fin true m e) plus_zero) h (is_zero m e (no_less (m * up e) (down e) (nltb→le 0 (m * up e * 1 + 0 * 1 * down e) (no g)))))
