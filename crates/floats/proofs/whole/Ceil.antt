-- `ceil` is the whole part, and one more where that is less than x; from 2 ^ 24 on an f32 is whole. Assumes nothing.
use Rattle.std.proofs.Common.{◌≡◌, ℕ, suc, ◌+◌, ◌-◌, ◌*◌, ◌/◌, ◌^◌, ◌<◌, ◌≤◌, min, Bool, true, false, not, T, eqb, ltb, ℤ, pos, negsuc, sym, refl, ap, ◌∙◌, subst, mul-le-mul_right, div-lt_iff_lt-mul, le_antisymm, lt_of_mul-lt-mul_right, mul-lt-mul_of_pos_right, mul-pos, le-div_iff_mul-le, mul-one, div-le_self, div-mul-le_self, div-one, arith, lit<, ltb→lt, nltb→le, ltb-false, ltb-true, le-ltb, lt-ltb}
use native.Mathlib.Nat.{div-eq_of_lt-le, lt-div-mul-add}
use lib.Ieee.{Float, nan, inf, fin, binary32, up, down, lt, eq, le, fits, of_int, to_unsigned}
use lib.Ieee.Fits.{down_pos}
use lib.Ieee.Exact.{HasValue}
use Rattle.std.proofs.num.Truncating.{one, two_to}
use Rattle.floats.specs.Size.{plus_zero}
use Rattle.floats.specs.Whole.{ceil_size}
use Rattle.floats.proofs.Range.{le_yes, le_no, not_zero, no_more}
use Rattle.floats.proofs.Powers.{few, of_int_lem}

top_ceil : (n d : ℕ) → 0 < d → 1 * 2 ^ 63 * d ≤ n * 1 → 0x7fff_ffff_ffff_ffff ≡ min ((n + (d - 1)) / d) 0x7fff_ffff_ffff_ffff
top_ceil n d D h = go ((n + (d - 1)) / d) ((le-div_iff_mul-le D).1 (omega arith))
  where
    go : (q : ℕ) → 9223372036854775808 ≤ q → 0x7fff_ffff_ffff_ffff ≡ min q 0x7fff_ffff_ffff_ffff
    go q k = omega arith

pub ceil_top : (x : Float) → T (le (two_to 63) x) → 0x7fff_ffff_ffff_ffff ≡ ceil_size x
unfolding le lt eq ceil_size
ceil_top nan h = absurd h
ceil_top (inf true) h = absurd h
ceil_top (inf false) h = refl
ceil_top (fin true m e) h = absurd (not_zero (1 * 2 ^ 63 * down e) (eqb (1 * 2 ^ 63 * down e) (m * up e * 1)) (mul-pos (lit< tt) (down_pos e)) h)
ceil_top (fin false m e) h = top_ceil (m * up e) (down e) (down_pos e) (le_yes (1 * 2 ^ 63 * down e) (m * up e * 1) h)

-- n / d is q, and a bit more or not
more_ceil : (n d q : ℕ) → 0 < d → q * d < n → n < q * d + d → q < 0x100_0000 → q + 1 ≡ min ((n + (d - 1)) / d) 0x7fff_ffff_ffff_ffff
more_ceil n d q D a b s = go ((n + (d - 1)) / d) (div-eq_of_lt-le d (omega arith) (omega arith))
  where
    go : (x : ℕ) → x ≡ q + 1 → q + 1 ≡ min x 0x7fff_ffff_ffff_ffff
    go x e = omega arith

same_ceil : (n d q : ℕ) → 0 < d → q * d ≡ n → q < 9223372036854775808 → q ≡ min ((n + (d - 1)) / d) 0x7fff_ffff_ffff_ffff
same_ceil n d q D a s = go ((n + (d - 1)) / d) (div-eq_of_lt-le d (omega arith) (omega arith))
  where
    go : (x : ℕ) → x ≡ q → q ≡ min x 0x7fff_ffff_ffff_ffff
    go x e = omega arith

-- the test on floats is that on the fractions
less_than : (y : Float) (q m : ℕ) (e : ℤ) (t : Bool) → HasValue y false q 1 → lt y (fin false m e) ≡ t → ltb (q * down e) (m * up e) ≡ t
unfolding lt
less_than nan q m e t v h = absurd v
less_than (inf s) q m e t v h = absurd v
less_than (fin true n d) q m e t v h = absurd (no_way v.0)
  where
    no_way : true ≡ false → ⊥
    no_way p = subst T p tt
less_than (fin false n d) q m e t v h = go (ltb (q * down e) (m * up e)) refl ∙ h
  where
    one_way : (a b c k z : ℕ) → a * 1 ≡ q * k → q * c < b → 0 < k → a * c < b * k
    one_way a b c k z p l K = omega (arith, mul-lt-mul_of_pos_right l K, ap (λ (x : ℕ). x * c) p)

    other_way : (a b c k z : ℕ) → a * 1 ≡ q * k → b ≤ q * c → b * k ≤ a * c
    other_way a b c k z p l = omega (arith, mul-le-mul_right k l, ap (λ (x : ℕ). x * c) p)

    go : (b : Bool) → ltb (q * down e) (m * up e) ≡ b → ltb (q * down e) (m * up e) ≡ ltb (n * up d * down e) (m * up e * down d)
    go true g = g ∙ sym (lt-ltb (n * up d * down e) (m * up e * down d) (one_way (n * up d) (m * up e) (down e) (down d) 0 v.1 (ltb-true (q * down e) (m * up e) g) (down_pos d)))
    go false g = g ∙ sym (le-ltb (n * up d * down e) (m * up e * down d) (other_way (n * up d) (m * up e) (down e) (down d) 0 v.1 (ltb-false (q * down e) (m * up e) g)))

-- a float with 2 ^ 24 or more before the point has nothing behind it
no_part : (m : ℕ) (e : ℤ) → m < 2 ^ 24 → 0x100_0000 ≤ m * up e / down e → m * up e / down e * down e ≡ m * up e
no_part m (pos k) f h = mul-one (m * 2 ^ k / 1) ∙ div-one (m * 2 ^ k)
no_part m (negsuc k) f h = absurd (go (m * 1 / 2 ^ suc k) (div-le_self (m * 1) (2 ^ suc k)) h)
  where
    go : (q : ℕ) → q ≤ m * 1 → 16777216 ≤ q → ⊥
    go q a b = omega arith

ceil_at : (n m : ℕ) (e : ℤ) → n ≡ m * up e / down e → m < 2 ^ 24 → m * up e * 1 < 1 * 2 ^ 63 * down e
    → (0x100_0000 ≤ n → n ≡ ceil_size (fin false m e)) × (n < 0x100_0000 → lt (of_int binary32 (pos n)) (fin false m e) ≡ true → n + 1 ≡ ceil_size (fin false m e)) × (n < 0x100_0000 → lt (of_int binary32 (pos n)) (fin false m e) ≡ false → n ≡ ceil_size (fin false m e))
unfolding ceil_size
ceil_at n m e is f hi =
    let N = m * up e in
    let d = down e in
    let D = down_pos e in
    let lo : n * d ≤ N = subst (λ (q : ℕ). q * d ≤ N) (sym is) (div-mul-le_self N d) in
    let up' : N < n * d + d = subst (λ (q : ℕ). N < q * d + d) (sym is) (lt-div-mul-add D) in
    let small : n < 9223372036854775808 = lt_of_mul-lt-mul_right d (omega arith) in (
      (λ g. same_ceil N d n D (subst (λ (q : ℕ). q * d ≡ N) (sym is) (no_part m e f (subst (λ (q : ℕ). 0x100_0000 ≤ q) is g))) small),
      (λ g h. more_ceil N d n D (ltb-true (n * d) N (less_than (of_int binary32 (pos n)) n m e true (of_int_lem n g) h)) up' g),
      (λ g h. same_ceil N d n D (le_antisymm lo (ltb-false (n * d) N (less_than (of_int binary32 (pos n)) n m e false (of_int_lem n g) h))) small),
    )

uncapped : (q : ℕ) → q < 9223372036854775808 → min q (2 ^ 64 - 1) ≡ q
uncapped q h = omega arith

abbrev pub Ceil : ℕ → Float → Type 0
Ceil n x = (0x100_0000 ≤ n → n ≡ ceil_size x) × (n < 0x100_0000 → lt (of_int binary32 (pos n)) x ≡ true → n + 1 ≡ ceil_size x) × (n < 0x100_0000 → lt (of_int binary32 (pos n)) x ≡ false → n ≡ ceil_size x)

pub ceil : (n : ℕ) (x : Float) → T (fits binary32 x) → T (le one x) → T (not (le (two_to 63) x)) → n ≡ to_unsigned 64 x → Ceil n x
unfolding le lt eq to_unsigned
ceil n nan f a b is = absurd a
ceil n (inf true) f a b is = absurd a
ceil n (inf false) f a b is = absurd b
ceil n (fin true m e) f a b is = absurd (not_zero (1 * down e) (eqb (1 * down e) (m * up e * 1)) (mul-pos (lit< tt) (down_pos e)) a)
ceil n (fin false m e) f a b is =
    let hi = le_no (1 * 2 ^ 63 * down e) (m * up e * 1) b in
    ceil_at n m e (is ∙ uncapped (m * up e / down e) ((div-lt_iff_lt-mul (down_pos e)).1 (tidy (m * up e) (down e) hi))) (few binary32 false m e f) hi
  where
    tidy : (n d : ℕ) → n * 1 < 9223372036854775808 * d → n < 9223372036854775808 * d
    tidy n d h = omega arith

-- below 1, and above zero or not
pub ceil_one : (x : Float) → T (not (le one x)) → T (lt plus_zero x) → 1 ≡ ceil_size x
unfolding le lt eq ceil_size
ceil_one nan a b = absurd b
ceil_one (inf true) a b = absurd b
ceil_one (inf false) a b = absurd a
ceil_one (fin true m e) a b = absurd b
ceil_one (fin false m e) a b = more_ceil (m * up e) (down e) 0 (down_pos e) (pos_of (m * up e) (down e) (ltb→lt (0 * 1 * down e) (m * up e * 1) b)) (low (m * up e) (down e) (le_no (1 * down e) (m * up e * 1) a)) (lit< tt)
  where
    pos_of : (n d : ℕ) → 0 * d < n * 1 → 0 * d < n
    pos_of n d h = omega arith

    low : (n d : ℕ) → n * 1 < 1 * d → n < 0 * d + d
    low n d h = omega arith

pub ceil_none : (x : Float) → T (not (lt plus_zero x)) → 0 ≡ ceil_size x
unfolding lt ceil_size
ceil_none nan b = refl
ceil_none (inf true) b = refl
ceil_none (inf false) b = absurd b
ceil_none (fin true m e) b = refl
ceil_none (fin false m e) b = same_ceil (m * up e) (down e) 0 (down_pos e) (nothing (m * up e) (down e) (no_more (m * up e) (down e) (nltb→le (0 * 1 * down e) (m * up e * 1) b))) (lit< tt)
  where
    nothing : (n d : ℕ) → n ≡ 0 → 0 * d ≡ n
    nothing n d h = omega arith
