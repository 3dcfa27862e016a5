-- The ratio's rule on the axes and the diagonals: exactly 0, 90, 180, 45 and 135 with up's sign. Assumes nothing.
use Rattle.std.proofs.Common.{◌≡◌, ℕ, zero, suc, ◌+◌, ◌*◌, ◌^◌, ◌<◌, Bool, true, false, cond, ◌&&◌, ◌||◌, T, eqb, ltb, pos, sym, refl, ap, ◌∙◌, subst, mul_comm, mul-pos, zero-mul, arith, lit<, eqb→eq, pow_pos}
use mathlib.Core.Bool.{beq}
use native.Mathlib.Nat.{eq_of_mul-eq-mul_right}
use Rattle.floats.proofs.Range.{no, yes}
use Rattle.floats.proofs.Signs.{sign_other}
use lib.Ieee.{odd, units, Float, nan, inf, fin, binary32, of_bits, round, up, down, unlike, add, sub, mul, div, neg, eq, lt}
use lib.Ieee.Fits.{down_pos, round_is}
use lib.Ieee.Order.{drop, kept}
use lib.Ieee.Scale.{round_same}
use Rattle.floats.specs.Size.{plus_zero, abs_of, sign_of}
use Rattle.angle.specs.Arctangent.{is_halves, halves_of, Domain}
use Rattle.angle.specs.Arctangent.{even_of, odd_of, less_of, from_of, past_one, of_ratio, direction_of, arctangent_of}
use Rattle.angle.proofs.arctangent.Halves.{exact, size-zero}

-- ---- computed values
pub one-is : of_ratio (fin false 1 (pos 0)) ≡ of_bits binary32 0x3F490FDB
unfolding of_ratio from_of past_one less_of even_of odd_of lt add sub mul div neg of_bits round
one-is = refl

pub pi_is : (s : Bool) → mul binary32 (cond s (neg (of_bits binary32 0x40490FDB)) (of_bits binary32 0x40490FDB)) (of_bits binary32 0x42652EE1) ≡ fin s 45 (pos 2)
unfolding mul neg of_bits round
pi_is true = refl
pi_is false = refl

pub half_is : (s : Bool) → mul binary32 (cond s (neg (of_bits binary32 0x3FC90FDB)) (of_bits binary32 0x3FC90FDB)) (of_bits binary32 0x42652EE1) ≡ fin s 45 (pos 1)
unfolding mul neg of_bits round
half_is true = refl
half_is false = refl

pub eighth_is : (s : Bool) → mul binary32 (cond s (neg (of_bits binary32 0x3F490FDB)) (of_bits binary32 0x3F490FDB)) (of_bits binary32 0x42652EE1) ≡ fin s 45 (pos 0)
unfolding mul neg of_bits round
eighth_is true = refl
eighth_is false = refl

pub three_is : mul binary32 (sub binary32 (of_bits binary32 0x40490FDB) (add binary32 (of_bits binary32 0x3F490FDB) (of_bits binary32 0x33BBBD2E))) (of_bits binary32 0x42652EE1) ≡ fin false 135 (pos 0)
unfolding mul neg of_bits round sub add
three_is = refl

pub three_is' : mul binary32 (sub binary32 (add binary32 (of_bits binary32 0x3F490FDB) (of_bits binary32 0x33BBBD2E)) (of_bits binary32 0x40490FDB)) (of_bits binary32 0x42652EE1) ≡ fin true 135 (pos 0)
unfolding mul neg of_bits round sub add
three_is' = refl

-- ---- the branches
abbrev degrees : Float → Float
degrees a = mul binary32 a (of_bits binary32 0x42652EE1)

on_axis : (y x : Float) (s t : Bool) → eq y plus_zero ≡ true → sign_of x ≡ s → sign_of y ≡ t
    → arctangent_of y x ≡ degrees (cond s (cond t (neg (of_bits binary32 0x40490FDB)) (of_bits binary32 0x40490FDB)) y)
unfolding arctangent_of direction_of
on_axis y x s t e f g = rw (e, f, g)

upright : (y x : Float) (s : Bool) → eq y plus_zero ≡ false → eq x plus_zero ≡ true → lt y plus_zero ≡ s
    → arctangent_of y x ≡ degrees (cond s (neg (of_bits binary32 0x3FC90FDB)) (of_bits binary32 0x3FC90FDB))
unfolding arctangent_of direction_of
upright y x s e f g = rw (e, f, g)

pub slanted : (y x a : Float) (s t : Bool) → eq y plus_zero ≡ false → eq x plus_zero ≡ false → lt x plus_zero ≡ s → lt y plus_zero ≡ t → of_ratio (abs_of (div binary32 y x)) ≡ a
    → arctangent_of y x ≡ degrees
    (cond s (cond t (sub binary32 (add binary32 a (of_bits binary32 0x33BBBD2E)) (of_bits binary32 0x40490FDB))
    (sub binary32 (of_bits binary32 0x40490FDB) (add binary32 a (of_bits binary32 0x33BBBD2E)))) (cond t (neg a) a))
unfolding arctangent_of direction_of
slanted y x a s t e f g g' h = rw (e, f, g, g', h)

-- ---- zeros and signs
is_zero : (y : Float) → T (is_halves y) → halves_of y ≡ 0 → eq y plus_zero ≡ true
unfolding eq is_halves
is_zero nan h z = absurd h
is_zero (inf s) h z = absurd h
is_zero (fin s m e) h z = go s (m * up e) (down e) (twice (m * up e) (down e) (halves_of (fin s m e)) (exact s m e (unfold is_halves in h)) z)
  where
    twice : (n d k : ℕ) → n * 2 ≡ k * d → k ≡ 0 → n ≡ 0
    twice n d k f g = omega (arith, f, ap (λ (i : ℕ). i * d) g)

    go : (s : Bool) (n d : ℕ) → n ≡ 0 → (eqb (n * 1) (0 * 1 * d) && (beq s false || eqb (n * 1) 0)) ≡ true
    go true n d g = subst (λ (k : ℕ). (eqb (k * 1) (0 * 1 * d) && eqb (k * 1) 0) ≡ true) (sym g) (rw (zero-mul d) refl)
    go false n d g = subst (λ (k : ℕ). (eqb (k * 1) (0 * 1 * d) && true) ≡ true) (sym g) (rw (zero-mul d) refl)

pub no_zero : (y : Float) → T (is_halves y) → 0 < halves_of y → eq y plus_zero ≡ false
no_zero y h p = go (eq y plus_zero) refl
  where
    go : (b : Bool) → eq y plus_zero ≡ b → eq y plus_zero ≡ false
    go true e = absurd (none (halves_of y) p (size-zero y h e))
      where
        none : (k : ℕ) → 0 < k → 0 ≡ k → ⊥
        none k p e = omega arith
    go false e = e

pub sign_is : (y : Float) → T (is_halves y) → 0 < halves_of y → lt y plus_zero ≡ sign_of y
sign_is y h p = sign_other y (no (no_zero y h p))

-- ---- the axes
plain : (s : Bool) → unlike s false ≡ s
plain true = refl
plain false = refl

nothing : (y : Float) → T (is_halves y) → halves_of y ≡ 0 → degrees y ≡ fin (sign_of y) 0 (pos 0)
unfolding mul is_halves sign_of of_bits
nothing nan h z = absurd h
nothing (inf s) h z = absurd h
nothing (fin s m e) h z =
    ap (λ (b : Bool). round binary32 b (m * up e * 15019745) (down e * 2 ^ 18)) (plain s)
    ∙ round_same binary32 s (m * up e * 15019745) (down e * 2 ^ 18) 0 1 (mul-pos (down_pos e) (pow_pos 18)) (lit< tt)
    (flat (m * up e) (down e) (halves_of (fin s m e)) (exact s m e (unfold is_halves in h)) z)
    ∙ (unfold round in refl)
  where
    flat : (n d k : ℕ) → n * 2 ≡ k * d → k ≡ 0 → n * 15019745 * 1 ≡ 0 * (d * 262144)
    flat n d k f g = omega (arith, f, ap (λ (i : ℕ). i * d) g)

pub axis_right : (y x : Float) → Domain y x → halves_of y ≡ 0 → lt x plus_zero ≡ false → arctangent_of y x ≡ fin (sign_of y) 0 (pos 0)
axis_right y x d z l =
    let p : 0 < halves_of x = go (halves_of y) (halves_of x) d.some z in on_axis y x false (sign_of y) (is_zero y d.halves.up z) (sym (sign_is x d.halves.right p) ∙ l) refl ∙ nothing y
    d.halves.up z
  where
    go : (u v : ℕ) → 0 < u + v → u ≡ 0 → 0 < v
    go u v h e = omega arith

pub axis_left : (y x : Float) → Domain y x → halves_of y ≡ 0 → lt x plus_zero ≡ true → arctangent_of y x ≡ fin (sign_of y) 45 (pos 2)
axis_left y x d z l =
    let p : 0 < halves_of x = go (halves_of y) (halves_of x) d.some z in on_axis y x true (sign_of y) (is_zero y d.halves.up z) (sym (sign_is x d.halves.right p) ∙ l) refl ∙ pi_is (sign_of y)
  where
    go : (u v : ℕ) → 0 < u + v → u ≡ 0 → 0 < v
    go u v h e = omega arith

pub axis_up : (y x : Float) → Domain y x → halves_of x ≡ 0 → arctangent_of y x ≡ fin (sign_of y) 45 (pos 1)
axis_up y x d z =
    let p : 0 < halves_of y = go (halves_of y) (halves_of x) d.some z in upright y x (sign_of y) (no_zero y d.halves.up p) (is_zero x d.halves.right z)
    (sign_is y d.halves.up p) ∙ half_is (sign_of y)
  where
    go : (u v : ℕ) → 0 < u + v → v ≡ 0 → 0 < u
    go u v h e = omega arith

-- ---- the ratio, from the two counts
abs_odd : (d : ℕ) (s : Bool) (q k l : ℕ) → abs_of (odd d s q k l) ≡ odd d false q k l
unfolding odd abs_of
abs_odd d s zero k l = refl
abs_odd d s (suc q) k l = refl

abs_cond : (b : Bool) (x y : Float) → abs_of (cond b x y) ≡ cond b (abs_of x) (abs_of y)
abs_cond true x y = refl
abs_cond false x y = refl

abs_inf : (s : Bool) → abs_of (inf s) ≡ inf false
unfolding abs_of
abs_inf s = refl

abs_units : (s : Bool) (q k : ℕ) → abs_of (units binary32 s q k) ≡ units binary32 false q k
unfolding units
abs_units s q k =
    abs_cond (ltb (q * 2 ^ k) (2 ^ 277)) (odd 25 s q k 149) (inf s)
    ∙ ap (λ (z : Float). cond (ltb (q * 2 ^ k) (2 ^ 277)) z (abs_of (inf s))) (abs_odd 25 s q k 149)
    ∙ ap (λ (z : Float). cond (ltb (q * 2 ^ k) (2 ^ 277)) (odd 25 false q k 149) z) (abs_inf s)

abs_round : (s : Bool) (a c : ℕ) → abs_of (round binary32 s a c) ≡ round binary32 false a c
abs_round s a c =
    let k = drop 24 (a * 2 ^ 149) c in
    ap abs_of (round_is binary32 s a c) ∙ abs_units s (kept 24 (a * 2 ^ 149) c) k ∙ sym (round_is binary32 false a c)

pub ratio_is : (y x : Float) → T (is_halves y) → T (is_halves x) → 0 < halves_of x → abs_of (div binary32 y x) ≡ round binary32 false (halves_of y) (halves_of x)
unfolding div is_halves
ratio_is nan x h k p = absurd h
ratio_is (inf s) x h k p = absurd h
ratio_is (fin s m e) nan h k p = absurd k
ratio_is (fin s m e) (inf t) h k p = absurd k
ratio_is (fin s m e) (fin t n d) h k p =
    let a = exact s m e (unfold is_halves in h) in
    let b = exact t n d (unfold is_halves in k) in
    let n0 : 0 < n * up d = some (n * up d) (down d) (halves_of (fin t n d)) b p (down_pos d) in
    ap (λ (c : Bool). abs_of (cond c (cond (eqb m 0) nan (inf (unlike s t))) (round binary32 (unlike s t) (m * up e * down d) (n * up d * down e)))) (not_zero n (up d) n0)
    ∙ abs_round (unlike s t) (m * up e * down d) (n * up d * down e)
    ∙ round_same binary32 false (m * up e * down d) (n * up d * down e) (halves_of (fin s m e)) (halves_of (fin t n d)) (mul-pos n0 (down_pos e)) p
    (cross (m * up e) (down e) (n * up d) (down d) (halves_of (fin s m e)) (halves_of (fin t n d)) a b)
  where
    some : (n d k : ℕ) → n * 2 ≡ k * d → 0 < k → 0 < d → 0 < n
    some n d k f p q = omega (arith, f, mul-pos p q)

    not_zero : (n u : ℕ) → 0 < n * u → eqb n 0 ≡ false
    not_zero n u h = go (eqb n 0) refl
      where
        none : (n u : ℕ) → 0 < n * u → n ≡ 0 → ⊥
        none n u h e = omega (arith, h, ap (λ (z : ℕ). z * u) e)

        go : (b : Bool) → eqb n 0 ≡ b → eqb n 0 ≡ false
        go true e = absurd (none n u h (eqb→eq n 0 (yes e)))
        go false e = e

    cross : (a d b g u v : ℕ) → a * 2 ≡ u * d → b * 2 ≡ v * g → a * g * v ≡ u * (b * d)
    cross a d b g u v f h = eq_of_mul-eq-mul_right 2 (lit< tt) (a * g * v) (u * (b * d)) (omega (arith, ap (λ (z : ℕ). z * (g * v)) f, ap (λ (z : ℕ). u * d * z) h))

-- ---- the diagonals
even_is : (u : ℕ) → 0 < u → round binary32 false u u ≡ fin false 1 (pos 0)
even_is u p = round_same binary32 false u u 1 1 p (lit< tt) (mul_comm u 1) ∙ (unfold round in refl)

diagonal : (y x : Float) → Domain y x → halves_of y ≡ halves_of x → of_ratio (abs_of (div binary32 y x)) ≡ of_bits binary32 0x3F490FDB
diagonal y x d e =
    let p : 0 < halves_of x = go (halves_of y) (halves_of x) d.some e in
    ap of_ratio (ratio_is y x d.halves.up d.halves.right p ∙ ap (λ (k : ℕ). round binary32 false k (halves_of x)) e ∙ even_is (halves_of x) p) ∙ one-is
  where
    go : (u v : ℕ) → 0 < u + v → u ≡ v → 0 < v
    go u v h e = omega arith

both : (y x : Float) → Domain y x → halves_of y ≡ halves_of x → (0 < halves_of y) × (0 < halves_of x)
both y x d e = go (halves_of y) (halves_of x) d.some e
  where
    go : (u v : ℕ) → 0 < u + v → u ≡ v → (0 < u) × (0 < v)
    go u v h e = (omega arith, omega arith)

pub diagonal_right : (y x : Float) → Domain y x → halves_of y ≡ halves_of x → lt x plus_zero ≡ false → arctangent_of y x ≡ fin (sign_of y) 45 (pos 0)
diagonal_right y x d e l =
    let p = both y x d e in
    slanted y x (of_bits binary32 0x3F490FDB) false (sign_of y) (no_zero y d.halves.up p.0) (no_zero x d.halves.right p.1) l (sign_is y d.halves.up p.0) (diagonal y x d e)
    ∙ eighth_is (sign_of y)

pub diagonal_left : (y x : Float) → Domain y x → halves_of y ≡ halves_of x → lt x plus_zero ≡ true → arctangent_of y x ≡ fin (sign_of y) 135 (pos 0)
diagonal_left y x d e l =
    let p = both y x d e in
    slanted y x (of_bits binary32 0x3F490FDB) true (sign_of y) (no_zero y d.halves.up p.0) (no_zero x d.halves.right p.1) l (sign_is y d.halves.up p.0) (diagonal y x d e)
    ∙ last (sign_of y)
  where
    last : (s : Bool)
        → degrees
        (cond s (sub binary32 (add binary32 (of_bits binary32 0x3F490FDB) (of_bits binary32 0x33BBBD2E)) (of_bits binary32 0x40490FDB))
        (sub binary32 (of_bits binary32 0x40490FDB) (add binary32 (of_bits binary32 0x3F490FDB) (of_bits binary32 0x33BBBD2E)))) ≡ fin s 135 (pos 0)
    last true = three_is'
    last false = three_is
