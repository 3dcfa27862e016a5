-- The test of an ellipse, in f32, is a matter of sizes: the larger an offset, the larger its part, so that a row takes what is near its
-- middle. Assumes nothing.
use Rattle.std.proofs.Common.{◌≡◌, ℕ, zero, suc, ◌+◌, ◌*◌, ◌^◌, ◌<◌, ◌≤◌, Bool, true, false, cond, not, ◌&&◌, ◌||◌, T, eqb, ltb, ℤ, sym, refl, ap, ◌∙◌, subst, inl, inr, le_trans, le_of_eq, le_of_lt, mul-le-mul_right, mul_assoc, mul_comm, add-mul, mul-le-mul, eq-or-lt_of_le, mul-pos, mul-add, mul_left_comm, arith, lit<, eqb→eq, ltb→lt, lt→ltb}
use native.Mathlib.Nat.{eq_of_mul-eq-mul_right}
use native.Mathlib.Nat.{mul-mul-mul_comm}
use lib.Dec.{eqb_refl}
use lib.Ieee.{Float, nan, inf, fin, Format, binary32, emax, low, prec, up, down, odd, units, round, neg, add, sum, mul, div, lt, eq, le, unlike}
use lib.Ieee.Fits.{down_pos, round_is}
use lib.Ieee.Exact.{HasValue}
use lib.Ieee.Order.{drop, kept, round_mono}
use lib.Ieee.Positive.{through}
use lib.Ieee.Scale.{round_same}
use Rattle.floats.proofs.Negated.{neg_round}
use Rattle.floats.proofs.Powers.{like}

ruleset ring = (mul-add, add-mul, mul_assoc, mul_comm, mul_left_comm)

-- ---- a float that is a number, with no minus sign
abbrev pub plain : Float → Bool
plain nan = false
plain (inf s) = not s
plain (fin s m e) = not s

pub round_plain : (f : Format) (a c : ℕ) → T (plain (round f false a c))
round_plain f a c = subst (λ (z : Float). T (plain z)) (sym (round_is f false a c)) (units_plain (kept (prec f) (a * 2 ^ low f) c) (drop (prec f) (a * 2 ^ low f) c))
  where
    odd_plain : (d q k l : ℕ) → T (plain (odd d false q k l))
    odd_plain d zero k l = unfold odd in tt
    odd_plain d (suc q) k l = unfold odd in tt

    units_plain : (q k : ℕ) → T (plain (units f false q k))
    units_plain q k = unfold units in go (ltb (q * 2 ^ k) (2 ^ (low f + suc (emax f))))
      where
        go : (b : Bool) → T (plain (cond b (odd (suc (prec f)) false q k (low f)) (inf false)))
        go true = odd_plain (suc (prec f)) q k (low f)
        go false = tt

-- ---- their order, by fractions
or_l : (a b : Bool) → T a → T (a || b)
or_l true b t = tt
or_l false b t = absurd t

or_r : (a b : Bool) → T b → T (a || b)
or_r true b t = tt
or_r false b t = t

pub at_most : (a b : ℕ) → a ≤ b → T (ltb a b || (eqb a b && true))
at_most a b h =
    elim (eq-or-lt_of_le h) [
      | inl p ↦ or_r (ltb a b) (eqb a b && true) (subst (λ (x : ℕ). T (eqb a x && true)) p (both (eqb a a) (eqb_refl a)))
      | inr q ↦ or_l (ltb a b) (eqb a b && true)
          (lt→ltb a b q)
    ]
  where
    both : (x : Bool) → T x → T (x && true)
    both true t = tt
    both false t = t

is_at_most : (a b : ℕ) → T (ltb a b || (eqb a b && true)) → a ≤ b
is_at_most a b t = go (ltb a b) (eqb a b) (ltb→lt a b) (eqb→eq a b) t
  where
    go : (x y : Bool) → (T x → a < b) → (T y → a ≡ b) → T (x || (y && true)) → a ≤ b
    go true y f g t = le_of_lt (f tt)
    go false true f g t = le_of_eq (g tt)
    go false false f g t = absurd t

fractions : (m n : ℕ) (e d : ℤ) → T (le (fin false m e) (fin false n d)) → m * up e * down d ≤ n * up d * down e
fractions m n e d h = is_at_most (m * up e * down d) (n * up d * down e) (unfold le lt eq in h)

of_fractions : (m n : ℕ) (e d : ℤ) → m * up e * down d ≤ n * up d * down e → T (le (fin false m e) (fin false n d))
of_fractions m n e d h = unfold le lt eq in at_most (m * up e * down d) (n * up d * down e) h

le-top : (x : Float) → T (plain x) → T (le x (inf false))
unfolding le lt eq
le-top nan p = absurd p
le-top (inf true) p = absurd p
le-top (inf false) p = tt
le-top (fin true m e) p = absurd p
le-top (fin false m e) p = tt

pub le_chain : (x y z : Float) → T (plain x) → T (plain y) → T (plain z) → T (le x y) → T (le y z) → T (le x z)
le_chain x y z p q r h k = go z y x p q r h k
  where
    go : (z y x : Float) → T (plain x) → T (plain y) → T (plain z) → T (le x y) → T (le y z) → T (le x z)
    go nan y x p q r h k = absurd r
    go (inf true) y x p q r h k = absurd r
    go (fin true l c) y x p q r h k = absurd r
    go (inf false) y x p q r h k = le-top x p
    go (fin false l c) nan x p q r h k = absurd q
    go (fin false l c) (inf true) x p q r h k = absurd q
    go (fin false l c) (fin true n d) x p q r h k = absurd q
    go (fin false l c) (inf false) x p q r h k = absurd (unfold le lt eq in k)
    go (fin false l c) (fin false n d) nan p q r h k = absurd p
    go (fin false l c) (fin false n d) (inf true) p q r h k = absurd p
    go (fin false l c) (fin false n d) (fin true m e) p q r h k = absurd p
    go (fin false l c) (fin false n d) (inf false) p q r h k = absurd (unfold le lt eq in h)
    go (fin false l c) (fin false n d) (fin false m e) p q r h k =
        of_fractions m l e c (through (m * up e) (n * up d) (l * up c) (down e) (down d) (down c) (down_pos d) (fractions m n e d h) (fractions n l d c k))

-- ---- squares and sums
unfoldable pub square : Float → Float
square x = mul binary32 x x

pub square_plain : (x : Float) → T (plain x) → T (plain (square x))
unfolding square mul
square_plain nan p = absurd p
square_plain (inf true) p = absurd p
square_plain (inf false) p = tt
square_plain (fin true m e) p = absurd p
square_plain (fin false m e) p = round_plain binary32 (m * up e * (m * up e)) (down e * down e)

pub square_mono : (x y : Float) → T (plain x) → T (plain y) → T (le x y) → T (le (square x) (square y))
square_mono x y p q h = go y x p q h
  where
    go : (y x : Float) → T (plain x) → T (plain y) → T (le x y) → T (le (square x) (square y))
    go nan x p q h = absurd q
    go (inf true) x p q h = absurd q
    go (fin true n d) x p q h = absurd q
    go (inf false) x p q h = let e : inf false ≡ square (inf false) = unfold square mul in refl in subst (λ (z : Float). T (le (square x) z)) e (le-top (square x) (square_plain x p))
    go (fin false n d) nan p q h = absurd p
    go (fin false n d) (inf true) p q h = absurd p
    go (fin false n d) (fin true m e) p q h = absurd p
    go (fin false n d) (inf false) p q h = absurd (unfold le lt eq in h)
    go (fin false n d) (fin false m e) p q h =
        let k = fractions m n e d h in
        unfold square mul in
        round_mono binary32 (m * up e * (m * up e)) (down e * down e) (n * up d * (n * up d)) (down d * down d) (mul-pos (down_pos e) (down_pos e)) (mul-pos (down_pos d) (down_pos d))
        (le_trans (le_of_eq (mul-mul-mul_comm (m * up e) (m * up e) (down d) (down d))) (le_trans (mul-le-mul k k) (le_of_eq (mul-mul-mul_comm (n * up d) (down e) (n * up d) (down e)))))

pub add-plain : (x y : Float) → T (plain x) → T (plain y) → T (plain (add binary32 x y))
unfolding add sum
add-plain nan y p q = absurd p
add-plain (inf true) y p q = absurd p
add-plain (fin true m e) y p q = absurd p
add-plain (inf false) nan p q = absurd q
add-plain (inf false) (inf true) p q = absurd q
add-plain (inf false) (inf false) p q = tt
add-plain (inf false) (fin t n d) p q = tt
add-plain (fin false m e) nan p q = absurd q
add-plain (fin false m e) (inf true) p q = absurd q
add-plain (fin false m e) (inf false) p q = tt
add-plain (fin false m e) (fin true n d) p q = absurd q
add-plain (fin false m e) (fin false n d) p q = round_plain binary32 (m * up e * down d + n * up d * down e) (down e * down d)

-- the first summand grows
pub add_mono : (x x' y : Float) → T (plain x) → T (plain x') → T (plain y) → T (le x x') → T (le (add binary32 x y) (add binary32 x' y))
add_mono x x' y p p' q h = go y x' x p p' q h
  where
    sums : (a e b c n d : ℕ) → a * c ≤ b * e → (a * d + n * e) * (c * d) ≤ (b * d + n * c) * (e * d)
    sums a e b c n d h = simp ring (omega (arith, simp ring at (mul-le-mul_right (d * d) h)))

    go : (y x' x : Float) → T (plain x) → T (plain x') → T (plain y) → T (le x x') → T (le (add binary32 x y) (add binary32 x' y))
    go nan x' x p p' q h = absurd q
    go (inf true) x' x p p' q h = absurd q
    go (fin true n d) x' x p p' q h = absurd q
    go (inf false) nan x p p' q h = absurd p'
    go (inf false) (inf true) x p p' q h = absurd p'
    go (inf false) (fin true l c) x p p' q h = absurd p'
    go (inf false) (inf false) x p p' q h =
        let e : inf false ≡ add binary32 (inf false) (inf false) = unfold add in refl in subst (λ (z : Float). T (le (add binary32 x (inf false)) z)) e
        (le-top (add binary32 x (inf false)) (add-plain x (inf false) p tt))
    go (inf false) (fin false l c) x p p' q h =
        let e : inf false ≡ add binary32 (fin false l c) (inf false) = unfold add in refl in subst (λ (z : Float). T (le (add binary32 x (inf false)) z)) e
        (le-top (add binary32 x (inf false)) (add-plain x (inf false) p tt))
    go (fin false n d) nan x p p' q h = absurd p'
    go (fin false n d) (inf true) x p p' q h = absurd p'
    go (fin false n d) (fin true l c) x p p' q h = absurd p'
    go (fin false n d) (inf false) x p p' q h =
        let e : inf false ≡ add binary32 (inf false) (fin false n d) = unfold add in refl in subst (λ (z : Float). T (le (add binary32 x (fin false n d)) z)) e
        (le-top (add binary32 x (fin false n d)) (add-plain x (fin false n d) p tt))
    go (fin false n d) (fin false l c) nan p p' q h = absurd p
    go (fin false n d) (fin false l c) (inf true) p p' q h = absurd p
    go (fin false n d) (fin false l c) (fin true m e) p p' q h = absurd p
    go (fin false n d) (fin false l c) (inf false) p p' q h = absurd (unfold le lt eq in h)
    go (fin false n d) (fin false l c) (fin false m e) p p' q h =
        let k = fractions m l e c h in
        unfold add sum in
        round_mono binary32 (m * up e * down d + n * up d * down e) (down e * down d) (l * up c * down d + n * up d * down c) (down c * down d) (mul-pos (down_pos e) (down_pos d))
        (mul-pos (down_pos c) (down_pos d))
        (sums (m * up e) (down e) (l * up c) (down c) (n * up d) (down d) k)

-- ---- an offset of k halves over d halves, whatever its sign
pub div_is : (x y : Float) (s : Bool) (k d : ℕ) → 0 < d → HasValue x s k 2 → HasValue y false d 2 → div binary32 x y ≡ round binary32 s k d
div_is x y s k d D p q = go x y p q
  where
    same : (a e b c : ℕ) → a * 2 ≡ k * e → b * 2 ≡ d * c → a * c * d ≡ k * (b * e)
    same a e b c f g =
        eq_of_mul-eq-mul_right 2 (lit< tt) (a * c * d) (k * (b * e)) (simp ring (simp ring at (ap (λ (z : ℕ). z * (c * d)) f) ∙ sym (simp ring at (ap (λ (z : ℕ). z * (k * e)) g))))

    some : (m : ℕ) (e : ℤ) (n : ℕ) (c : ℤ) → n * up c * 2 ≡ d * down c → (b : Bool) → (T b → n ≡ 0)
        → cond b (cond (eqb m 0) nan (inf (unlike s false))) (round binary32 (unlike s false) (m * up e * down c) (n * up c * down e))
        ≡ round binary32 (unlike s false) (m * up e * down c) (n * up c * down e)
    some m e n c g true z = absurd (none (up c) (d * down c) (mul-pos D (down_pos c)) (ap (λ (w : ℕ). w * up c * 2) (sym (z tt)) ∙ g))
      where
        none : (u w : ℕ) → 0 < w → 0 * u * 2 ≡ w → ⊥
        none u w h f = omega arith
    some m e n c g false z = refl

    above : (n u w : ℕ) → 0 < w → n * u * 2 ≡ w → 0 < n * u
    above n u w h f = omega arith

    go : (x y : Float) → HasValue x s k 2 → HasValue y false d 2 → div binary32 x y ≡ round binary32 s k d
    go nan y p q = absurd p
    go (inf t) y p q = absurd p
    go (fin t m e) nan p q = absurd q
    go (fin t m e) (inf u) p q = absurd q
    go (fin t m e) (fin u n c) p q =
        subst (λ (w : Bool). div binary32 (fin w m e) (fin u n c) ≡ round binary32 s k d) (sym p.0)
        (subst (λ (w : Bool). div binary32 (fin s m e) (fin w n c) ≡ round binary32 s k d) (sym q.0)
        (unfold div in
        (some m e n c q.1 (eqb n 0) (eqb→eq n 0)
        ∙ ap (λ (w : Bool). round binary32 w (m * up e * down c) (n * up c * down e)) (like s)
        ∙ round_same binary32 s (m * up e * down c) (n * up c * down e) k d (mul-pos (above n (up c) (d * down c) (mul-pos D (down_pos c)) q.1) (down_pos e)) D
        (same (m * up e) (down e) (n * up c) (down c) p.1 q.1))))

square_neg : (x : Float) → square (neg x) ≡ square x
unfolding square neg mul
square_neg nan = refl
square_neg (inf true) = refl
square_neg (inf false) = refl
square_neg (fin true m e) = refl
square_neg (fin false m e) = refl

square_round : (s : Bool) (k d : ℕ) → square (round binary32 s k d) ≡ square (round binary32 false k d)
square_round false k d = refl
square_round true k d = ap square (sym (neg_round false k d)) ∙ square_neg (round binary32 false k d)

-- the part is the same for both signs
pub part-is : (x y : Float) (s : Bool) (k d : ℕ) → 0 < d → HasValue x s k 2 → HasValue y false d 2 → square (div binary32 x y) ≡ square (round binary32 false k d)
part-is x y s k d D p q = ap square (div_is x y s k d D p q) ∙ square_round s k d

-- and grows with the offset
pub part-plain : (k d : ℕ) → T (plain (square (round binary32 false k d)))
part-plain k d = square_plain (round binary32 false k d) (round_plain binary32 k d)

pub part_mono : (k l d : ℕ) → 0 < d → k ≤ l → T (le (square (round binary32 false k d)) (square (round binary32 false l d)))
part_mono k l d D h =
    square_mono (round binary32 false k d) (round binary32 false l d) (round_plain binary32 k d) (round_plain binary32 l d) (round_mono binary32 k d l d D D (mul-le-mul_right d h))
