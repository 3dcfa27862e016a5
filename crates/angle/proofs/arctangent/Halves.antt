-- A multiple of a half: how many halves it is, and what it is in D-ths. Assumes nothing.
use Rattle.std.proofs.Common.{◌≡◌, ℕ, ◌+◌, ◌*◌, ◌/◌, ◌%◌, ◌≤◌, min, Bool, true, false, T, eqb, leb, ℤ, sym, refl, ap, ◌∙◌, subst, div-add-mod', mul-div_cancel, arith, lit≤, eqb→eq, leb→le}
use native.Mathlib.Nat.{zero-div}
use lib.Ieee.{Float, nan, inf, fin, up, down, lt, eq}
use lib.Ieee.Fits.{and_l, and_r, down_pos}
use Rattle.floats.specs.Size.{sign_of, plus_zero}
use Rattle.floats.proofs.Range.{no, yes}
use Rattle.floats.proofs.Signs.{sign_other, zero-size}
use Rattle.angle.specs.Meaning.{D, signed, parts}
use Rattle.angle.specs.Arctangent.{halves_of, is_halves}
use Rattle.angle.proofs.arctangent.Placed.{part, flat}

pub halves-few : (x : Float) → halves_of x ≤ 32766
unfolding halves_of
halves-few nan = lit≤ tt
halves-few (inf s) = lit≤ tt
halves-few (fin s m e) = omega arith

pub exact : (s : Bool) (m : ℕ) (e : ℤ) → T (is_halves (fin s m e)) → m * up e * 2 ≡ halves_of (fin s m e) * down e
unfolding is_halves halves_of
exact s m e h =
    let r : m * up e * 2 % down e ≡ 0 = eqb→eq (m * up e * 2 % down e) 0 (and_l (eqb (m * up e * 2 % down e) 0) (leb (m * up e * 2 / down e) 32766) h) in
    let k : m * up e * 2 / down e ≤ 32766 = leb→le (m * up e * 2 / down e) 32766 (and_r (eqb (m * up e * 2 % down e) 0) (leb (m * up e * 2 / down e) 32766) h) in
    go (m * up e * 2) (m * up e * 2 / down e) (m * up e * 2 % down e) (down e) r k (div-add-mod' (m * up e * 2) (down e))
  where
    go : (n q r d : ℕ) → r ≡ 0 → q ≤ 32766 → q * d + r ≡ n → n ≡ min q 32766 * d
    go n q r d e h f = sym f ∙ ap (λ (z : ℕ). q * d + z) e ∙ ap (λ (z : ℕ). z * d + 0) (uncut q h) ∙ omega arith
      where
        uncut : (q : ℕ) → q ≤ 32766 → q ≡ min q 32766
        uncut q h = omega arith

pub size-zero : (x : Float) → T (is_halves x) → eq x plus_zero ≡ true → 0 ≡ halves_of x
unfolding is_halves halves_of eq
size-zero nan h q = absurd h
size-zero (inf s) h q = absurd h
size-zero (fin s m e) h q = sym (ap (λ (z : ℕ). min (z * 2 / down e) 32766) (zero-size s m e (yes q)) ∙ ap (λ (z : ℕ). min z 32766) (zero-div (down e)))

-- ---- in D-ths
pub D-is : D ≡ 2 * part
unfolding D part
D-is = refl

pub parts_are : (x : Float) → T (is_halves x) → parts x ≡ signed (sign_of x) (halves_of x * part)
unfolding parts is_halves sign_of
parts_are nan h = absurd h
parts_are (inf s) h = absurd h
parts_are (fin s m e) h =
    ap (signed s) (ap (λ (z : ℕ). z / down e) (go (m * up e) (halves_of (fin s m e)) (down e) D (exact s m e h) D-is) ∙ mul-div_cancel (halves_of (fin s m e) * part) (down_pos e))
  where
    go : (n k d D : ℕ) → n * 2 ≡ k * d → D ≡ 2 * part → n * D ≡ k * part * d
    go n k d D f g = omega (arith, ap (λ (z : ℕ). z * part) f, ap (λ (z : ℕ). n * z) g)

-- right's sign, which a zero has too
pub right_is : (x : Float) → T (is_halves x) → parts x ≡ signed (lt x plus_zero) (halves_of x * part)
right_is x h = parts_are x h ∙ go (eq x plus_zero) refl
  where
    none : (n : ℕ) → 0 ≡ n → signed (sign_of x) (n * part) ≡ signed (lt x plus_zero) (n * part)
    none n e = subst (λ (k : ℕ). signed (sign_of x) (k * part) ≡ signed (lt x plus_zero) (k * part)) e (flat (sign_of x) (lt x plus_zero))

    go : (b : Bool) → eq x plus_zero ≡ b → signed (sign_of x) (halves_of x * part) ≡ signed (lt x plus_zero) (halves_of x * part)
    go true e = none (halves_of x) (size-zero x h e)
    go false e = ap (λ (a : Bool). signed a (halves_of x * part)) (sym (sign_other x (no e)))
