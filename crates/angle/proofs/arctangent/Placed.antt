-- From the rule's angle in an eighth of a turn to the meanings at the whole angle. Assumes nothing.
use Rattle.std.proofs.Common.{◌≡◌, ℕ, ◌+◌, ◌*◌, ◌^◌, ◌<◌, ◌≤◌, Bool, true, false, ℤ, pos, ◌+ℤ◌, ◌-ℤ◌, ◌*ℤ◌, nat_abs, ◌<ℤ◌, sym, refl, ap, ◌∙◌, subst, mul-le-mul_left, mul-pos, zero-mul, arith, lit<, lt→ltb}
use lib.Signed.{lt_z_yes}
use lib.Ieee.{unlike}
use Rattle.angle.specs.Meaning.{H, whole, signed, mod4, placed, sine, cosine, Along}
use Rattle.angle.proofs.Signs.{size, none, opposite, product, apart}
use Rattle.angle.proofs.Terms.{sin_at, cos_at}
use Rattle.angle.proofs.Placing.{sine-is, cosine-is}

-- y is the angle of the direction that is `up` up and `right` to the right, as 01 asks.
pub record Good (up right y : ℕ) : Type 0 where
  pub over : 262144 * (right * sin_at y) ≤ 262144 * (up * cos_at y) + (right + up) * whole
  pub beneath : 262144 * (up * cos_at y) ≤ 262144 * (right * sin_at y) + (right + up) * whole
  pub ahead : 0 < right * cos_at y + up * sin_at y

-- a half, in D-ths
unfoldable pub part : ℕ
part = 2 ^ 148

pub part_pos : 0 < part
unfolding part
part_pos = lit< tt

-- S and C have the signs a and c, up and right the signs s and l, and the two products that are near each other have the sign g
along : (s l a c g : Bool) (u v S C : ℕ) → unlike l a ≡ g → unlike s c ≡ g → unlike l c ≡ false → unlike s a ≡ false
    → 262144 * (v * S) ≤ 262144 * (u * C) + (v + u) * whole → 262144 * (u * C) ≤ 262144 * (v * S) + (v + u) * whole → 0 < v * C + u * S
    → Along (signed s (u * part)) (signed l (v * part)) (signed a S) (signed c C)
along s l a c g u v S C e1 e2 e3 e4 hi lo front = record {
  near =
      subst (λ (z : ℕ). nat_abs (signed l (v * part) *ℤ signed a S -ℤ signed s (u * part) *ℤ signed c C) * 2 ^ 18 ≤ z * whole) (sym (sizes l s (v * part) (u * part)))
      (subst (λ (z : ℤ). nat_abs z * 2 ^ 18 ≤ (v * part + u * part) * whole)
      (sym (two l a (v * part) S g e1 (signed s (u * part) *ℤ signed c C) (λ (x y : ℤ). x -ℤ y) ∙ ap (λ (z : ℤ). signed g (v * part * S) -ℤ z) (one s c (u * part) C g e2)))
      (apart g (v * part * S) (u * part * C) (2 ^ 18) ((v * part + u * part) * whole) (omega (arith, mul-le-mul_left part hi)) (omega (arith, mul-le-mul_left part lo))));
  ahead =
      subst (λ (z : ℤ). pos 0 <ℤ z)
      (sym (ap (λ (z : ℤ). z +ℤ signed s (u * part) *ℤ signed a S) (one l c (v * part) C false e3) ∙ ap (λ (z : ℤ). pos (v * part * C) +ℤ z) (one s a (u * part) S false e4)))
      (lt_z_yes (lt→ltb 0 (v * part * C + u * part * S) (positive (mul-pos part_pos front))));
}
  where
    one : (s t : Bool) (m n : ℕ) (g : Bool) → unlike s t ≡ g → signed s m *ℤ signed t n ≡ signed g (m * n)
    one s t m n g e = product s t m n ∙ ap (λ (b : Bool). signed b (m * n)) e

    two : (s t : Bool) (m n : ℕ) (g : Bool) → unlike s t ≡ g → (y : ℤ) (f : ℤ → ℤ → ℤ) → f (signed s m *ℤ signed t n) y ≡ f (signed g (m * n)) y
    two s t m n g e y f = ap (λ (z : ℤ). f z y) (one s t m n g e)

    sizes : (s t : Bool) (m n : ℕ) → nat_abs (signed s m) + nat_abs (signed t n) ≡ m + n
    sizes s t m n = ap (λ (z : ℕ). z + nat_abs (signed t n)) (size s m) ∙ ap (λ (z : ℕ). m + z) (size t n)

    positive : 0 < part * (v * C + u * S) → 0 < v * part * C + u * part * S
    positive h = omega arith

-- the same at an angle whose meanings are known
at : (s l a c g : Bool) (u v S C : ℕ) (t : ℤ) → sine t ≡ signed a S → cosine t ≡ signed c C → unlike l a ≡ g → unlike s c ≡ g → unlike l c ≡ false → unlike s a ≡ false
    → 262144 * (v * S) ≤ 262144 * (u * C) + (v + u) * whole → 262144 * (u * C) ≤ 262144 * (v * S) + (v + u) * whole → 0 < v * C + u * S
    → Along (signed s (u * part)) (signed l (v * part)) (sine t) (cosine t)
at s l a c g u v S C t e f e1 e2 e3 e4 hi lo front =
    subst (λ (z : ℤ). Along (signed s (u * part)) (signed l (v * part)) z (cosine t)) (sym e)
    (subst (λ (z : ℤ). Along (signed s (u * part)) (signed l (v * part)) (signed a S) z) (sym f) (along s l a c g u v S C e1 e2 e3 e4 hi lo front))

-- ---- the eighths of a turn: y past 0, short of 90, past 90, short of 180
pub meets_1 : (s : Bool) (u v x y : ℕ) → 2 * y < H → y + 0 * H ≡ x → Good u v y → Along (signed s (u * part)) (signed false (v * part)) (sine (signed s x)) (cosine (signed s x))
unfolding mod4 placed
meets_1 false u v x y h e g =
    at false false false false false u v (sin_at y) (cos_at y) (signed false x) (sine-is false false x 0 y h e) (cosine-is false false x 0 y h e) refl refl refl refl g.over g.beneath g.ahead
meets_1 true u v x y h e g =
    at true false true false true u v (sin_at y) (cos_at y) (signed true x) (sine-is true false x 0 y h e) (cosine-is true false x 0 y h e) refl refl refl refl g.over g.beneath g.ahead

swap : (u v y : ℕ) → Good v u y
    → (262144 * (v * cos_at y) ≤ 262144 * (u * sin_at y) + (v + u) * whole) × (262144 * (u * sin_at y) ≤ 262144 * (v * cos_at y) + (v + u) * whole) × (0 < v * sin_at y + u * cos_at y)
swap u v y g = (omega (arith, g.beneath), omega (arith, g.over), omega (arith, g.ahead))

pub meets_2 : (s : Bool) (u v x y : ℕ) → 2 * y < H → y + x ≡ 1 * H → Good v u y → Along (signed s (u * part)) (signed false (v * part)) (sine (signed s x)) (cosine (signed s x))
unfolding mod4 placed
meets_2 false u v x y h e g =
    let w = swap u v y g in at false false false false false u v (cos_at y) (sin_at y) (signed false x) (sine-is false true x 1 y h e)
    (cosine-is false true x 1 y h e ∙ opposite true (sin_at y)) refl refl refl refl w.0 w.1 w.2
meets_2 true u v x y h e g =
    let w = swap u v y g in at true false true false true u v (cos_at y) (sin_at y) (signed true x) (sine-is true true x 1 y h e) (cosine-is true true x 1 y h e) refl refl refl refl w.0 w.1 w.2

pub meets_3 : (s : Bool) (u v x y : ℕ) → 2 * y < H → y + 1 * H ≡ x → Good v u y → Along (signed s (u * part)) (signed true (v * part)) (sine (signed s x)) (cosine (signed s x))
unfolding mod4 placed
meets_3 false u v x y h e g =
    let w = swap u v y g in at false true false true true u v (cos_at y) (sin_at y) (signed false x) (sine-is false false x 1 y h e) (cosine-is false false x 1 y h e) refl refl refl refl w.0
    w.1 w.2
meets_3 true u v x y h e g =
    let w = swap u v y g in at true true true true false u v (cos_at y) (sin_at y) (signed true x) (sine-is true false x 1 y h e) (cosine-is true false x 1 y h e) refl refl refl refl w.0 w.1
    w.2

pub meets_4 : (s : Bool) (u v x y : ℕ) → 2 * y < H → y + x ≡ 2 * H → Good u v y → Along (signed s (u * part)) (signed true (v * part)) (sine (signed s x)) (cosine (signed s x))
unfolding mod4 placed
meets_4 false u v x y h e g =
    at false true false true true u v (sin_at y) (cos_at y) (signed false x) (sine-is false true x 2 y h e ∙ opposite true (sin_at y)) (cosine-is false true x 2 y h e) refl refl refl refl g.over
    g.beneath g.ahead
meets_4 true u v x y h e g =
    at true true true true false u v (sin_at y) (cos_at y) (signed true x) (sine-is true true x 2 y h e) (cosine-is true true x 2 y h e) refl refl refl refl g.over g.beneath g.ahead

-- a zero has either sign
pub flat : (s t : Bool) → signed s (0 * part) ≡ signed t (0 * part)
flat s t = ap (signed s) (zero-mul part) ∙ sym (none s 0 refl) ∙ none t 0 refl ∙ ap (signed t) (sym (zero-mul part))

-- y past 180, on the axis
pub meets_5 : (s : Bool) (v x y : ℕ) → 2 * y < H → y + 2 * H ≡ x → Good 0 v y → Along (signed s (0 * part)) (signed true (v * part)) (sine (signed s x)) (cosine (signed s x))
unfolding mod4 placed
meets_5 false v x y h e g =
    subst (λ (z : ℤ). Along z (signed true (v * part)) (sine (signed false x)) (cosine (signed false x))) (flat true false)
    (at true true true true false 0 v (sin_at y) (cos_at y) (signed false x) (sine-is false false x 2 y h e) (cosine-is false false x 2 y h e) refl refl refl refl g.over g.beneath g.ahead)
meets_5 true v x y h e g =
    subst (λ (z : ℤ). Along z (signed true (v * part)) (sine (signed true x)) (cosine (signed true x))) (flat false true)
    (at false true false true true 0 v (sin_at y) (cos_at y) (signed true x) (sine-is true false x 2 y h e ∙ opposite true (sin_at y)) (cosine-is true false x 2 y h e) refl refl refl refl g.over
    g.beneath g.ahead)
