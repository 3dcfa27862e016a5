-- The meaning at an angle that is y past j right angles, or y short of them, y being less than half of one. Assumes nothing.
use Rattle.std.proofs.Common.{◌≡◌, ℕ, zero, suc, ◌+◌, ◌-◌, ◌*◌, ◌%◌, ◌^◌, ◌<◌, ◌≤◌, Bool, true, false, cond, not, ℤ, pos, negsuc, ◌+ℤ◌, ◌-ℤ◌, ◌*ℤ◌, neg_ℤ, sym, ap, ◌∙◌, pow-suc, arith, lit<, lit≤}
use native.Mathlib.Nat.{div-eq_of_lt-le, div-eq_of_lt, pow-zero}
use lib.IntN as IntN
use lib.IntN.{pow, neg_ℤ-neg_ℤ}
use lib.Signed.{shr_z}
use lib.Ieee.{unlike}
use Rattle.angle.specs.Meaning.{D, H, signed, nearestK, rest, terms, mod4, placed, sine, cosine}
use Rattle.floats.proofs.Powers.{like}
use Rattle.angle.proofs.Signs.{plus, product, less, short}
use Rattle.angle.proofs.Terms.{terms_are, sin_at, cos_at}

pub H-pos : 0 < H
unfolding H
H-pos = lit< tt

H-few : H ≤ 2 * D
unfolding H D
H-few = lit≤ tt

-- x is y short of j right angles, or past them
abbrev pub Beside : Bool → ℕ → ℕ → ℕ → Type 0
Beside true x j y = y + x ≡ j * H
Beside false x j y = y + j * H ≡ x

-- x is at most half a right angle from j of them; and the lower of two that are as near is taken
abbrev pub Around : Bool → ℕ → ℕ → Type 0
Around false x j = (2 * (j * H) < 2 * x + H) × (2 * x ≤ 2 * (j * H) + H)
Around true x j = (2 * (j * H) ≤ 2 * x + H) × (2 * x < 2 * (j * H) + H)

around : (s b : Bool) (x j y : ℕ) → 2 * y < H → Beside b x j y → Around s x j
around false true x j y h e = (omega arith, omega (arith, H-pos))
around false false x j y h e = (omega (arith, H-pos), omega arith)
around true true x j y h e = (omega arith, omega (arith, H-pos))
around true false x j y h e = (omega (arith, H-pos), omega arith)

pub k-at : (s : Bool) (x j : ℕ) → Around s x j → nearestK (signed s x) ≡ signed s j
unfolding nearestK
k-at false x j a = ap pos (div-eq_of_lt-le (2 * H) (omega (arith, H-pos, a.0, a.1)) (omega (arith, H-pos, a.0, a.1)))
k-at true x zero a =
    let d = H - 1 - (x + x) in
    ap (λ (z : ℤ). shr_z (z +ℤ pos (H - 1)) (2 * H)) (plus true x x)
    ∙ ap (λ (z : ℤ). shr_z (signed true (x + x) +ℤ z) (2 * H)) (sym (neg_ℤ-neg_ℤ (pos (H - 1))))
    ∙ ap (λ (z : ℤ). shr_z z (2 * H)) (short true (x + x) (H - 1) d (omega (arith, a.0, a.1)))
    ∙ ap pos (div-eq_of_lt (omega (arith, H-pos, a.0, a.1)))
k-at true x (suc i) a =
    let d = x + x - H in
    ap (λ (z : ℤ). shr_z (z +ℤ pos (H - 1)) (2 * H)) (plus true x x)
    ∙ ap (λ (z : ℤ). shr_z (signed true (x + x) +ℤ z) (2 * H)) (sym (neg_ℤ-neg_ℤ (pos (H - 1))))
    ∙ ap (λ (z : ℤ). shr_z z (2 * H)) (less true (x + x) (H - 1) (suc d) (omega (arith, H-pos, a.0, a.1)))
    ∙ ap negsuc (div-eq_of_lt-le (2 * H) (omega (arith, H-pos, a.0, a.1)) (omega (arith, H-pos, a.0, a.1)))

first : (s : Bool) (y : ℕ) → pow (signed s y) 1 ≡ signed s (y ^ 1)
unfolding pow IntN.one
first s y = product false s 1 y ∙ same s (1 * y) (y ^ 1) (sym (pow-suc y 0 ∙ ap (λ (z : ℕ). z * y) (pow-zero y)))
  where
    same : (s : Bool) (a b : ℕ) → a ≡ b → signed (unlike false s) a ≡ signed s b
    same true a b e = ap (signed true) e
    same false a b e = ap (signed false) e

none : (s : Bool) (y : ℕ) → pow (signed s y) 0 ≡ signed false (y ^ 0)
unfolding pow IntN.one
none s y = ap pos (sym (pow-zero y))

module _ (s b : Bool) (x j y : ℕ) (h : 2 * y < H) (e : Beside b x j y) where
  -- the sign of the rest
  abbrev side : Bool
  side = cond b (not s) s

  k-is : nearestK (signed s x) ≡ signed s j
  k-is = k-at s x j (around s b x j y h e)

  rest_at : (b : Bool) → Beside b x j y → signed s x -ℤ signed s (j * H) ≡ signed (cond b (not s) s) y
  rest_at true e = short s x (j * H) y e
  rest_at false e = less s x (j * H) y e

  rest-is : rest (signed s x) ≡ signed side y
  unfolding rest
  rest-is =
      ap (λ (z : ℤ). signed s x -ℤ z *ℤ pos H) k-is
      ∙ ap (λ (z : ℤ). signed s x -ℤ z) (product s false j H ∙ ap (λ (t : Bool). signed t (j * H)) (like s))
      ∙ rest_at b e

  pub small : y ≤ D
  small = omega (arith, H-few)

  sin_is : terms 9 1 (rest (signed s x)) ≡ signed side (sin_at y)
  sin_is = ap (terms 9 1) rest-is ∙ terms_are y small side side 9 1 (lit≤ tt) (first side y)

  cos_is : terms 9 0 (rest (signed s x)) ≡ pos (cos_at y)
  cos_is = ap (terms 9 0) rest-is ∙ terms_are y small side false 9 0 (lit≤ tt) (none side y)

  pub sine-is : sine (signed s x) ≡ placed neg_ℤ (mod4 (signed s j)) (signed side (sin_at y)) (pos (cos_at y))
  unfolding sine
  sine-is = rw (k-is, sin_is, cos_is)

  pub cosine-is : cosine (signed s x) ≡ placed neg_ℤ ((mod4 (signed s j) + 1) % 4) (signed side (sin_at y)) (pos (cos_at y))
  unfolding cosine
  cosine-is = rw (k-is, sin_is, cos_is)
