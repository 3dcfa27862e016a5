-- The series of `Meaning` in natural numbers: each term is smaller than the one before, so that nothing is cut off. Assumes nothing.
use Rattle.std.proofs.Common.{◌≡◌, ℕ, zero, suc, ◌+◌, ◌-◌, ◌*◌, ◌^◌, ◌<◌, ◌≤◌, Bool, true, false, T, eqb, [], ◌∷◌, ℤ, pos, ◌-ℤ◌, ◌*ℤ◌, sym, refl, ap, ◌∙◌, subst, zero-le, le_trans, mul-le-mul_right, mul_assoc, mul_comm, mul-le-mul, mul-pos, pow-suc, sub-add_cancel, arith, eqb→eq}
use native.Mathlib.Nat.{mul-sub}
use lib.IntN.{pow}
use lib.Ieee.{unlike}
use Rattle.angle.specs.Meaning.{D, signed, coef, term, terms}
use Rattle.angle.proofs.Signs.{none, product, less}
use Rattle.angle.proofs.Every.{every, at}
use Rattle.angle.proofs.Nested.{bottom, top, divs}

-- r ^ m / m!, over `whole`
abbrev pub one : ℕ → ℕ → ℕ
one m x = coef m * x ^ m

unfoldable pub sum : ℕ → ℕ → ℕ → ℕ
sum zero m x = 0
sum (suc n) m x = one m x - sum n (suc (suc m)) x

-- ---- from a coefficient to the next but one
next : ℕ → ℕ → Bool
next m k = eqb (coef m) (suc m * suc (suc m) * (D * D) * coef (suc (suc m)))

all : T (every next 0 (0 ∷ 0 ∷ 0 ∷ 0 ∷ 0 ∷ 0 ∷ 0 ∷ 0 ∷ 0 ∷ 0 ∷ 0 ∷ 0 ∷ 0 ∷ 0 ∷ 0 ∷ 0 ∷ []))
unfolding next coef D
all = tt

coef-next : (m : ℕ) → m < 16 → coef m ≡ suc m * suc (suc m) * (D * D) * coef (suc (suc m))
unfolding next
coef-next m h = eqb→eq (coef m) (suc m * suc (suc m) * (D * D) * coef (suc (suc m))) (at next (0 ∷ 0 ∷ 0 ∷ 0 ∷ 0 ∷ 0 ∷ 0 ∷ 0 ∷ 0 ∷ 0 ∷ 0 ∷ 0 ∷ 0 ∷ 0 ∷ 0 ∷ 0 ∷ []) all m h)

pub one-next : (m x : ℕ) → m < 16 → one (suc (suc m)) x * (suc m * suc (suc m) * (D * D)) ≡ one m x * (x * x)
one-next m x h =
    ap (λ (p : ℕ). coef (suc (suc m)) * p * (suc m * suc (suc m) * (D * D))) (pow-suc x (suc m) ∙ ap (λ (p : ℕ). p * x) (pow-suc x m))
    ∙ go (coef (suc (suc m))) (x ^ m) (suc m * suc (suc m) * (D * D))
    ∙ ap (λ (k : ℕ). k * x ^ m * (x * x)) (sym (coef-next m h))
  where
    go : (c p k : ℕ) → c * (p * x * x) * k ≡ k * c * p * (x * x)
    go c p k = omega arith

-- ---- the terms fall
module _ (x : ℕ) (xD : x ≤ D) where
  falls : (m : ℕ) → m < 16 → one (suc (suc m)) x ≤ one m x
  falls m h =
      let e : coef m ≡ suc m * suc (suc m) * (D * D) * coef (suc (suc m)) = coef-next m h in
      let p : x ^ (suc (suc m)) ≡ x ^ m * x * x = pow-suc x (suc m) ∙ ap (λ (p : ℕ). p * x) (pow-suc x m) in
      go (coef m) (coef (suc (suc m))) (x ^ m) (x ^ (suc (suc m))) (x * x) (D * D) (suc m * suc (suc m)) e (p ∙ mul_assoc (x ^ m) x x) (mul-le-mul xD xD)
      (mul-pos {m = suc m} {n = suc (suc m)} (omega arith) (omega arith))
    where
      go : (c c' p p' y q d : ℕ) → c ≡ d * q * c' → p' ≡ p * y → y ≤ q → 0 < d → c' * p' ≤ c * p
      go c c' p p' y q d e f g h =
          subst (λ (k : ℕ). c' * p' ≤ k * p) (sym e)
          (subst (λ (k : ℕ). c' * k ≤ d * q * c' * p) (sym f) (omega (arith, mul-le-mul_right (c' * p) (mul-le-mul h g))))

  pub under : (n m : ℕ) → sum n m x ≤ one m x
  unfolding sum
  under zero m = zero-le
  under (suc n) m = cut (one m x) (sum n (suc (suc m)) x)
    where
      cut : (a b : ℕ) → a - b ≤ a
      cut a b = omega arith

  -- n terms from the m-th power on
  pub rest_under : (n m : ℕ) → m + 2 * suc n ≤ 19 → sum n (suc (suc m)) x ≤ one m x
  unfolding sum
  rest_under zero m h = zero-le
  rest_under (suc n) m h = le_trans (under (suc n) (suc (suc m))) (falls m (omega arith))

  -- ---- the integers of `Meaning`
  twice : (a s : Bool) → unlike (unlike a s) s ≡ a
  twice true true = refl
  twice true false = refl
  twice false true = refl
  twice false false = refl

  power : (s a : Bool) (m : ℕ) → pow (signed s x) m ≡ signed a (x ^ m) → pow (signed s x) (suc (suc m)) ≡ signed a (x ^ (suc (suc m)))
  unfolding pow
  power s a m e =
      ap (λ (k : ℤ). k *ℤ signed s x *ℤ signed s x) e
      ∙ ap (λ (k : ℤ). k *ℤ signed s x) (product a s (x ^ m) x)
      ∙ product (unlike a s) s (x ^ m * x) x
      ∙ ap (λ (b : Bool). signed b (x ^ m * x * x)) (twice a s)
      ∙ ap (signed a) (sym (pow-suc x (suc m) ∙ ap (λ (p : ℕ). p * x) (pow-suc x m)))

  like : (a : Bool) → unlike false a ≡ a
  like true = refl
  like false = refl

  pub terms_are : (s a : Bool) (n m : ℕ) → m + 2 * n ≤ 19 → pow (signed s x) m ≡ signed a (x ^ m) → terms n m (signed s x) ≡ signed a (sum n m x)
  unfolding terms term sum
  terms_are s a zero m h e = none a 0 refl
  terms_are s a (suc n) m h e =
      ap (λ (k : ℤ). pos (coef m) *ℤ k -ℤ terms n (suc (suc m)) (signed s x)) e
      ∙ ap (λ (k : ℤ). k -ℤ terms n (suc (suc m)) (signed s x)) (product false a (coef m) (x ^ m) ∙ ap (λ (b : Bool). signed b (one m x)) (like a))
      ∙ ap (λ (k : ℤ). signed a (one m x) -ℤ k) (terms_are s a n (suc (suc m)) (omega arith) (power s a m e))
      ∙ less a (one m x) (sum n (suc (suc m)) x) (one m x - sum n (suc (suc m)) x) (sub-add_cancel (rest_under n m h))

  -- ---- the nested form
  pub nested : (n m : ℕ) → m + 2 * suc n ≤ 19 → sum (suc n) m x * bottom (divs n m) (D * D) ≡ one m x * top (divs n m) (x * x) (D * D)
  unfolding sum bottom top
  nested zero m h = ap (λ (k : ℕ). k * 1) (nothing (one m x))
    where
      nothing : (a : ℕ) → a - 0 ≡ a
      nothing a = omega arith
  nested (suc n) m h =
      let d = suc m * suc (suc m) in
      go (one m x) (sum (suc n) (suc (suc m)) x) (one (suc (suc m)) x) (d * (D * D)) (bottom (divs n (suc (suc m))) (D * D)) (top (divs n (suc (suc m))) (x * x) (D * D)) (x * x)
      (nested n (suc (suc m)) (omega arith)) (one-next m x (omega arith))
    where
      go : (T S T' k b t Y : ℕ) → S * b ≡ T' * t → T' * k ≡ T * Y → (T - S) * (k * b) ≡ T * (k * b - Y * t)
      go T S T' k b t Y e f =
          mul_comm (T - S) (k * b) ∙ mul-sub (k * b) T S
          ∙ subtract (k * b * T) (T * (k * b)) (k * b * S) (T * (Y * t)) (mul_comm (k * b) T) (omega (arith, ap (λ (z : ℕ). k * z) e, ap (λ (z : ℕ). z * t) f))
          ∙ sym (mul-sub T (k * b) (Y * t))
        where
          subtract : (a b c d : ℕ) → a ≡ b → c ≡ d → a - c ≡ b - d
          subtract a b c d p q = cc

abbrev pub sin_at : ℕ → ℕ
sin_at y = sum 9 1 y

abbrev pub cos_at : ℕ → ℕ
cos_at y = sum 9 0 y
