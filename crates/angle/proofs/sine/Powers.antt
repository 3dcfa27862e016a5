-- The terms of an angle that is half a right angle at most: how large each is, in 10 ^ 12ths, and what the nine sum up to. Assumes nothing.
use Rattle.std.proofs.Common.{◌≡◌, ℕ, suc, ◌+◌, ◌*◌, ◌<◌, ◌≤◌, refl, ap, ◌∙◌, mul-le-mul_right, mul-le-mul, mul-pos, pow-suc, mul-one, sub-add_cancel, le_of_mul-le-mul_right, arith, lit<, lit≤}
use native.Mathlib.Nat.{pow-zero}
use Rattle.angle.specs.Meaning.{D, H, whole, coef}
use Rattle.angle.proofs.Terms.{one, sum, one-next, rest_under, sin_at, cos_at}

pub D-pos : 0 < D
unfolding D
D-pos = lit< tt

pub Q-pos : 0 < D * D
Q-pos = mul-pos D-pos D-pos

coef_1 : coef 1 * D ≡ whole
unfolding coef D whole
coef_1 = refl

coef_0 : coef 0 ≡ whole
unfolding coef whole
coef_0 = refl

pub first : (y : ℕ) → one 1 y * D ≡ y * whole
first y = ap (λ (z : ℕ). coef 1 * z * D) (pow-suc y 0 ∙ ap (λ (z : ℕ). z * y) (pow-zero y)) ∙ go (coef 1) whole coef_1
  where
    go : (c w : ℕ) → c * D ≡ w → c * (1 * y) * D ≡ y * w
    go c w e = omega (arith, ap (λ (z : ℕ). y * z) e)

pub none : (y : ℕ) → one 0 y ≡ whole
none y = ap (λ (z : ℕ). coef 0 * z) (pow-zero y) ∙ mul-one (coef 0) ∙ coef_0

H-few : H * 10000 ≤ 15708 * D
unfolding H D
H-few = lit≤ tt

module _ (y : ℕ) (half : 2 * y < H) where
  pub y-few : y * 10000 ≤ 7854 * D
  y-few = omega (arith, H-few)

  pub yD : y ≤ D
  yD = omega (arith, y-few)

  pub YQ : y * y ≤ D * D
  YQ = mul-le-mul yD yD

  Y-few : y * y * 100000 ≤ 61686 * (D * D)
  Y-few = go (mul-le-mul y-few y-few)
    where
      go : y * 10000 * (y * 10000) ≤ 7854 * D * (7854 * D) → y * y * 100000 ≤ 61686 * (D * D)
      go h = omega (arith, h)

  smaller : (T T' d α β : ℕ) → T' * (d * (D * D)) ≡ T * (y * y) → T * α ≤ β * whole → T' * (d * α * 100000) ≤ β * 61686 * whole
  smaller T T' d α β e h = le_of_mul-le-mul_right {k = D * D} (go (D * D) (y * y) whole e h Y-few) Q-pos
    where
      go : (q s w : ℕ) → T' * (d * q) ≡ T * s → T * α ≤ β * w → s * 100000 ≤ 61686 * q → T' * (d * α * 100000) * q ≤ β * 61686 * w * q
      go q s w e h k = omega (arith, ap (λ (z : ℕ). z * (α * 100000)) e, mul-le-mul_right (s * 100000) h, mul-le-mul_right (β * w) k)

  next : (m : ℕ) → m < 16 → one (suc (suc m)) y * (suc m * suc (suc m) * (D * D)) ≡ one m y * (y * y)
  next m h = one-next m y h

  t1 : one 1 y * 10000 ≤ 7854 * whole
  t1 = le_of_mul-le-mul_right {k = D} (go (one 1 y) whole (first y)) D-pos
    where
      go : (t w : ℕ) → t * D ≡ y * w → t * 10000 * D ≤ 7854 * w * D
      go t w e = omega (arith, mul-le-mul_right w y-few)

  pub t3 : one 3 y * 1000000000000 ≤ 80746974000 * whole
  t3 = let h = smaller (one 1 y) (one 3 y) 6 10000 7854 (next 1 (lit< tt)) t1 in omega (arith, h)

  pub t5 : one 5 y * 1000000000000 ≤ 2490478920 * whole
  t5 = let h = smaller (one 3 y) (one 5 y) 20 1000000000000 80746974000 (next 3 (lit< tt)) t3 in omega (arith, h)

  pub t7 : one 7 y * 1000000000000 ≤ 36578020 * whole
  t7 = let h = smaller (one 5 y) (one 7 y) 42 1000000000000 2490478920 (next 5 (lit< tt)) t5 in omega (arith, h)

  pub t9 : one 9 y * 1000000000000 ≤ 313383 * whole
  t9 = let h = smaller (one 7 y) (one 9 y) 72 1000000000000 36578020 (next 7 (lit< tt)) t7 in omega (arith, h)

  t0 : one 0 y * 1 ≤ 1 * whole
  t0 = omega (arith, none y)

  pub t2 : one 2 y * 1000000000000 ≤ 308430000000 * whole
  t2 = let h = smaller (one 0 y) (one 2 y) 2 1 1 (next 0 (lit< tt)) t0 in omega (arith, h)

  pub t4 : one 4 y * 1000000000000 ≤ 15854844150 * whole
  t4 = let h = smaller (one 2 y) (one 4 y) 12 1000000000000 308430000000 (next 2 (lit< tt)) t2 in omega (arith, h)

  pub t6 : one 6 y * 1000000000000 ≤ 326007306 * whole
  t6 = let h = smaller (one 4 y) (one 6 y) 30 1000000000000 15854844150 (next 4 (lit< tt)) t4 in omega (arith, h)

  pub t8 : one 8 y * 1000000000000 ≤ 3591087 * whole
  t8 = let h = smaller (one 6 y) (one 8 y) 56 1000000000000 326007306 (next 6 (lit< tt)) t6 in omega (arith, h)

  pub t10 : one 10 y * 1000000000000 ≤ 24614 * whole
  t10 = let h = smaller (one 8 y) (one 10 y) 90 1000000000000 3591087 (next 8 (lit< tt)) t8 in omega (arith, h)

  -- products with the square, as the steps of the polynomials take them
  pub p3 : 6 * one 3 y * (D * D) ≡ y * y * one 1 y
  p3 = omega (arith, next 1 (lit< tt))

  pub p5 : 120 * one 5 y * (D * D) ≡ y * y * (6 * one 3 y)
  p5 = omega (arith, next 3 (lit< tt))

  pub p7 : 5040 * one 7 y * (D * D) ≡ y * y * (120 * one 5 y)
  p7 = omega (arith, next 5 (lit< tt))

  pub p2 : 2 * one 2 y * (D * D) ≡ y * y * whole
  p2 = omega (arith, next 0 (lit< tt), ap (λ (z : ℕ). z * (y * y)) (none y))

  pub p4 : 24 * one 4 y * (D * D) ≡ y * y * (2 * one 2 y)
  p4 = omega (arith, next 2 (lit< tt))

  pub p6 : 720 * one 6 y * (D * D) ≡ y * y * (24 * one 4 y)
  p6 = omega (arith, next 4 (lit< tt))

  pub p8 : 40320 * one 8 y * (D * D) ≡ y * y * (720 * one 6 y)
  p8 = omega (arith, next 6 (lit< tt))

  -- ---- the sums
  pub cut : (n m : ℕ) → m + 2 * suc n ≤ 19 → sum (suc n) m y + sum n (suc (suc m)) y ≡ one m y
  unfolding sum
  cut n m h = sub-add_cancel (rest_under y yD n m h)

  pub record Sine : Type 0 where
    pub rest : ℕ
    pub few : rest ≤ one 9 y
    pub is : sin_at y + one 3 y + one 7 y ≡ one 1 y + one 5 y + rest

  pub sine_sum : Sine
  sine_sum = record {
    rest = sum 5 9 y;
    few = omega (arith, cut 4 9 (lit≤ tt));
    is = omega (arith, cut 8 1 (lit≤ tt), cut 7 3 (lit≤ tt), cut 6 5 (lit≤ tt), cut 5 7 (lit≤ tt));
  }

  pub record Cosine : Type 0 where
    pub rest : ℕ
    pub few : rest ≤ one 10 y
    pub is : cos_at y + one 2 y + one 6 y + rest ≡ whole + one 4 y + one 8 y

  pub cosine_sum : Cosine
  cosine_sum = record {
    rest = sum 4 10 y;
    few = omega (arith, cut 3 10 (lit≤ tt));
    is = omega (arith, none y, cut 8 0 (lit≤ tt), cut 7 2 (lit≤ tt), cut 6 4 (lit≤ tt), cut 5 6 (lit≤ tt), cut 4 8 (lit≤ tt));
  }
