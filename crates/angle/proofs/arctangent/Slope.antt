-- The polynomial in x itself, and its difference between two points by the slope at one. Assumes nothing.
use Rattle.std.proofs.Common.{◌≡◌, ℕ, ◌+◌, ◌*◌, ◌/◌, ◌<◌, ◌≤◌, List, [], ◌∷◌, sym, refl, ap, ◌∙◌, mul-le-mul_right, mul-le-mul, mul-le-mul_left, mul-zero, le_of_mul-le-mul_right, arith, lit≤}
use Rattle.angle.specs.Meaning.{D}
use Rattle.angle.proofs.arctangent.Poly.{eval, dev2}
use Rattle.angle.proofs.arctangent.Budget.{Most, m, L2}
use Rattle.angle.proofs.arctangent.Horner.{h, q, q5, evens, odds, A0, A1, A2, A3, A4, A5, A6, A7, A8, A9, A10}

-- every fourth power
unfoldable pub spread : List ℕ → List ℕ
spread [] = []
spread (c ∷ cs) = c ∷ 0 ∷ 0 ∷ 0 ∷ spread cs

pub spread_is : (cs : List ℕ) (x : ℕ) → eval (spread cs) x ≡ eval cs (x * x * (x * x))
unfolding eval spread
spread_is [] x = refl
spread_is (c ∷ cs) x = go (eval (spread cs) x) (eval cs (x * x * (x * x))) (spread_is cs x)
  where
    go : (a b : ℕ) → a ≡ b → c + x * (0 + x * (0 + x * (0 + x * a))) ≡ c + x * x * (x * x) * b
    go a b e = omega (arith, ap (λ (z : ℕ). x * x * (x * x) * z) e)

unfoldable pub scale : ℕ → List ℕ → List ℕ
scale k [] = []
scale k (c ∷ cs) = k * c ∷ scale k cs

pub scale_is : (k : ℕ) (cs : List ℕ) (x : ℕ) → eval (scale k cs) x ≡ k * eval cs x
unfolding eval scale
scale_is k [] x = sym (mul-zero k)
scale_is k (c ∷ cs) x = go (eval (scale k cs) x) (eval cs x) (scale_is k cs x)
  where
    go : (a b : ℕ) → a ≡ k * b → k * c + x * a ≡ k * (c + x * b)
    go a b e = omega (arith, ap (λ (z : ℕ). x * z) e)

unfoldable pub ups : List ℕ
unfolding spread
ups = 0 ∷ 0 ∷ 0 ∷ spread evens

unfoldable pub downs : List ℕ
unfolding spread scale
downs = 0 ∷ 0 ∷ 0 ∷ 0 ∷ 0 ∷ spread (scale (D * D) odds)

pub ups_is : (x : ℕ) → eval ups x ≡ x * (x * x * eval evens (x * x * (x * x)))
unfolding ups eval
ups_is x = go (eval (spread evens) x) (eval evens (x * x * (x * x))) (spread_is evens x)
  where
    go : (a b : ℕ) → a ≡ b → 0 + x * (0 + x * (0 + x * a)) ≡ x * (x * x * b)
    go a b e = omega (arith, ap (λ (z : ℕ). x * x * x * z) e)

pub downs_is : (x : ℕ) → eval downs x ≡ x * (D * D * (x * x * (x * x) * eval odds (x * x * (x * x))))
unfolding downs eval
downs_is x = go (eval (spread (scale (D * D) odds)) x) (eval odds (x * x * (x * x))) (D * D) (spread_is (scale (D * D) odds) x ∙ scale_is (D * D) odds (x * x * (x * x)))
  where
    go : (a b k : ℕ) → a ≡ k * b → 0 + x * (0 + x * (0 + x * (0 + x * (0 + x * a)))) ≡ x * (k * (x * x * (x * x) * b))
    go a b k e = omega (arith, ap (λ (z : ℕ). x * x * x * x * x * z) e)

-- ---- closed numbers
unfoldable pub K : ℕ
unfolding D
K = D * D * D * q5

-- seven sixteenths
unfoldable pub x7 : ℕ
unfolding D
x7 = D * 7 / 16

unfoldable pub u2 : ℕ
unfolding dev2 ups evens A0 A2 A4 A6 A8 A10 D spread x7
u2 = dev2 ups x7

unfoldable pub n2 : ℕ
unfolding dev2 downs odds A1 A3 A5 A7 A9 D spread scale x7
n2 = dev2 downs x7

pub u2-is : dev2 ups x7 ≡ u2
unfolding u2
u2-is = refl

pub n2-is : dev2 downs x7 ≡ n2
unfolding n2
n2-is = refl

-- how far the slope may lie from the arctangent's, by the test at each node
unfoldable pub R : ℕ
unfolding D K
R = K * (D * D) / 1000000

pub c1 : m * R + m * m * n2 * (D * D) + K * Most * x7 * m ≤ K * L2 * (D * D)
unfolding m R n2 D K Most x7 L2
c1 = lit≤ tt

pub c2 : m * R + m * m * u2 * (D * D) ≤ K * L2 * (D * D)
unfolding m R u2 D K x7 L2
c2 = lit≤ tt

-- ---- over any numbers: b is the node, d the step of x, e that of the angle, g the slope
fold1 : (P C Gd X1 Nn Ek Lk mR mn KM : ℕ) → 2 * P ≤ 2 * Gd + Nn + 2 * Ek → 2 * Gd ≤ 2 * X1 + 2 * mR → Nn ≤ 2 * mn → C ≤ KM → mR + mn + KM ≤ Lk → 2 * P + 2 * C ≤ 2 * X1 + 2 * Ek + 2 * Lk
fold1 P C Gd X1 Nn Ek Lk mR mn KM a b c d e = omega arith

fold2 : (P Gd X1 Nn Ek Lk mR mn : ℕ) → 2 * Gd ≤ 2 * P + Nn + 2 * Ek → 2 * X1 ≤ 2 * Gd + 2 * mR → Nn ≤ 2 * mn → mR + mn ≤ Lk → 2 * X1 ≤ 2 * P + 2 * Ek + 2 * Lk
fold2 P Gd X1 Nn Ek Lk mR mn a b c d = omega arith

spread1 : (e d g n E K S : ℕ) → 2 * (e * K) ≤ 2 * (d * g) + d * d * n + 2 * (E * K) → 2 * (e * K * S) ≤ 2 * (d * (g * S)) + d * d * n * S + 2 * (E * K * S)
spread1 e d g n E K S h = omega (arith, mul-le-mul_right S h)

spread2 : (e d g n E K S : ℕ) → 2 * (d * g) ≤ 2 * (e * K) + d * d * n + 2 * (E * K) → 2 * (d * (g * S)) ≤ 2 * (e * K * S) + d * d * n * S + 2 * (E * K * S)
spread2 e d g n E K S h = omega (arith, mul-le-mul_right S h)

times1 : (d g S k R m : ℕ) → g * S ≤ k + R → d ≤ m → 2 * (d * (g * S)) ≤ 2 * (d * k) + 2 * (m * R)
times1 d g S k R m h l = omega (arith, mul-le-mul_left d h, mul-le-mul_right R l)

times2 : (d g S k R m : ℕ) → k ≤ g * S + R → d ≤ m → 2 * (d * k) ≤ 2 * (d * (g * S)) + 2 * (m * R)
times2 d g S k R m h l = omega (arith, mul-le-mul_left d h, mul-le-mul_right R l)

square : (d m n S q : ℕ) → d ≤ m → S ≤ 2 * q → d * d * n * S ≤ 2 * (m * m * n * q)
square d m n S q h l = omega (arith, mul-le-mul (mul-le-mul_right n (mul-le-mul h h)) l)

cross : (K e b d M x m : ℕ) → e ≤ M → b ≤ x → d ≤ m → e * (b * d) * K ≤ K * M * x * m
cross K e b d M x m p q r = omega (arith, mul-le-mul_left K (mul-le-mul p (mul-le-mul q r)))

out1 : (D K d e b E L : ℕ) → 0 < K → 2 * (e * K * (D * D + b * b)) + 2 * (e * (b * d) * K) ≤ 2 * (d * (K * (D * D))) + 2 * (E * K * (D * D + b * b)) + 2 * (K * L * (D * D))
    → e * (D * D + b * (b + d)) ≤ D * D * d + (E + L) * (D * D + b * (b + d))
out1 D K d e b E L p h = le_of_mul-le-mul_right {k = 2 * K} (omega arith) (omega arith)

out2 : (D K d e b E L : ℕ) → 0 < K → 2 * (d * (K * (D * D))) ≤ 2 * (e * K * (D * D + b * b)) + 2 * (E * K * (D * D + b * b)) + 2 * (K * L * (D * D))
    → D * D * d ≤ e * (D * D + b * (b + d)) + (E + L) * (D * D + b * (b + d))
out2 D K d e b E L p h = le_of_mul-le-mul_right {k = 2 * K} (omega arith) (omega arith)

twice : (D b : ℕ) → b ≤ D → D * D + b * b ≤ 2 * (D * D)
twice D b h = omega (arith, mul-le-mul h h)

module _ (D K d e g b n2 u2 E1 L2 R m Most x7 : ℕ) (dm : d ≤ m) (eM : e ≤ Most) (b7 : b ≤ x7) (bD : b ≤ D) (K0 : 0 < K)
    (a1 : 2 * (e * K) ≤ 2 * (d * g) + d * d * n2 + 2 * (E1 * K)) (a2 : 2 * (d * g) ≤ 2 * (e * K) + d * d * u2 + 2 * (E1 * K))
    (b1 : g * (D * D + b * b) ≤ K * (D * D) + R) (b2 : K * (D * D) ≤ g * (D * D + b * b) + R)
    (k1 : m * R + m * m * n2 * (D * D) + K * Most * x7 * m ≤ K * L2 * (D * D)) (k2 : m * R + m * m * u2 * (D * D) ≤ K * L2 * (D * D)) where
  pub over : e * (D * D + b * (b + d)) ≤ D * D * d + (E1 + L2) * (D * D + b * (b + d))
  over =
      let s = D * D + b * b in
      out1 D K d e b E1 L2 K0
      (fold1 (e * K * s) (e * (b * d) * K) (d * (g * s)) (d * (K * (D * D))) (d * d * n2 * s) (E1 * K * s) (K * L2 * (D * D)) (m * R) (m * m * n2 * (D * D)) (K * Most * x7 * m)
      (spread1 e d g n2 E1 K s a1) (times1 d g s (K * (D * D)) R m b1 dm) (square d m n2 s (D * D) dm (twice D b bD)) (cross K e b d Most x7 m eM b7 dm) k1)

  pub beneath : D * D * d ≤ e * (D * D + b * (b + d)) + (E1 + L2) * (D * D + b * (b + d))
  beneath =
      let s = D * D + b * b in
      out2 D K d e b E1 L2 K0
      (fold2 (e * K * s) (d * (g * s)) (d * (K * (D * D))) (d * d * u2 * s) (E1 * K * s) (K * L2 * (D * D)) (m * R) (m * m * u2 * (D * D))
      (spread2 e d g u2 E1 K s a2) (times2 d g s (K * (D * D)) R m b2 dm) (square d m u2 s (D * D) dm (twice D b bD)) k2)
