-- The tangent from a known angle on, as an f32: within ten times 2 ^ -25 of the exact one. Assumes nothing.
use Rattle.std.proofs.Common.{◌≡◌, ℕ, ◌+◌, ◌*◌, ◌^◌, ◌<◌, ◌≤◌, Bool, true, false, cond, sym, refl, ap, ◌∙◌, mul-le-mul_right, mul-le-mul_left, mul-pos, le_of_mul-le-mul_right, arith, lit≤}
use lib.Ieee.{Float, binary32, round, div, neg}
use lib.Ieee.Exact.{HasValue}
use Rattle.floats.proofs.Negated.{neg_round}
use Rattle.angle.specs.Meaning.{D}
use Rattle.angle.proofs.arctangent.Ops.{div_signed, Val, D-pos, Near, rounds}
use Rattle.angle.proofs.arctangent.Horner.{h}
use Rattle.angle.proofs.arctangent.Known.{n-half, n-h}

-- x has the sign s, and its size is up / right, nearly
pub record Reduced (x : Float) (s : Bool) (up right : ℕ) : Type 0 where
  pub p : Float
  pub parts : ℕ
  pub val : Val p parts
  pub is : x ≡ cond s (neg p) p
  pub top : 9 * parts ≤ 2 * D + 9 * h
  pub far : D ≤ 262144 * parts
  pub hi : parts * right * 2 ≤ up * D * 2 + right * (20 * h)
  pub lo : up * D * 2 ≤ parts * right * 2 + right * (20 * h)

-- ---- from N / G to X / Y, over any numbers: v N is X within 7 h v, and v G is Y within 24 h v
module _ (D t v N G P X Y : ℕ) (D0 : 0 < D) (small : 10000000 * t ≤ D) (low : 3 * D ≤ 2 * G) (top : 9 * P ≤ 2 * D + 9 * t) where
  -- the three kinds of products that the errors are made of
  s1 : 42 * (D * (t * v)) ≤ 28 * (G * (t * v))
  s1 = omega (arith, mul-le-mul_right (14 * (t * v)) low)

  s2 : 9 * (48 * (P * (t * v))) ≤ 96 * (D * (t * v)) + 432 * (t * (t * v))
  s2 = omega (arith, mul-le-mul_right (48 * (t * v)) top)

  s3 : 10000000 * (t * (t * v)) ≤ D * (t * v)
  s3 = omega (arith, mul-le-mul_right (t * v) small)

  closer_hi : N * v ≤ X * D + v * (7 * t) → Y * D ≤ G * v + v * (24 * t) → G * v ≤ Y * D + v * (24 * t) → P * G * 2 ≤ N * D * 2 + G * t → P * Y * 2 ≤ X * D * 2 + Y * (20 * t)
  closer_hi n1 g2 g1 p1 =
      le_of_mul-le-mul_right {k = D}
      (go (P * Y * 2 * D) ((X * D * 2 + Y * (20 * t)) * D) (P * (Y * D)) (P * (G * v)) (N * D * v) (X * D * D) (t * (Y * D)) (D * (t * v)) (G * (t * v)) (P * (t * v)) (t * (t * v)) (omega arith)
      (omega arith)
      (omega (arith, mul-le-mul_left P g2)) (omega (arith, mul-le-mul_right v p1)) (omega (arith, mul-le-mul_right D n1)) (omega (arith, mul-le-mul_left t g1)) s1 s2 s3) D0
    where
      go : (l r PYD PGv NDv XDD tYD a b c d : ℕ) → l ≡ 2 * PYD → r ≡ 2 * XDD + 20 * tYD → PYD ≤ PGv + 24 * c → 2 * PGv ≤ 2 * NDv + b → NDv ≤ XDD + 7 * a → b ≤ tYD + 24 * d
          → 42 * a ≤ 28 * b → 9 * (48 * c) ≤ 96 * a + 432 * d → 10000000 * d ≤ a → l ≤ r
      go l r PYD PGv NDv XDD tYD a b c d e f h1 h2 h3 h4 h5 h6 h7 = omega arith

  closer_lo : X * D ≤ N * v + v * (7 * t) → G * v ≤ Y * D + v * (24 * t) → N * D * 2 ≤ P * G * 2 + G * t → X * D * 2 ≤ P * Y * 2 + Y * (20 * t)
  closer_lo n2 g1 p2 =
      le_of_mul-le-mul_right {k = D}
      (go (X * D * 2 * D) ((P * Y * 2 + Y * (20 * t)) * D) (P * (Y * D)) (P * (G * v)) (N * D * v) (X * D * D) (t * (Y * D)) (D * (t * v)) (G * (t * v)) (P * (t * v)) (t * (t * v)) (omega arith)
      (omega arith)
      (omega (arith, mul-le-mul_left P g1)) (omega (arith, mul-le-mul_right v p2)) (omega (arith, mul-le-mul_right D n2)) (omega (arith, mul-le-mul_left t g1)) s1 s2 s3) D0
    where
      go : (l r PYD PGv NDv XDD tYD a b c d : ℕ) → l ≡ 2 * XDD → r ≡ 2 * PYD + 20 * tYD → PGv ≤ PYD + 24 * c → 2 * NDv ≤ 2 * PGv + b → XDD ≤ NDv + 7 * a → b ≤ tYD + 24 * d
          → 42 * a ≤ 28 * b → 9 * (48 * c) ≤ 96 * a + 432 * d → 10000000 * d ≤ a → l ≤ r
      go l r PYD PGv NDv XDD tYD a b c d e f h1 h2 h3 h4 h5 h6 h7 = omega arith

pub n-D : D ≡ 33554432 * h
unfolding D h
n-D = refl

module _ (n g : Float) (s : Bool) (N G v X Y : ℕ) (vn : HasValue n s N D) (vg : Val g G) (small : 9 * N ≤ 2 * G) (low : 3 * D ≤ 2 * G) (X0 : 0 < X) (Y0 : Y ≤ 163830)
    (n1 : N * v ≤ X * D + v * (7 * h)) (n2 : X * D ≤ N * v + v * (7 * h)) (g1 : G * v ≤ Y * D + v * (24 * h)) (g2 : Y * D ≤ G * v + v * (24 * h)) where
  G0 : 0 < G
  G0 = go G D low D-pos
    where
      go : (g d : ℕ) → 3 * d ≤ 2 * g → 0 < d → 0 < g
      go g d a b = omega arith

  pn : Near (round binary32 false N G) N G 124
  pn = rounds N G 124 G0 (lit≤ tt) (go N G D (2 ^ 148) n-half D-pos small G0)
    where
      go : (n g d k : ℕ) → 2 * k ≡ d → 0 < d → 9 * n ≤ 2 * g → 0 < g → n * d < k * g
      go n g d k e p l q = omega (arith, ap (λ (z : ℕ). z * g) e, mul-le-mul_right d l, mul-pos p q)

  P : ℕ
  P = pn.parts

  p1 : P * G * 2 ≤ N * D * 2 + G * h
  unfolding P h
  p1 = pn.hi

  p2 : N * D * 2 ≤ P * G * 2 + G * h
  unfolding P h
  p2 = pn.lo

  P-top : 9 * P ≤ 2 * D + 9 * h
  P-top = le_of_mul-le-mul_right {k = 2 * G} (go P G N D h p1 small) (twice G G0)
    where
      go : (p g n d t : ℕ) → p * g * 2 ≤ n * d * 2 + g * t → 9 * n ≤ 2 * g → 9 * p * (2 * g) ≤ (2 * d + 9 * t) * (2 * g)
      go p g n d t a b = omega (arith, mul-le-mul_right (2 * d) b)

      twice : (g : ℕ) → 0 < g → 0 < 2 * g
      twice g p = omega arith

  r-hi : P * Y * 2 ≤ X * D * 2 + Y * (20 * h)
  r-hi = closer_hi D h v N G P X Y D-pos n-h low P-top n1 g2 g1 p1

  r-lo : X * D * 2 ≤ P * Y * 2 + Y * (20 * h)
  r-lo = closer_lo D h v N G P X Y D-pos n-h low P-top n2 g1 p2

  pub quotient : Reduced (div binary32 n g) s X Y
  unfolding P
  quotient = record {
    p = round binary32 false N G;
    parts = pn.parts;
    val = pn.val;
    is = div_signed s n g N G vn vg G0 ∙ turn s;
    top = P-top;
    far = away X Y pn.parts D h X0 Y0 r-lo n-D;
    hi = r-hi;
    lo = r-lo;
  }
    where
      turn : (s : Bool) → round binary32 s N G ≡ cond s (neg (round binary32 false N G)) (round binary32 false N G)
      turn true = sym (neg_round false N G)
      turn false = refl

      away : (X Y P D t : ℕ) → 0 < X → Y ≤ 163830 → X * D * 2 ≤ P * Y * 2 + Y * (20 * t) → D ≡ 33554432 * t → D ≤ 262144 * P
      away X Y P D t a b c e = omega (arith, mul-le-mul_right D a, mul-le-mul_left (2 * P + 20 * t) b)
