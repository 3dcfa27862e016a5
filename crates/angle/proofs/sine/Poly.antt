-- The two polynomials in f64 at a rest that is 5 of `tiny` from y at most, against the nine terms at y: by 661 and 150 in 10 ^ 9 at most.
-- Assumes nothing.
use Rattle.std.proofs.Common.{◌≡◌, ℕ, ◌+◌, ◌*◌, ◌<◌, ◌≤◌, T, sym, ap, subst, le_trans, mul-le-mul_right, mul_comm, mul-le-mul, mul-le-mul_left, le_of_mul-le-mul_right, arith, lit≤}
use lib.Ieee.{Float, binary64, mul, add, sub, fits}
use lib.Ieee.Fits.{mul-fits, add-fits, sub-fits}
use Rattle.angle.specs.Meaning.{D, H, whole}
use Rattle.angle.specs.Sine as Rule
use Rattle.angle.specs.Sine.{s1, s2, s3, c1, c2, c3, c4, sine_on, sine_from, cosine_on, cosine_from}
use Rattle.angle.proofs.Terms.{one, sin_at, cos_at}
use Rattle.angle.proofs.sine.Doubles.{Near, E, tiny, E-tiny, E_pos, Val, Product, product_of, Sum, sum_of, Difference, difference_of, no_larger}
use Rattle.angle.proofs.sine.Products.{product, scaled, tail, at_most}
use Rattle.angle.proofs.sine.Powers as P
use Rattle.angle.proofs.sine.Powers.{D-pos, Q-pos, first}
use Rattle.angle.proofs.sine.Coefficients.{lift, g1, g2, g3, h1, h2}
use Rattle.angle.proofs.sine.Coefficients.{h3, h4, E-lift, v-s1, v-s2}
use Rattle.angle.proofs.sine.Coefficients.{v-s3, v-c1, v-c2, v-c3, v-c4, v-one}
use Rattle.angle.proofs.sine.Coefficients.{l-s1, l-s2, l-s3, l-c1, l-c2, l-c3}
use Rattle.angle.proofs.sine.Coefficients.{l-c4, gap, room, room4, fit, sine-last}
use Rattle.angle.proofs.sine.Coefficients.{cosine-last}

-- ---- the steps at y
module _ (y : ℕ) (half : 2 * y < H) (r : Float) (a : ℕ) (fr : T (fits binary64 r)) (va : Val r a) (na : Near a (y * lift) (5 * tiny)) where
  abbrev W : ℕ
  W = whole

  abbrev Q : ℕ
  Q = D * D

  abbrev Y : ℕ
  Y = y * y

  t-E : tiny * 0x1_0000_0000_0000 ≡ E
  t-E = omega (arith, E-tiny)

  u-few : y * lift * 10000 ≤ 7854 * E
  u-few = subst (λ (z : ℕ). y * lift * 10000 ≤ 7854 * z) (sym E-lift) (omega (arith, mul-le-mul_right lift (P.y-few y half)))

  a-few : a * 100 ≤ 79 * E
  a-few = omega (arith, na.hi, u-few, E-tiny)

  aE : a ≤ E
  aE = omega (arith, a-few)

  aD : Near (a * D) (y * E) (5 * tiny * D)
  aD = subst (λ (z : ℕ). Near (a * D) (y * z) (5 * tiny * D)) (sym E-lift) (record { hi = omega (arith, mul-le-mul_right D na.hi); lo = omega (arith, mul-le-mul_right D na.lo) })

  aQ : Near (a * (D * D)) (y * D * E) (5 * tiny * (D * D))
  aQ = record { hi = omega (arith, mul-le-mul_right D aD.hi); lo = omega (arith, mul-le-mul_right D aD.lo) }

  aW : Near (a * W) (one 1 y * E) (5 * tiny * W)
  aW = subst (λ (z : ℕ). Near (a * W) (one 1 y * z) (5 * tiny * W)) (sym E-lift) (go (one 1 y) W lift (first y) na.hi na.lo)
    where
      go : (t w l : ℕ) → t * D ≡ y * w → a ≤ y * l + 5 * tiny → y * l ≤ a + 5 * tiny → Near (a * w) (t * (D * l)) (5 * tiny * w)
      go t w l e h k = record { hi = omega (arith, mul-le-mul_right w h, ap (λ (z : ℕ). z * l) e); lo = omega (arith, mul-le-mul_right w k, ap (λ (z : ℕ). z * l) e) }

  -- the square
  z : Product r r a a
  z = product_of r r a a va va (fit a a aE aE)

  abbrev Z : Float
  Z = mul binary64 r r

  nz : Near (z.p * Q) (Y * E) (11 * tiny * Q)
  nz = product E tiny E_pos (D * D) D a a z.p (y * D) y (y * y) 5 5 D-pos aE (P.yD y half) aQ aD (mul-le-mul_right D (P.yD y half)) z.near (turn y D)
    where
      turn : (y d : ℕ) → y * y * d ≡ y * (y * d)
      turn y d = omega arith

  zE : z.p ≤ E
  zE = le_of_mul-le-mul_right {k = E} (go E z.near.hi (mul-le-mul a-few a-few) E-tiny) E_pos
    where
      go : (e : ℕ) → z.p * e ≤ a * a + tiny * e → a * 100 * (a * 100) ≤ 79 * e * (79 * e) → e ≡ 0x1_0000_0000_0000 * tiny → z.p * e ≤ e * e
      go e h k f = omega (arith, h, k, ap (λ (x : ℕ). x * e) f)

  -- ---- the sine
  abbrev X3 : Float
  X3 = mul binary64 r Z

  x3 : Product r Z a z.p
  x3 = product_of r Z a z.p va z.is (fit a z.p aE zE)

  x3a : x3.p ≤ a
  x3a = no_larger r Z a z.p x3.p fr va z.is aE zE x3.is

  x3E : x3.p ≤ E
  x3E = le_trans x3a aE

  T3-few : 6 * one 3 y ≤ W
  T3-few = omega (arith, P.t3 y half)

  T1-few : one 1 y ≤ W
  T1-few = le_of_mul-le-mul_right {k = D} (subst (λ (x : ℕ). x ≤ W * D) (sym (first y)) (subst (λ (x : ℕ). y * W ≤ x) (mul_comm D W) (mul-le-mul_right W (P.yD y half)))) D-pos

  n3 : Near (x3.p * W) (6 * one 3 y * E) (17 * tiny * W)
  n3 = product E tiny E_pos W Q a z.p x3.p (one 1 y) Y (6 * one 3 y) 5 11 Q-pos aE (P.YQ y half) aW nz T1-few x3.near (P.p3 y half)

  g1E : g1 ≤ E
  g1E = omega (arith, l-s1.0)

  g2E : g2 ≤ E
  g2E = omega (arith, l-s2.0)

  g3E : g3 ≤ E
  g3E = omega (arith, l-s3.0)

  m1 : Product X3 s1 x3.p g1
  m1 = product_of X3 s1 x3.p g1 x3.is v-s1 (fit x3.p g1 x3E g1E)

  nm1 : Near (m1.p * W) (6 * one 3 y * g1) (18 * tiny * W)
  nm1 = scaled E tiny E_pos W x3.p g1 m1.p (6 * one 3 y) 17 g1E n3 m1.near

  m1a : m1.p ≤ a
  m1a = le_trans (no_larger X3 s1 x3.p g1 m1.p (mul-fits binary64 r Z) x3.is v-s1 x3E g1E m1.is) x3a

  d1 : Difference r (mul binary64 X3 s1) a m1.p
  d1 = difference_of r (mul binary64 X3 s1) a m1.p va m1.is m1a (omega (arith, aE, m1a, E_pos))

  x5 : Product X3 Z x3.p z.p
  x5 = product_of X3 Z x3.p z.p x3.is z.is (fit x3.p z.p x3E zE)

  n5 : Near (x5.p * W) (120 * one 5 y * E) (29 * tiny * W)
  n5 = product E tiny E_pos W Q x3.p z.p x5.p (6 * one 3 y) Y (120 * one 5 y) 17 11 Q-pos x3E (P.YQ y half) n3 nz T3-few x5.near (P.p5 y half)

  v : Product Z s3 z.p g3
  v = product_of Z s3 z.p g3 z.is v-s3 (fit z.p g3 zE g3E)

  nv : Near (v.p * Q) (Y * g3) (12 * tiny * Q)
  nv = scaled E tiny E_pos Q z.p g3 v.p Y 11 g3E nz v.near

  v-few : v.p ≤ g2
  v-few = go (at_most E tiny E_pos z.p g3 v.p zE v.near)
    where
      go : v.p ≤ g3 + tiny → v.p ≤ g2
      go h = le_trans h room

  d : Difference s2 (mul binary64 Z s3) g2 v.p
  d = difference_of s2 (mul binary64 Z s3) g2 v.p v-s2 v.is v-few (omega (arith, g2E, v-few, E_pos))

  dE : d.p ≤ E
  dE = go d.near.hi l-s2.0 E-tiny
    where
      go : d.p + v.p ≤ g2 + tiny → 120 * g2 ≤ E → E ≡ 0x1_0000_0000_0000 * tiny → d.p ≤ E
      go h k f = omega arith

  nd : Near (d.p * Q + Y * g3) (g2 * Q) (13 * tiny * Q)
  nd = record {
    hi = omega (arith, mul-le-mul_right Q d.near.hi, nv.lo);
    lo = omega (arith, mul-le-mul_right Q d.near.lo, nv.hi);
  }

  x5E : x5.p ≤ E
  x5E = go (at_most E tiny E_pos x3.p z.p x5.p x3E x5.near) z.near.hi
    where
      zless : z.p * 100 ≤ 64 * E
      zless = le_of_mul-le-mul_right {k = E} (go' E z.near.hi (mul-le-mul a-few a-few) E-tiny) E_pos
        where
          go' : (e : ℕ) → z.p * e ≤ a * a + tiny * e → a * 100 * (a * 100) ≤ 79 * e * (79 * e) → e ≡ 0x1_0000_0000_0000 * tiny → z.p * 100 * e ≤ 64 * e * e
          go' e h k f = omega (arith, h, k, ap (λ (x : ℕ). x * e) f)

      go : x5.p ≤ z.p + tiny → z.p * E ≤ a * a + tiny * E → x5.p ≤ E
      go h k = omega (arith, zless, E-tiny)

  m2 : Product (mul binary64 X3 Z) (sub binary64 s2 (mul binary64 Z s3)) x5.p d.p
  m2 = product_of (mul binary64 X3 Z) (sub binary64 s2 (mul binary64 Z s3)) x5.p d.p x5.is d.is (fit x5.p d.p x5E dE)

  T5-few : 120 * one 5 y ≤ W
  T5-few = omega (arith, P.t5 y half)

  nm2 : Near (m2.p * W + 5040 * one 7 y * g3) (120 * one 5 y * g2) (43 * tiny * W)
  nm2 = tail E tiny E_pos W Q x5.p d.p m2.p (120 * one 5 y) Y (5040 * one 7 y) g2 g3 29 13 Q-pos dE T5-few n5 nd m2.near (P.p7 y half)

  m2E : m2.p ≤ E + tiny
  m2E = le_trans (at_most E tiny E_pos x5.p d.p m2.p x5E m2.near) (go dE)
    where
      go : d.p ≤ E → d.p + tiny ≤ E + tiny
      go h = omega arith

  d1E : d1.p ≤ E + tiny
  d1E = omega (arith, d1.near.hi, aE)

  F : Sum (sub binary64 r (mul binary64 X3 s1)) (mul binary64 (mul binary64 X3 Z) (sub binary64 s2 (mul binary64 Z s3))) d1.p m2.p
  F = sum_of (sub binary64 r (mul binary64 X3 s1)) (mul binary64 (mul binary64 X3 Z) (sub binary64 s2 (mul binary64 Z s3))) d1.p m2.p d1.is m2.is (omega (arith, m2E, d1E, E-tiny, E_pos))

  pub record Sined : Type 0 where
    pub p : ℕ
    pub is : Val (sine_from r Z) p
    pub fits' : T (fits binary64 (sine_from r Z))
    pub near : Near (p * W * 1000000000) (sin_at y * E * 1000000000) (661 * (E * W))
    pub low : 5 * a ≤ 6 * p + 18 * tiny

  by_W : {p q e : ℕ} → Near p q e → Near (p * W) (q * W) (e * W)
  by_W n = record { hi = omega (arith, mul-le-mul_right W n.hi); lo = omega (arith, mul-le-mul_right W n.lo) }

  pub sined : Sined
  unfolding sine_from sine_on
  sined =
      let s = P.sine_sum y half in
      record {
        p = F.p;
        is = F.is;
        fits' = add-fits binary64 (sub binary64 r (mul binary64 X3 s1)) (mul binary64 (mul binary64 X3 Z) (sub binary64 s2 (mul binary64 Z s3)));
        near =
            sine-last (E * W) (F.p * W) (d1.p * W) (m1.p * W) (m2.p * W) (a * W) (tiny * W) (one 1 y * E) (one 3 y * E) (one 5 y * E) (one 7 y * E) (s.rest * E) (sin_at y * E) (one 3 y * g1)
            (one 5 y * g2) (one 7 y * g3)
            (near1 (by_W F.near)) (near2 (by_W d1.near)) (near3 aW) (near4 (one 3 y) nm1) (near5 (one 5 y) (one 7 y) nm2)
            (sums (sin_at y) (one 1 y) (one 3 y) (one 5 y) (one 7 y) s.rest s.is)
            (gap (one 3 y) g1 6 703378 80746974000 57 W l-s1 (P.t3 y half) (lit≤ tt)) (gap (one 5 y) g2 120 138622464 2490478920 346 W l-s2 (P.t5 y half) (lit≤ tt))
            (gap (one 7 y) g3 5040 16328131339 36578020 598 W l-s3 (P.t7 y half) (lit≤ tt))
            (last s.rest (one 9 y) s.few (P.t9 y half)) (whole_tiny E-tiny);
        low = least m1.p m2.p d1.near.lo F.near.lo m1-few;
      }
    where
      -- the sine's second term is a sixth of a at most
      m1-few : 6 * m1.p ≤ a + 6 * tiny
      m1-few = le_of_mul-le-mul_right {k = E} (go E x3.p g1 m1.near.hi x3a l-s1.0) E_pos
        where
          go : (e x g : ℕ) → m1.p * e ≤ x * g + tiny * e → x ≤ a → 6 * g ≤ e → 6 * m1.p * e ≤ (a + 6 * tiny) * e
          go e x g n h k = omega (arith, mul-le-mul_right e h, mul-le-mul_left x k)

      least : (m n : ℕ) → a ≤ d1.p + m + tiny → d1.p + n ≤ F.p + tiny → 6 * m ≤ a + 6 * tiny → 5 * a ≤ 6 * F.p + 18 * tiny
      least m n h k l = omega arith

      near1 : Near (F.p * W) ((d1.p + m2.p) * W) (tiny * W) → Near (F.p * W) (d1.p * W + m2.p * W) (tiny * W)
      near1 n = record { hi = omega (arith, n.hi); lo = omega (arith, n.lo) }

      near2 : Near ((d1.p + m1.p) * W) (a * W) (tiny * W) → Near (d1.p * W + m1.p * W) (a * W) (tiny * W)
      near2 n = record { hi = omega (arith, n.hi); lo = omega (arith, n.lo) }

      near3 : Near (a * W) (one 1 y * E) (5 * tiny * W) → Near (a * W) (one 1 y * E) (5 * (tiny * W))
      near3 n = record { hi = omega (arith, n.hi); lo = omega (arith, n.lo) }

      near4 : (t : ℕ) → Near (m1.p * W) (6 * t * g1) (18 * tiny * W) → Near (m1.p * W) (6 * (t * g1)) (18 * (tiny * W))
      near4 t n = record { hi = omega (arith, n.hi); lo = omega (arith, n.lo) }

      near5 : (t t' : ℕ) → Near (m2.p * W + 5040 * t' * g3) (120 * t * g2) (43 * tiny * W) → Near (m2.p * W + 5040 * (t' * g3)) (120 * (t * g2)) (43 * (tiny * W))
      near5 t t' n = record { hi = omega (arith, n.hi); lo = omega (arith, n.lo) }

      sums : (S t1 t3 t5 t7 q : ℕ) → S + t3 + t7 ≡ t1 + t5 + q → S * E + t3 * E + t7 * E ≡ t1 * E + t5 * E + q * E
      sums S t1 t3 t5 t7 q e = omega (arith, ap (λ (x : ℕ). x * E) e)

      last : (q t : ℕ) → q ≤ t → t * 1000000000000 ≤ 313383 * W → q * E * 1000000000000 ≤ 313383 * (E * W)
      last q t h k = omega (arith, mul-le-mul_right E h, mul-le-mul_right E k)

      whole_tiny : E ≡ 0x1_0000_0000_0000 * tiny → E * W ≡ 0x1_0000_0000_0000 * (tiny * W)
      whole_tiny e = omega (arith, ap (λ (x : ℕ). x * W) e)

  -- ---- the cosine
  nzW : Near (z.p * W) (2 * one 2 y * E) (11 * tiny * W)
  nzW = record {
    hi = le_of_mul-le-mul_right {k = Q} (go_hi z.p W Q (one 2 y) (P.p2 y half) nz.hi) Q-pos;
    lo = le_of_mul-le-mul_right {k = Q} (go_lo z.p W Q (one 2 y) (P.p2 y half) nz.lo) Q-pos;
  }
    where
      go_hi : (p w q t : ℕ) → 2 * t * q ≡ Y * w → p * q ≤ Y * E + 11 * tiny * q → p * w * q ≤ (2 * t * E + 11 * tiny * w) * q
      go_hi p w q t e h = omega (arith, mul-le-mul_right w h, ap (λ (x : ℕ). x * E) e)

      go_lo : (p w q t : ℕ) → 2 * t * q ≡ Y * w → Y * E ≤ p * q + 11 * tiny * q → 2 * t * E * q ≤ (p * w + 11 * tiny * w) * q
      go_lo p w q t e h = omega (arith, mul-le-mul_right w h, ap (λ (x : ℕ). x * E) e)

  h1E : 2 * h1 ≤ E
  h1E = l-c1.0

  h2E : h2 ≤ E
  h2E = omega (arith, l-c2.0)

  h3E : h3 ≤ E
  h3E = omega (arith, l-c3.0)

  h4E : h4 ≤ E
  h4E = omega (arith, l-c4.0)

  T2-few : 2 * one 2 y ≤ W
  T2-few = omega (arith, P.t2 y half)

  T4-few : 24 * one 4 y ≤ W
  T4-few = omega (arith, P.t4 y half)

  T6-few : 720 * one 6 y ≤ W
  T6-few = omega (arith, P.t6 y half)

  q1 : Product Z c1 z.p h1
  q1 = product_of Z c1 z.p h1 z.is v-c1 (fit z.p h1 zE (omega (arith, h1E)))

  nq1 : Near (q1.p * W) (2 * one 2 y * h1) (12 * tiny * W)
  nq1 = scaled E tiny E_pos W z.p h1 q1.p (2 * one 2 y) 11 (omega (arith, h1E)) nzW q1.near

  q1-few : q1.p ≤ h1 + tiny
  q1-few = at_most E tiny E_pos z.p h1 q1.p zE q1.near

  abbrev Z2 : Float
  Z2 = mul binary64 Z Z

  e1 : Difference Rule.one (mul binary64 Z c1) E q1.p
  e1 = difference_of Rule.one (mul binary64 Z c1) E q1.p v-one q1.is (omega (arith, q1-few, h1E, E-tiny)) (omega (arith, q1-few, h1E, E-tiny, E_pos))

  z2 : Product Z Z z.p z.p
  z2 = product_of Z Z z.p z.p z.is z.is (fit z.p z.p zE zE)

  z-less : z.p * 100 ≤ 64 * E
  z-less = le_of_mul-le-mul_right {k = E} (go' E z.near.hi (mul-le-mul a-few a-few) E-tiny) E_pos
    where
      go' : (e : ℕ) → z.p * e ≤ a * a + tiny * e → a * 100 * (a * 100) ≤ 79 * e * (79 * e) → e ≡ 0x1_0000_0000_0000 * tiny → z.p * 100 * e ≤ 64 * e * e
      go' e h k f = omega (arith, h, k, ap (λ (x : ℕ). x * e) f)

  z2-less : z2.p * 100 ≤ 65 * E
  z2-less = go (at_most E tiny E_pos z.p z.p z2.p zE z2.near) z-less E-tiny
    where
      go : z2.p ≤ z.p + tiny → z.p * 100 ≤ 64 * E → E ≡ 0x1_0000_0000_0000 * tiny → z2.p * 100 ≤ 65 * E
      go h k f = omega arith

  z2E : z2.p ≤ E
  z2E = omega (arith, z2-less)

  n4 : Near (z2.p * W) (24 * one 4 y * E) (23 * tiny * W)
  n4 = product E tiny E_pos W Q z.p z.p z2.p (2 * one 2 y) Y (24 * one 4 y) 11 11 Q-pos zE (P.YQ y half) nzW nz T2-few z2.near (P.p4 y half)

  q2 : Product Z2 c2 z2.p h2
  q2 = product_of Z2 c2 z2.p h2 z2.is v-c2 (fit z2.p h2 z2E h2E)

  nq2 : Near (q2.p * W) (24 * one 4 y * h2) (24 * tiny * W)
  nq2 = scaled E tiny E_pos W z2.p h2 q2.p (24 * one 4 y) 23 h2E n4 q2.near

  q2-few : q2.p ≤ h2 + tiny
  q2-few = at_most E tiny E_pos z2.p h2 q2.p z2E q2.near

  e1E : e1.p ≤ E + tiny
  e1E = omega (arith, e1.near.hi)

  abbrev First : Float
  First = sub binary64 Rule.one (mul binary64 Z c1)

  e2 : Sum First (mul binary64 Z2 c2) e1.p q2.p
  e2 = sum_of First (mul binary64 Z2 c2) e1.p q2.p e1.is q2.is (omega (arith, e1E, q2-few, h2E, E-tiny, E_pos))

  z3 : Product Z2 Z z2.p z.p
  z3 = product_of Z2 Z z2.p z.p z2.is z.is (fit z2.p z.p z2E zE)

  n6 : Near (z3.p * W) (720 * one 6 y * E) (35 * tiny * W)
  n6 = product E tiny E_pos W Q z2.p z.p z3.p (24 * one 4 y) Y (720 * one 6 y) 23 11 Q-pos z2E (P.YQ y half) n4 nz T4-few z3.near (P.p6 y half)

  z3E : z3.p ≤ E
  z3E = go (at_most E tiny E_pos z2.p z.p z3.p z2E z3.near) z-less E-tiny
    where
      go : z3.p ≤ z.p + tiny → z.p * 100 ≤ 64 * E → E ≡ 0x1_0000_0000_0000 * tiny → z3.p ≤ E
      go h k f = omega arith

  w : Product Z c4 z.p h4
  w = product_of Z c4 z.p h4 z.is v-c4 (fit z.p h4 zE h4E)

  nw : Near (w.p * Q) (Y * h4) (12 * tiny * Q)
  nw = scaled E tiny E_pos Q z.p h4 w.p Y 11 h4E nz w.near

  w-few : w.p ≤ h3
  w-few = le_trans (at_most E tiny E_pos z.p h4 w.p zE w.near) room4

  e : Difference c3 (mul binary64 Z c4) h3 w.p
  e = difference_of c3 (mul binary64 Z c4) h3 w.p v-c3 w.is w-few (omega (arith, h3E, w-few, E_pos))

  ne : Near (e.p * Q + Y * h4) (h3 * Q) (13 * tiny * Q)
  ne = record {
    hi = omega (arith, mul-le-mul_right Q e.near.hi, nw.lo);
    lo = omega (arith, mul-le-mul_right Q e.near.lo, nw.hi);
  }

  e-few : e.p ≤ h3 + tiny
  e-few = omega (arith, e.near.hi)

  eE : e.p ≤ E
  eE = omega (arith, e-few, l-c3.0, E-tiny)

  q3 : Product (mul binary64 Z2 Z) (sub binary64 c3 (mul binary64 Z c4)) z3.p e.p
  q3 = product_of (mul binary64 Z2 Z) (sub binary64 c3 (mul binary64 Z c4)) z3.p e.p z3.is e.is (fit z3.p e.p z3E eE)

  nq3 : Near (q3.p * W + 40320 * one 8 y * h4) (720 * one 6 y * h3) (49 * tiny * W)
  nq3 = tail E tiny E_pos W Q z3.p e.p q3.p (720 * one 6 y) Y (40320 * one 8 y) h3 h4 35 13 Q-pos eE T6-few n6 ne q3.near (P.p8 y half)

  q3-few : q3.p ≤ e.p + tiny
  q3-few = at_most E tiny E_pos z3.p e.p q3.p z3E q3.near

  abbrev Second : Float
  Second = add binary64 First (mul binary64 Z2 c2)

  q3-under : q3.p ≤ e2.p
  q3-under = go e2.near.lo e1.near.lo q1-few h1E e-few q3-few l-c3.0 E-tiny
    where
      go : e1.p + q2.p ≤ e2.p + tiny → E ≤ e1.p + q1.p + tiny → q1.p ≤ h1 + tiny → 2 * h1 ≤ E → e.p ≤ h3 + tiny → q3.p ≤ e.p + tiny → 720 * h3 ≤ E → E ≡ 0x1_0000_0000_0000 * tiny
          → q3.p ≤ e2.p
      go a1 a2 a3 a4 a5 a6 a7 a8 = omega arith

  e2E : e2.p + q3.p < 64 * E
  e2E = go e2.near.hi e1E q2-few h2E q3-few eE E-tiny E_pos
    where
      go : e2.p ≤ e1.p + q2.p + tiny → e1.p ≤ E + tiny → q2.p ≤ h2 + tiny → h2 ≤ E → q3.p ≤ e.p + tiny → e.p ≤ E → E ≡ 0x1_0000_0000_0000 * tiny → 0 < E → e2.p + q3.p < 64 * E
      go a1 a2 a3 a4 a5 a6 a7 a8 = omega arith

  G : Difference Second (mul binary64 (mul binary64 Z2 Z) (sub binary64 c3 (mul binary64 Z c4))) e2.p q3.p
  G = difference_of Second (mul binary64 (mul binary64 Z2 Z) (sub binary64 c3 (mul binary64 Z c4))) e2.p q3.p e2.is q3.is q3-under e2E

  pub record Cosined : Type 0 where
    pub p : ℕ
    pub is : Val (cosine_from Z) p
    pub fits' : T (fits binary64 (cosine_from Z))
    pub near : Near (p * W * 1000000000) (cos_at y * E * 1000000000) (150 * (E * W))
    pub low : E ≤ 4 * p

  pub cosined : Cosined
  unfolding cosine_from cosine_on
  cosined =
      let s = P.cosine_sum y half in
      record {
        p = G.p;
        is = G.is;
        fits' = sub-fits binary64 Second (mul binary64 (mul binary64 Z2 Z) (sub binary64 c3 (mul binary64 Z c4)));
        near =
            cosine-last (E * W) (G.p * W) (e2.p * W) (e1.p * W) (q1.p * W) (q2.p * W) (q3.p * W) (tiny * W) (one 2 y * E) (one 4 y * E) (one 6 y * E) (one 8 y * E) (s.rest * E)
            (cos_at y * E) (one 2 y * h1) (one 4 y * h2) (one 6 y * h3) (one 8 y * h4)
            (near1 (by_W G.near)) (near2 (by_W e2.near)) (near3 (by_W e1.near)) (near4 (one 2 y) nq1) (near5 (one 4 y) nq2) (near6 (one 6 y) (one 8 y) nq3)
            (sums (cos_at y) (one 2 y) (one 4 y) (one 6 y) (one 8 y) s.rest W s.is)
            (gap (one 2 y) h1 2 5498 308430000000 2 W l-c1 (P.t2 y half) (lit≤ tt)) (gap (one 4 y) h2 24 1040216 15854844150 17 W l-c2 (P.t4 y half) (lit≤ tt))
            (gap (one 6 y) h3 720 153006805 326007306 50 W l-c3 (P.t6 y half) (lit≤ tt)) (gap (one 8 y) h4 40320 16577027633 3591087 60 W l-c4 (P.t8 y half) (lit≤ tt))
            (last s.rest (one 10 y) s.few (P.t10 y half)) (whole_tiny E-tiny);
        low = least G.near.lo e2.near.lo e1.near.lo q1-few h1E e-few q3-few l-c3.0 E-tiny;
      }
    where
      least : e2.p ≤ G.p + q3.p + tiny → e1.p + q2.p ≤ e2.p + tiny → E ≤ e1.p + q1.p + tiny → q1.p ≤ h1 + tiny → 2 * h1 ≤ E → e.p ≤ h3 + tiny → q3.p ≤ e.p + tiny → 720 * h3 ≤ E
          → E ≡ 0x1_0000_0000_0000 * tiny → E ≤ 4 * G.p
      least a0 a1 a2 a3 a4 a5 a6 a7 a8 = omega arith

      near1 : Near ((G.p + q3.p) * W) (e2.p * W) (tiny * W) → Near (G.p * W + q3.p * W) (e2.p * W) (tiny * W)
      near1 n = record { hi = omega (arith, n.hi); lo = omega (arith, n.lo) }

      near2 : Near (e2.p * W) ((e1.p + q2.p) * W) (tiny * W) → Near (e2.p * W) (e1.p * W + q2.p * W) (tiny * W)
      near2 n = record { hi = omega (arith, n.hi); lo = omega (arith, n.lo) }

      near3 : Near ((e1.p + q1.p) * W) (E * W) (tiny * W) → Near (e1.p * W + q1.p * W) (E * W) (tiny * W)
      near3 n = record { hi = omega (arith, n.hi); lo = omega (arith, n.lo) }

      near4 : (t : ℕ) → Near (q1.p * W) (2 * t * h1) (12 * tiny * W) → Near (q1.p * W) (2 * (t * h1)) (13 * (tiny * W))
      near4 t n = record { hi = omega (arith, n.hi); lo = omega (arith, n.lo) }

      near5 : (t : ℕ) → Near (q2.p * W) (24 * t * h2) (24 * tiny * W) → Near (q2.p * W) (24 * (t * h2)) (25 * (tiny * W))
      near5 t n = record { hi = omega (arith, n.hi); lo = omega (arith, n.lo) }

      near6 : (t t' : ℕ) → Near (q3.p * W + 40320 * t' * h4) (720 * t * h3) (49 * tiny * W) → Near (q3.p * W + 40320 * (t' * h4)) (720 * (t * h3)) (50 * (tiny * W))
      near6 t t' n = record { hi = omega (arith, n.hi); lo = omega (arith, n.lo) }

      sums : (S t2 t4 t6 t8 q v : ℕ) → S + t2 + t6 + q ≡ v + t4 + t8 → S * E + t2 * E + t6 * E + q * E ≡ E * v + t4 * E + t8 * E
      sums S t2 t4 t6 t8 q v e = omega (arith, ap (λ (x : ℕ). x * E) e)

      last : (q t : ℕ) → q ≤ t → t * 1000000000000 ≤ 24614 * W → q * E * 1000000000000 ≤ 24614 * (E * W)
      last q t h k = omega (arith, mul-le-mul_right E h, mul-le-mul_right E k)

      whole_tiny : E ≡ 0x1_0000_0000_0000 * tiny → E * W ≡ 0x1_0000_0000_0000 * (tiny * W)
      whole_tiny e = omega (arith, ap (λ (x : ℕ). x * W) e)
