-- The coefficients of the two polynomials in E-ths, and their errors summed, over any numbers. Assumes nothing.
use Rattle.std.proofs.Common.{◌≡◌, ℕ, ◌+◌, ◌*◌, ◌^◌, ◌<◌, ◌≤◌, refl, mul-le-mul_right, mul-le-mul, mul-le-mul_left, mul-pos, le_of_mul-le-mul_right, arith, lit<, lit≤}
use lib.Ieee.{of_bits}
use Rattle.angle.specs.Meaning.{D}
use Rattle.angle.specs.Sine as Rule
use Rattle.angle.specs.Sine.{s1, s2, s3, c1, c2, c3, c4}
use Rattle.angle.proofs.sine.Doubles.{Near, E, tiny, E_pos, Val}

-- from D-ths to E-ths
unfoldable pub lift : ℕ
lift = 2 ^ 925

pub E-lift : E ≡ D * lift
unfolding E D lift
E-lift = refl

-- ---- the coefficients in E-ths
unfoldable pub g1 : ℕ
g1 = 0x1555545995A603 * 2 ^ 1019

unfoldable pub g2 : ℕ
g2 = 0x11107605230BC4 * 2 ^ 1015

unfoldable pub g3 : ℕ
g3 = 0x1994EB3774CF24 * 2 ^ 1009

unfoldable pub h1 : ℕ
h1 = 0x1FFFFFFD0C621C * 2 ^ 1020

unfoldable pub h2 : ℕ
h2 = 0x155553E1068F19 * 2 ^ 1017

unfoldable pub h3 : ℕ
h3 = 0x16C087E89A359D * 2 ^ 1012

unfoldable pub h4 : ℕ
h4 = 0x199343027BF8C3 * 2 ^ 1006

pub v-s1 : Val s1 g1
unfolding of_bits g1
v-s1 = (refl, refl)

pub v-s2 : Val s2 g2
unfolding of_bits g2
v-s2 = (refl, refl)

pub v-s3 : Val s3 g3
unfolding of_bits g3
v-s3 = (refl, refl)

pub v-c1 : Val c1 h1
unfolding of_bits h1
v-c1 = (refl, refl)

pub v-c2 : Val c2 h2
unfolding of_bits h2
v-c2 = (refl, refl)

pub v-c3 : Val c3 h3
unfolding of_bits h3
v-c3 = (refl, refl)

pub v-c4 : Val c4 h4
unfolding of_bits h4
v-c4 = (refl, refl)

pub v-one : Val Rule.one E
unfolding of_bits E
v-one = (refl, refl)

-- each coefficient times its factorial is a little less than 1
abbrev pub Little : ℕ → ℕ → ℕ → Type 0
Little k g n = (k * g ≤ E) × (E * 1000000000000 ≤ k * g * 1000000000000 + n * E)

pub l-s1 : Little 6 g1 703378
unfolding E g1
l-s1 = (lit≤ tt, lit≤ tt)

pub l-s2 : Little 120 g2 138622464
unfolding E g2
l-s2 = (lit≤ tt, lit≤ tt)

pub l-s3 : Little 5040 g3 16328131339
unfolding E g3
l-s3 = (lit≤ tt, lit≤ tt)

pub l-c1 : Little 2 h1 5498
unfolding E h1
l-c1 = (lit≤ tt, lit≤ tt)

pub l-c2 : Little 24 h2 1040216
unfolding E h2
l-c2 = (lit≤ tt, lit≤ tt)

pub l-c3 : Little 720 h3 153006805
unfolding E h3
l-c3 = (lit≤ tt, lit≤ tt)

pub l-c4 : Little 40320 h4 16577027633
unfolding E h4
l-c4 = (lit≤ tt, lit≤ tt)

-- what that leaves of a term
pub gap : (t g k n β ρ W : ℕ) → Little k g n → t * 1000000000000 ≤ β * W → n * β ≤ ρ * 1000000000000000 → (k * (t * g) ≤ t * E) × (t * E * 1000000000 ≤ k * (t * g) * 1000000000 + ρ * (E * W))
gap t g k n β ρ W (a, b) h c = (omega (arith, mul-le-mul_right t a), go E a b)
  where
    go : (e : ℕ) → k * g ≤ e → e * 1000000000000 ≤ k * g * 1000000000000 + n * e → t * e * 1000000000 ≤ k * (t * g) * 1000000000 + ρ * (e * W)
    go e a b = scale (omega (arith, mul-le-mul_right t b, mul-le-mul_left (n * e) h, mul-le-mul_right (W * e) c))
      where
        scale : t * e * 1000000000 * 1000000000000000 ≤ (k * (t * g) * 1000000000 + ρ * (e * W)) * 1000000000000000 → t * e * 1000000000 ≤ k * (t * g) * 1000000000 + ρ * (e * W)
        scale h = le_of_mul-le-mul_right {k = 1000000000000000} h (lit< tt)

pub room : g3 + tiny ≤ g2
unfolding g3 g2 tiny
room = lit≤ tt

pub room4 : h4 + tiny ≤ h3
unfolding h4 h3 tiny
room4 = lit≤ tt

pub fit : (g h : ℕ) → g ≤ E → h ≤ E → g * h < 64 * (E * E)
fit g h a b = omega (arith, mul-le-mul a b, mul-pos E_pos E_pos)

-- ---- the last sums, over any numbers
pub sine-last : (EW F d1 m1 m2 a tw T1E T3E T5E T7E RE SE X3 X5 X7 : ℕ)
    → Near F (d1 + m2) tw → Near (d1 + m1) a tw → Near a T1E (5 * tw) → Near m1 (6 * X3) (18 * tw) → Near (m2 + 5040 * X7) (120 * X5) (43 * tw)
    → SE + T3E + T7E ≡ T1E + T5E + RE → (6 * X3 ≤ T3E) × (T3E * 1000000000 ≤ 6 * X3 * 1000000000 + 57 * EW) → (120 * X5 ≤ T5E) × (T5E * 1000000000 ≤ 120 * X5 * 1000000000 + 346 * EW)
    → (5040 * X7 ≤ T7E) × (T7E * 1000000000 ≤ 5040 * X7 * 1000000000 + 598 * EW) → RE * 1000000000000 ≤ 313383 * EW
    → EW ≡ 0x1_0000_0000_0000 * tw → Near (F * 1000000000) (SE * 1000000000) (661 * EW)
sine-last EW F d1 m1 m2 a tw T1E T3E T5E T7E RE SE X3 X5 X7 n1 n2 n3 n4 n5 s k3 k5 k7 r w = record {
  hi = omega (arith, n1.hi, n2.hi, n3.hi, n4.lo, n5.hi, k3.1, k5.0, k7.1);
  lo = omega (arith, n1.lo, n2.lo, n3.lo, n4.hi, n5.lo, k3.0, k5.1, k7.0);
}

pub cosine_floats : (EW F e1 d1 m1 m2 m3 tw X2 X4 X6 X8 : ℕ)
    → Near (F + m3) e1 tw → Near e1 (d1 + m2) tw → Near (d1 + m1) EW tw → Near m1 (2 * X2) (13 * tw) → Near m2 (24 * X4) (25 * tw) → Near (m3 + 40320 * X8) (720 * X6) (50 * tw)
    → Near (F + 2 * X2 + 720 * X6) (EW + 24 * X4 + 40320 * X8) (91 * tw)
cosine_floats EW F e1 d1 m1 m2 m3 tw X2 X4 X6 X8 n1 n2 n3 n4 n5 n6 = record {
  hi = omega (arith, n1.hi, n2.hi, n3.hi, n4.lo, n5.hi, n6.lo);
  lo = omega (arith, n1.lo, n2.lo, n3.lo, n4.hi, n5.lo, n6.hi);
}

pub cosine_tiny : (EW tw : ℕ) → EW ≡ 0x1_0000_0000_0000 * tw → 91 * tw * 1000000000 ≤ EW
cosine_tiny EW tw w = omega arith

pub cosine-rest : (EW RE : ℕ) → RE * 1000000000000 ≤ 24614 * EW → RE * 1000000000 ≤ 25 * EW
cosine-rest EW RE r = omega arith

pub cosine-up : (EW F tw T2E T4E T6E T8E RE SE X2 X4 X6 X8 : ℕ) → F + 2 * X2 + 720 * X6 ≤ EW + 24 * X4 + 40320 * X8 + 91 * tw → 91 * tw * 1000000000 ≤ EW → SE + T2E + T6E + RE ≡ EW + T4E + T8E
    → T2E * 1000000000 ≤ 2 * X2 * 1000000000 + 2 * EW → 24 * X4 ≤ T4E → T6E * 1000000000 ≤ 720 * X6 * 1000000000 + 50 * EW → 40320 * X8 ≤ T8E
    → RE * 1000000000 ≤ 25 * EW → F * 1000000000 ≤ SE * 1000000000 + 150 * EW
cosine-up EW F tw T2E T4E T6E T8E RE SE X2 X4 X6 X8 f t s k2 k4 k6 k8 r = omega arith

pub cosine-down : (EW F tw T2E T4E T6E T8E RE SE X2 X4 X6 X8 : ℕ) → EW + 24 * X4 + 40320 * X8 ≤ F + 2 * X2 + 720 * X6 + 91 * tw → 91 * tw * 1000000000 ≤ EW → SE + T2E + T6E + RE ≡ EW + T4E + T8E
    → 2 * X2 ≤ T2E → T4E * 1000000000 ≤ 24 * X4 * 1000000000 + 17 * EW → 720 * X6 ≤ T6E → T8E * 1000000000 ≤ 40320 * X8 * 1000000000 + 60 * EW → SE * 1000000000 ≤ F * 1000000000 + 150 * EW
cosine-down EW F tw T2E T4E T6E T8E RE SE X2 X4 X6 X8 f t s k2 k4 k6 k8 = omega arith

pub cosine-last : (EW F e1 d1 m1 m2 m3 tw T2E T4E T6E T8E RE SE X2 X4 X6 X8 : ℕ)
    → Near (F + m3) e1 tw → Near e1 (d1 + m2) tw → Near (d1 + m1) EW tw → Near m1 (2 * X2) (13 * tw) → Near m2 (24 * X4) (25 * tw) → Near (m3 + 40320 * X8) (720 * X6) (50 * tw)
    → SE + T2E + T6E + RE ≡ EW + T4E + T8E → (2 * X2 ≤ T2E) × (T2E * 1000000000 ≤ 2 * X2 * 1000000000 + 2 * EW) → (24 * X4 ≤ T4E) × (T4E * 1000000000 ≤ 24 * X4 * 1000000000 + 17 * EW)
    → (720 * X6 ≤ T6E) × (T6E * 1000000000 ≤ 720 * X6 * 1000000000 + 50 * EW) → (40320 * X8 ≤ T8E) ×
    (T8E * 1000000000 ≤ 40320 * X8 * 1000000000 + 60 * EW) → RE * 1000000000000 ≤ 24614 * EW → EW ≡ 0x1_0000_0000_0000 * tw
    → Near (F * 1000000000) (SE * 1000000000) (150 * EW)
cosine-last EW F e1 d1 m1 m2 m3 tw T2E T4E T6E T8E RE SE X2 X4 X6 X8 n1 n2 n3 n4 n5 n6 s k2 k4 k6 k8 r w =
    let f = cosine_floats EW F e1 d1 m1 m2 m3 tw X2 X4 X6 X8 n1 n2 n3 n4 n5 n6 in
    let t = cosine_tiny EW tw w in
    let q = cosine-rest EW RE r in
    record {
      hi = cosine-up EW F tw T2E T4E T6E T8E RE SE X2 X4 X6 X8 f.hi t s k2.1 k4.0 k6.1 k8.0 q;
      lo = cosine-down EW F tw T2E T4E T6E T8E RE SE X2 X4 X6 X8 f.lo t s k2.0 k4.1 k6.0 k8.1;
    }
