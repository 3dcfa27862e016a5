-- The tangents from the three known angles between the ratios 7/16 and 39/16, as f32. Assumes nothing.
use Rattle.std.proofs.Common.{◌≡◌, ℕ, ◌+◌, ◌-◌, ◌*◌, ◌^◌, ◌<◌, ◌≤◌, true, false, refl, ap, mul-le-mul_right, lt_of_mul-lt-mul_right, mul-lt-mul_of_pos_right, le_of_mul-le-mul_right, arith, lit≤}
use lib.Ieee.{Float, binary32, of_bits, round, add, sub, mul}
use Rattle.angle.specs.Meaning.{D}
use Rattle.angle.specs.Arctangent.{past_half, past_one, past_three_halves}
use Rattle.angle.proofs.arctangent.Ops.{Val, D-pos, Op, Share, times, plus, sub_is, sub_under}
use Rattle.angle.proofs.arctangent.Horner.{h}
use Rattle.angle.proofs.arctangent.Known.{Sized, sized, n-half, n-h}
use Rattle.angle.proofs.arctangent.Reduced.{Reduced, quotient, n-D}
use Rattle.angle.proofs.arctangent.Ratio as ratio

-- ---- closed numbers
n-151 : 2 ^ 151 ≡ 4 * D
unfolding D
n-151 = refl

n-125 : 2 ^ 125 ≡ 2 * h
unfolding h
n-125 = refl

n-126 : 2 ^ 126 ≡ 4 * h
unfolding h
n-126 = refl

n-127 : 2 ^ 127 ≡ 8 * h
unfolding h
n-127 = refl

n-128 : 2 ^ 128 ≡ 16 * h
unfolding h
n-128 = refl

n-149 : 2 ^ 149 ≡ D
unfolding D
n-149 = refl

n-150 : 2 ^ 150 ≡ 2 * D
unfolding D
n-150 = refl

n-152 : 2 ^ 152 ≡ 8 * D
unfolding D
n-152 = refl

v-1 : Val (of_bits binary32 0x3F800000) D
unfolding of_bits D
v-1 = (refl, refl)

v-2 : Val (of_bits binary32 0x40000000) (2 * D)
unfolding of_bits D
v-2 = (refl, refl)

-- three halves
unfoldable three : ℕ
three = 3 * 2 ^ 148

v-3 : Val (of_bits binary32 0x3FC00000) three
unfolding of_bits D three
v-3 = (refl, refl)

n-three : 2 * three ≡ 3 * D
unfolding three D
n-three = refl

module _ (u v : ℕ) (v0 : 0 < v) (vt : v ≤ 32766) (ut : u ≤ 32766) (low : 7 * v ≤ 16 * u) (top : 16 * u < 39 * v) where
  abbrev qf : Float
  qf = round binary32 false u v

  abbrev Q : ℕ
  Q = ratio.Q u v v0 vt ut low top

  q-val : Val qf Q
  q-val = ratio.q-val u v v0 vt ut low top

  q-low : 7 * D ≤ 16 * Q
  q-low = ratio.q-low u v v0 vt ut low top

  q-top : 16 * Q < 39 * D
  q-top = ratio.q-top u v v0 vt ut low top

  near_hi : (k : ℕ) → 16 * u ≤ k * v → 16 * (Q * v) ≤ 16 * (u * D) + (2 * k + 1) * (v * h)
  near_hi = ratio.near_hi u v v0 vt ut low top

  near_lo : (k : ℕ) → 16 * u ≤ k * v → 16 * (u * D) ≤ 16 * (Q * v) + (2 * k + 1) * (v * h)
  near_lo = ratio.near_lo u v v0 vt ut low top

  weak : 16 * u ≤ 39 * v
  weak = omega arith

  as_ratio : (k : ℕ) → 16 * Q < k * D → 16 * u ≤ (k + 1) * v
  as_ratio = ratio.as_ratio u v v0 vt ut low top

  -- ---- from a half: 2 q - 1 over 2 + q
  module _ (b : 16 * Q < 11 * D) where
    q12-hi : 16 * (Q * v) ≤ 16 * (u * D) + 25 * (v * h)
    q12-hi = near_hi 12 (as_ratio 11 b)

    q12-lo : 16 * (u * D) ≤ 16 * (Q * v) + 25 * (v * h)
    q12-lo = near_lo 12 (as_ratio 11 b)

    abbrev twice : Float
    twice = mul binary32 (of_bits binary32 0x40000000) qf

    ms : Share twice (2 * D * Q) D 126
    ms = times (of_bits binary32 0x40000000) qf (2 * D) Q 126 (lit≤ tt) v-2 q-val (go Q D (2 ^ 150) n-150 D-pos b)
      where
        go : (q d k : ℕ) → k ≡ 2 * d → 0 < d → 16 * q < 11 * d → 2 * d * q < k * d
        go q d k e p l = let l' : q < d = omega arith in omega (arith, ap (λ (z : ℕ). z * d) e, mul-lt-mul_of_pos_right l' p)

    abbrev M : ℕ
    M = ms.parts

    m-hi : M * 2 ≤ 4 * Q + 4 * h
    m-hi = le_of_mul-le-mul_right {k = D} (go M Q D h (2 ^ 126) n-126 ms.hi) D-pos
      where
        go : (m q d t k : ℕ) → k ≡ 4 * t → m * d * 2 ≤ 2 * d * q * 2 + d * k → m * 2 * d ≤ (4 * q + 4 * t) * d
        go m q d t k e l = omega (arith, ap (λ (z : ℕ). d * z) e)

    m-lo : 4 * Q ≤ M * 2 + 4 * h
    m-lo = le_of_mul-le-mul_right {k = D} (go M Q D h (2 ^ 126) n-126 ms.lo) D-pos
      where
        go : (m q d t k : ℕ) → k ≡ 4 * t → 2 * d * q * 2 ≤ m * d * 2 + d * k → 4 * q * d ≤ (m * 2 + 4 * t) * d
        go m q d t k e l = omega (arith, ap (λ (z : ℕ). d * z) e)

    gs : Op (add binary32 (of_bits binary32 0x40000000) qf) (2 * D + Q) 127
    gs = plus (of_bits binary32 0x40000000) qf (2 * D) Q 127 (lit≤ tt) v-2 q-val (go Q D (2 ^ 151) n-151 b)
      where
        go : (q d k : ℕ) → k ≡ 4 * d → 16 * q < 11 * d → 2 * d + q < k
        go q d k e l = omega arith

    abbrev G : ℕ
    G = gs.parts

    g-low : 3 * D ≤ 2 * G
    g-low = go G Q D h (2 ^ 127) n-127 gs.lo n-h
      where
        go : (g q d t k : ℕ) → k ≡ 8 * t → (2 * d + q) * 2 ≤ g * 2 + k → 10000000 * t ≤ d → 3 * d ≤ 2 * g
        go g q d t k e a c = omega arith

    g1 : G * v ≤ (2 * v + 1 * u) * D + v * (24 * h)
    g1 = go G Q D h (2 ^ 127) n-127 gs.hi q12-hi
      where
        go : (g q d t k : ℕ) → k ≡ 8 * t → g * 2 ≤ (2 * d + q) * 2 + k → 16 * (q * v) ≤ 16 * (u * d) + 25 * (v * t) → g * v ≤ (2 * v + 1 * u) * d + v * (24 * t)
        go g q d t k e a c = let a' : g * 2 ≤ (2 * d + q) * 2 + 8 * t = omega arith in omega (arith, mul-le-mul_right v a')

    g2 : (2 * v + 1 * u) * D ≤ G * v + v * (24 * h)
    g2 = go G Q D h (2 ^ 127) n-127 gs.lo q12-lo
      where
        go : (g q d t k : ℕ) → k ≡ 8 * t → (2 * d + q) * 2 ≤ g * 2 + k → 16 * (u * d) ≤ 16 * (q * v) + 25 * (v * t) → (2 * v + 1 * u) * d ≤ g * v + v * (24 * t)
        go g q d t k e a c = let a' : (2 * d + q) * 2 ≤ g * 2 + 8 * t = omega arith in omega (arith, mul-le-mul_right v a')

    y-few : 2 * v + 1 * u ≤ 163830
    y-few = omega arith

    pub half_short : (X : ℕ) → X + 2 * u ≡ 1 * v → 0 < X → Reduced (past_half qf) true X (2 * v + 1 * u)
    unfolding h past_half
    half_short X e X0 =
        let M-D : M < D = lt_of_mul-lt-mul_right v (under X M Q D (2 ^ 124) e X0 (unfold h in m-hi) (unfold h in q12-hi) (unfold h in n-D) D-pos) in
        let n : Sized (sub binary32 twice (of_bits binary32 0x3F800000)) true (D - M) 124 =
        sized (sub binary32 twice (of_bits binary32 0x3F800000)) true (D - M) 124 (lit≤ tt) (sub_under twice (of_bits binary32 0x3F800000) M D ms.val v-1 M-D)
        (few M Q D (2 ^ 124) (2 ^ 148) n-half (unfold h in m-lo) q-low (unfold h in n-h) D-pos) in
        quotient (sub binary32 twice (of_bits binary32 0x3F800000)) (add binary32 (of_bits binary32 0x40000000) qf) true n.parts G v X (2 * v + 1 * u) n.val gs.val
        (small n.parts M Q G D (2 ^ 124) (2 ^ 127) n-127 M-D n.hi (unfold h in m-lo) q-low gs.lo (unfold h in n-h)) g-low X0 y-few
        (n1 X n.parts M Q D (2 ^ 124) e M-D n.hi (unfold h in m-lo) (unfold h in q12-lo)) (n2 X n.parts M Q D (2 ^ 124) e M-D n.lo (unfold h in m-hi) (unfold h in q12-hi)) g1 g2
      where
        under : (X m q d t : ℕ) → X + 2 * u ≡ 1 * v → 0 < X → m * 2 ≤ 4 * q + 4 * t → 16 * (q * v) ≤ 16 * (u * d) + 25 * (v * t) → d ≡ 33554432 * t → 0 < d → m * v < d * v
        under X m q d t e p a c f z =
            let s : 2 * u + 1 ≤ v = omega arith in
            omega (arith, mul-le-mul_right v a, mul-le-mul_right d s, mul-le-mul_right t vt)

        few : (m q d t k : ℕ) → 2 * k ≡ d → 4 * q ≤ m * 2 + 4 * t → 7 * d ≤ 16 * q → 10000000 * t ≤ d → 0 < d → d - m < k
        few m q d t k e a c f z = omega arith

        small : (n m q g d t k : ℕ) → k ≡ 8 * t → m < d → n * 2 ≤ (d - m) * 2 + t → 4 * q ≤ m * 2 + 4 * t → 7 * d ≤ 16 * q → (2 * d + q) * 2 ≤ g * 2 + k → 10000000 * t ≤ d → 9 * n ≤ 2 * g
        small n m q g d t k e l a c f i j = omega arith

        n1 : (X n m q d t : ℕ) → X + 2 * u ≡ 1 * v → m < d → n * 2 ≤ (d - m) * 2 + t → 4 * q ≤ m * 2 + 4 * t → 16 * (u * d) ≤ 16 * (q * v) + 25 * (v * t) → n * v ≤ X * d + v * (7 * t)
        n1 X n m q d t e l a c f = let a' : n * 2 + m * 2 ≤ d * 2 + t = omega arith in omega (arith, mul-le-mul_right v a', mul-le-mul_right v c, ap (λ (z : ℕ). z * d) e)

        n2 : (X n m q d t : ℕ) → X + 2 * u ≡ 1 * v → m < d → (d - m) * 2 ≤ n * 2 + t → m * 2 ≤ 4 * q + 4 * t → 16 * (q * v) ≤ 16 * (u * d) + 25 * (v * t) → X * d ≤ n * v + v * (7 * t)
        n2 X n m q d t e l a c f = let a' : d * 2 ≤ n * 2 + m * 2 + t = omega arith in omega (arith, mul-le-mul_right v a', mul-le-mul_right v c, ap (λ (z : ℕ). z * d) e)

    pub half-past : (X : ℕ) → X + 1 * v ≡ 2 * u → 0 < X → Reduced (past_half qf) false X (2 * v + 1 * u)
    unfolding h past_half
    half-past X e X0 =
        let D-M : D ≤ M = le_of_mul-le-mul_right {k = v} (over X M Q D (2 ^ 124) e X0 (unfold h in m-lo) (unfold h in q12-lo) (unfold h in n-D)) v0 in
        let n : Sized (sub binary32 twice (of_bits binary32 0x3F800000)) false (M - D) 124 =
        sized (sub binary32 twice (of_bits binary32 0x3F800000)) false (M - D) 124 (lit≤ tt) (sub_is twice (of_bits binary32 0x3F800000) M D ms.val v-1 D-M)
        (few M Q D (2 ^ 124) (2 ^ 148) n-half (unfold h in m-hi) b (unfold h in n-h) D-pos) in
        quotient (sub binary32 twice (of_bits binary32 0x3F800000)) (add binary32 (of_bits binary32 0x40000000) qf) false n.parts G v X (2 * v + 1 * u) n.val gs.val
        (small n.parts M Q G D (2 ^ 124) (2 ^ 127) n-127 D-M n.hi (unfold h in m-hi) b gs.lo (unfold h in n-h)) g-low X0 y-few
        (n1 X n.parts M Q D (2 ^ 124) e D-M n.hi (unfold h in m-hi) (unfold h in q12-hi)) (n2 X n.parts M Q D (2 ^ 124) e D-M n.lo (unfold h in m-lo) (unfold h in q12-lo)) g1 g2
      where
        over : (X m q d t : ℕ) → X + 1 * v ≡ 2 * u → 0 < X → 4 * q ≤ m * 2 + 4 * t → 16 * (u * d) ≤ 16 * (q * v) + 25 * (v * t) → d ≡ 33554432 * t → d * v ≤ m * v
        over X m q d t e p a c f =
            let s : v + 1 ≤ 2 * u = omega arith in
            omega (arith, mul-le-mul_right v a, mul-le-mul_right d s, mul-le-mul_right t vt)

        few : (m q d t k : ℕ) → 2 * k ≡ d → m * 2 ≤ 4 * q + 4 * t → 16 * q < 11 * d → 10000000 * t ≤ d → 0 < d → m - d < k
        few m q d t k e a c f z = omega arith

        small : (n m q g d t k : ℕ) → k ≡ 8 * t → d ≤ m → n * 2 ≤ (m - d) * 2 + t → m * 2 ≤ 4 * q + 4 * t → 16 * q < 11 * d → (2 * d + q) * 2 ≤ g * 2 + k → 10000000 * t ≤ d → 9 * n ≤ 2 * g
        small n m q g d t k e l a c f i j = omega arith

        n1 : (X n m q d t : ℕ) → X + 1 * v ≡ 2 * u → d ≤ m → n * 2 ≤ (m - d) * 2 + t → m * 2 ≤ 4 * q + 4 * t → 16 * (q * v) ≤ 16 * (u * d) + 25 * (v * t) → n * v ≤ X * d + v * (7 * t)
        n1 X n m q d t e l a c f = let a' : n * 2 + d * 2 ≤ m * 2 + t = omega arith in omega (arith, mul-le-mul_right v a', mul-le-mul_right v c, ap (λ (z : ℕ). z * d) e)

        n2 : (X n m q d t : ℕ) → X + 1 * v ≡ 2 * u → d ≤ m → (m - d) * 2 ≤ n * 2 + t → 4 * q ≤ m * 2 + 4 * t → 16 * (u * d) ≤ 16 * (q * v) + 25 * (v * t) → X * d ≤ n * v + v * (7 * t)
        n2 X n m q d t e l a c f = let a' : m * 2 ≤ n * 2 + d * 2 + t = omega arith in omega (arith, mul-le-mul_right v a', mul-le-mul_right v c, ap (λ (z : ℕ). z * d) e)

  -- ---- from 1: q - 1 over q + 1
  module _ (a : 11 * D ≤ 16 * Q) (b : 16 * Q < 19 * D) where
    q20-hi : 16 * (Q * v) ≤ 16 * (u * D) + 41 * (v * h)
    q20-hi = near_hi 20 (as_ratio 19 b)

    q20-lo : 16 * (u * D) ≤ 16 * (Q * v) + 41 * (v * h)
    q20-lo = near_lo 20 (as_ratio 19 b)

    hs : Op (add binary32 qf (of_bits binary32 0x3F800000)) (Q + D) 127
    hs = plus qf (of_bits binary32 0x3F800000) Q D 127 (lit≤ tt) q-val v-1 (go Q D (2 ^ 151) n-151 b)
      where
        go : (q d k : ℕ) → k ≡ 4 * d → 16 * q < 19 * d → q + d < k
        go q d k e l = omega arith

    abbrev F : ℕ
    F = hs.parts

    f-low : 3 * D ≤ 2 * F
    f-low = go F Q D h (2 ^ 127) n-127 hs.lo a n-h
      where
        go : (g q d t k : ℕ) → k ≡ 8 * t → (q + d) * 2 ≤ g * 2 + k → 11 * d ≤ 16 * q → 10000000 * t ≤ d → 3 * d ≤ 2 * g
        go g q d t k e i j c = omega arith

    f1 : F * v ≤ (1 * v + 1 * u) * D + v * (24 * h)
    f1 = go F Q D h (2 ^ 127) n-127 hs.hi q20-hi
      where
        go : (g q d t k : ℕ) → k ≡ 8 * t → g * 2 ≤ (q + d) * 2 + k → 16 * (q * v) ≤ 16 * (u * d) + 41 * (v * t) → g * v ≤ (1 * v + 1 * u) * d + v * (24 * t)
        go g q d t k e i c = let i' : g * 2 ≤ (q + d) * 2 + 8 * t = omega arith in omega (arith, mul-le-mul_right v i')

    f2 : (1 * v + 1 * u) * D ≤ F * v + v * (24 * h)
    f2 = go F Q D h (2 ^ 127) n-127 hs.lo q20-lo
      where
        go : (g q d t k : ℕ) → k ≡ 8 * t → (q + d) * 2 ≤ g * 2 + k → 16 * (u * d) ≤ 16 * (q * v) + 41 * (v * t) → (1 * v + 1 * u) * d ≤ g * v + v * (24 * t)
        go g q d t k e i c = let i' : (q + d) * 2 ≤ g * 2 + 8 * t = omega arith in omega (arith, mul-le-mul_right v i')

    x-few : 1 * v + 1 * u ≤ 163830
    x-few = omega arith

    pub one_short : (X : ℕ) → X + 1 * u ≡ 1 * v → 0 < X → Reduced (past_one qf) true X (1 * v + 1 * u)
    unfolding h past_one
    one_short X e X0 =
        let Q-D : Q < D = lt_of_mul-lt-mul_right v (under X Q D (2 ^ 124) e X0 (unfold h in q20-hi) (unfold h in n-D) D-pos) in
        let n : Sized (sub binary32 qf (of_bits binary32 0x3F800000)) true (D - Q) 124 =
        sized (sub binary32 qf (of_bits binary32 0x3F800000)) true (D - Q) 124 (lit≤ tt) (sub_under qf (of_bits binary32 0x3F800000) Q D q-val v-1 Q-D) (few Q D (2 ^ 148) n-half a D-pos) in
        quotient (sub binary32 qf (of_bits binary32 0x3F800000)) (add binary32 qf (of_bits binary32 0x3F800000)) true n.parts F v X (1 * v + 1 * u) n.val hs.val
        (small n.parts Q F D (2 ^ 124) (2 ^ 127) n-127 Q-D n.hi a hs.lo (unfold h in n-h)) f-low X0 x-few
        (n1 X n.parts Q D (2 ^ 124) e Q-D n.hi (unfold h in q20-lo)) (n2 X n.parts Q D (2 ^ 124) e Q-D n.lo (unfold h in q20-hi)) f1 f2
      where
        under : (X q d t : ℕ) → X + 1 * u ≡ 1 * v → 0 < X → 16 * (q * v) ≤ 16 * (u * d) + 41 * (v * t) → d ≡ 33554432 * t → 0 < d → q * v < d * v
        under X q d t e p c f z =
            let s : u + 1 ≤ v = omega arith in
            omega (arith, mul-le-mul_right d s, mul-le-mul_right t vt)

        few : (q d k : ℕ) → 2 * k ≡ d → 11 * d ≤ 16 * q → 0 < d → d - q < k
        few q d k e c z = omega arith

        small : (n q g d t k : ℕ) → k ≡ 8 * t → q < d → n * 2 ≤ (d - q) * 2 + t → 11 * d ≤ 16 * q → (q + d) * 2 ≤ g * 2 + k → 10000000 * t ≤ d → 9 * n ≤ 2 * g
        small n q g d t k e l i c f j = omega arith

        n1 : (X n q d t : ℕ) → X + 1 * u ≡ 1 * v → q < d → n * 2 ≤ (d - q) * 2 + t → 16 * (u * d) ≤ 16 * (q * v) + 41 * (v * t) → n * v ≤ X * d + v * (7 * t)
        n1 X n q d t e l i f = let i' : n * 2 + q * 2 ≤ d * 2 + t = omega arith in omega (arith, mul-le-mul_right v i', ap (λ (z : ℕ). z * d) e)

        n2 : (X n q d t : ℕ) → X + 1 * u ≡ 1 * v → q < d → (d - q) * 2 ≤ n * 2 + t → 16 * (q * v) ≤ 16 * (u * d) + 41 * (v * t) → X * d ≤ n * v + v * (7 * t)
        n2 X n q d t e l i f = let i' : d * 2 ≤ n * 2 + q * 2 + t = omega arith in omega (arith, mul-le-mul_right v i', ap (λ (z : ℕ). z * d) e)

    pub one-past : (X : ℕ) → X + 1 * v ≡ 1 * u → 0 < X → Reduced (past_one qf) false X (1 * v + 1 * u)
    unfolding h past_one
    one-past X e X0 =
        let D-Q : D ≤ Q = le_of_mul-le-mul_right {k = v} (over X Q D (2 ^ 124) e X0 (unfold h in q20-lo) (unfold h in n-D)) v0 in
        let n : Sized (sub binary32 qf (of_bits binary32 0x3F800000)) false (Q - D) 124 =
        sized (sub binary32 qf (of_bits binary32 0x3F800000)) false (Q - D) 124 (lit≤ tt) (sub_is qf (of_bits binary32 0x3F800000) Q D q-val v-1 D-Q) (few Q D (2 ^ 148) n-half b D-pos) in
        quotient (sub binary32 qf (of_bits binary32 0x3F800000)) (add binary32 qf (of_bits binary32 0x3F800000)) false n.parts F v X (1 * v + 1 * u) n.val hs.val
        (small n.parts Q F D (2 ^ 124) (2 ^ 127) n-127 D-Q n.hi b hs.lo (unfold h in n-h)) f-low X0 x-few
        (n1 X n.parts Q D (2 ^ 124) e D-Q n.hi (unfold h in q20-hi)) (n2 X n.parts Q D (2 ^ 124) e D-Q n.lo (unfold h in q20-lo)) f1 f2
      where
        over : (X q d t : ℕ) → X + 1 * v ≡ 1 * u → 0 < X → 16 * (u * d) ≤ 16 * (q * v) + 41 * (v * t) → d ≡ 33554432 * t → d * v ≤ q * v
        over X q d t e p c f =
            let s : v + 1 ≤ u = omega arith in
            omega (arith, mul-le-mul_right d s, mul-le-mul_right t vt)

        few : (q d k : ℕ) → 2 * k ≡ d → 16 * q < 19 * d → 0 < d → q - d < k
        few q d k e c z = omega arith

        small : (n q g d t k : ℕ) → k ≡ 8 * t → d ≤ q → n * 2 ≤ (q - d) * 2 + t → 16 * q < 19 * d → (q + d) * 2 ≤ g * 2 + k → 10000000 * t ≤ d → 9 * n ≤ 2 * g
        small n q g d t k e l i c f j = omega arith

        n1 : (X n q d t : ℕ) → X + 1 * v ≡ 1 * u → d ≤ q → n * 2 ≤ (q - d) * 2 + t → 16 * (q * v) ≤ 16 * (u * d) + 41 * (v * t) → n * v ≤ X * d + v * (7 * t)
        n1 X n q d t e l i f = let i' : n * 2 + d * 2 ≤ q * 2 + t = omega arith in omega (arith, mul-le-mul_right v i', ap (λ (z : ℕ). z * d) e)

        n2 : (X n q d t : ℕ) → X + 1 * v ≡ 1 * u → d ≤ q → (q - d) * 2 ≤ n * 2 + t → 16 * (u * d) ≤ 16 * (q * v) + 41 * (v * t) → X * d ≤ n * v + v * (7 * t)
        n2 X n q d t e l i f = let i' : q * 2 ≤ n * 2 + d * 2 + t = omega arith in omega (arith, mul-le-mul_right v i', ap (λ (z : ℕ). z * d) e)

  -- ---- from three halves: q - 3/2 over 1 + 3/2 q, and both twice over
  module _ (a : 19 * D ≤ 16 * Q) where
    q39-hi : 16 * (Q * v) ≤ 16 * (u * D) + 79 * (v * h)
    q39-hi = near_hi 39 weak

    q39-lo : 16 * (u * D) ≤ 16 * (Q * v) + 79 * (v * h)
    q39-lo = near_lo 39 weak

    abbrev half-more : Float
    half-more = mul binary32 (of_bits binary32 0x3FC00000) qf

    ws : Share half-more (three * Q) D 127
    ws = times (of_bits binary32 0x3FC00000) qf three Q 127 (lit≤ tt) v-3 q-val (go Q D three (2 ^ 151) n-151 n-three D-pos q-top)
      where
        go : (q d r k : ℕ) → k ≡ 4 * d → 2 * r ≡ 3 * d → 0 < d → 16 * q < 39 * d → r * q < k * d
        go q d r k e f p l =
            let s : 2 * (r * q) ≡ 3 * (d * q) = omega (arith, ap (λ (z : ℕ). z * q) f) in
            omega (arith, ap (λ (z : ℕ). z * d) e, mul-lt-mul_of_pos_right l p)

    abbrev W : ℕ
    W = ws.parts

    w-hi : W * 2 ≤ 3 * Q + 8 * h
    w-hi = le_of_mul-le-mul_right {k = D} (go W Q D three h (2 ^ 127) n-127 n-three ws.hi) D-pos
      where
        go : (w q d r t k : ℕ) → k ≡ 8 * t → 2 * r ≡ 3 * d → w * d * 2 ≤ r * q * 2 + d * k → w * 2 * d ≤ (3 * q + 8 * t) * d
        go w q d r t k e f l = omega (arith, ap (λ (z : ℕ). z * q) f, ap (λ (z : ℕ). d * z) e)

    w-lo : 3 * Q ≤ W * 2 + 8 * h
    w-lo = le_of_mul-le-mul_right {k = D} (go W Q D three h (2 ^ 127) n-127 n-three ws.lo) D-pos
      where
        go : (w q d r t k : ℕ) → k ≡ 8 * t → 2 * r ≡ 3 * d → r * q * 2 ≤ w * d * 2 + d * k → 3 * q * d ≤ (w * 2 + 8 * t) * d
        go w q d r t k e f l = omega (arith, ap (λ (z : ℕ). z * q) f, ap (λ (z : ℕ). d * z) e)

    is : Op (add binary32 (of_bits binary32 0x3F800000) half-more) (D + W) 128
    is = plus (of_bits binary32 0x3F800000) half-more D W 128 (lit≤ tt) v-1 ws.val (go W Q D h (2 ^ 152) n-152 w-hi q-top n-h)
      where
        go : (w q d t k : ℕ) → k ≡ 8 * d → w * 2 ≤ 3 * q + 8 * t → 16 * q < 39 * d → 10000000 * t ≤ d → d + w < k
        go w q d t k e l i j = omega arith

    abbrev I : ℕ
    I = is.parts

    i-low : 3 * D ≤ 2 * I
    i-low = go I W Q D h (2 ^ 128) n-128 is.lo w-lo a n-h
      where
        go : (g w q d t k : ℕ) → k ≡ 16 * t → (d + w) * 2 ≤ g * 2 + k → 3 * q ≤ w * 2 + 8 * t → 19 * d ≤ 16 * q → 10000000 * t ≤ d → 3 * d ≤ 2 * g
        go g w q d t k e i j l c = omega arith

    i1 : I * (2 * v) ≤ (3 * u + 2 * v) * D + 2 * v * (24 * h)
    i1 = go I W Q D h (2 ^ 128) n-128 is.hi w-hi q39-hi
      where
        go : (g w q d t k : ℕ) → k ≡ 16 * t → g * 2 ≤ (d + w) * 2 + k → w * 2 ≤ 3 * q + 8 * t → 16 * (q * v) ≤ 16 * (u * d) + 79 * (v * t) → g * (2 * v) ≤ (3 * u + 2 * v) * d + 2 * v * (24 * t)
        go g w q d t k e i j c = let i' : g * 2 ≤ 2 * d + 3 * q + 24 * t = omega arith in omega (arith, mul-le-mul_right v i')

    i2 : (3 * u + 2 * v) * D ≤ I * (2 * v) + 2 * v * (24 * h)
    i2 = go I W Q D h (2 ^ 128) n-128 is.lo w-lo q39-lo
      where
        go : (g w q d t k : ℕ) → k ≡ 16 * t → (d + w) * 2 ≤ g * 2 + k → 3 * q ≤ w * 2 + 8 * t → 16 * (u * d) ≤ 16 * (q * v) + 79 * (v * t) → (3 * u + 2 * v) * d ≤ g * (2 * v) + 2 * v * (24 * t)
        go g w q d t k e i j c = let i' : 2 * d + 3 * q ≤ g * 2 + 24 * t = omega arith in omega (arith, mul-le-mul_right v i')

    z-few : 3 * u + 2 * v ≤ 163830
    z-few = omega arith

    pub three_short : (X : ℕ) → X + 2 * u ≡ 3 * v → 0 < X → Reduced (past_three_halves qf) true X (3 * u + 2 * v)
    unfolding h past_three_halves
    three_short X e X0 =
        let Q-T : Q < three = lt_of_mul-lt-mul_right v (under X Q D three (2 ^ 124) e n-three X0 (unfold h in q39-hi) (unfold h in n-D) D-pos) in
        let n : Sized (sub binary32 qf (of_bits binary32 0x3FC00000)) true (three - Q) 125 =
        sized (sub binary32 qf (of_bits binary32 0x3FC00000)) true (three - Q) 125 (lit≤ tt) (sub_under qf (of_bits binary32 0x3FC00000) Q three q-val v-3 Q-T)
        (few Q D three (2 ^ 149) n-149 n-three a D-pos) in
        quotient (sub binary32 qf (of_bits binary32 0x3FC00000)) (add binary32 (of_bits binary32 0x3F800000) half-more) true n.parts I (2 * v) X (3 * u + 2 * v) n.val is.val
        (small n.parts W Q I D three (2 ^ 124) (2 ^ 125) (2 ^ 128) n-125 n-128 n-three Q-T n.hi (unfold h in w-lo) a is.lo (unfold h in n-h)) i-low X0 z-few
        (n1 X n.parts Q D three (2 ^ 124) (2 ^ 125) n-125 e n-three Q-T n.hi (unfold h in q39-lo))
        (n2 X n.parts Q D three (2 ^ 124) (2 ^ 125) n-125 e n-three Q-T n.lo (unfold h in q39-hi)) i1 i2
      where
        under : (X q d r t : ℕ) → X + 2 * u ≡ 3 * v → 2 * r ≡ 3 * d → 0 < X → 16 * (q * v) ≤ 16 * (u * d) + 79 * (v * t) → d ≡ 33554432 * t → 0 < d → q * v < r * v
        under X q d r t e f p c g z =
            let s : 2 * u + 1 ≤ 3 * v = omega arith in
            omega (arith, mul-le-mul_right d s, mul-le-mul_right t vt, ap (λ (z : ℕ). z * v) f)

        few : (q d r k : ℕ) → k ≡ d → 2 * r ≡ 3 * d → 19 * d ≤ 16 * q → 0 < d → r - q < k
        few q d r k e f c z = omega arith

        small : (n w q g d r t j k : ℕ) → j ≡ 2 * t → k ≡ 16 * t → 2 * r ≡ 3 * d → q < r → n * 2 ≤ (r - q) * 2 + j → 3 * q ≤ w * 2 + 8 * t → 19 * d ≤ 16 * q → (d + w) * 2 ≤ g * 2 + k
            → 10000000 * t ≤ d → 9 * n ≤ 2 * g
        small n w q g d r t j k e e' f l i c m o x = omega arith

        n1 : (X n q d r t j : ℕ) → j ≡ 2 * t → X + 2 * u ≡ 3 * v → 2 * r ≡ 3 * d → q < r → n * 2 ≤ (r - q) * 2 + j → 16 * (u * d) ≤ 16 * (q * v) + 79 * (v * t) → n * (2 * v) ≤ X * d + 2 * v * (7 * t)
        n1 X n q d r t j e' e f l i c = let i' : n * 2 + q * 2 ≤ 3 * d + 2 * t = omega arith in omega (arith, mul-le-mul_right v i', ap (λ (z : ℕ). z * d) e)

        n2 : (X n q d r t j : ℕ) → j ≡ 2 * t → X + 2 * u ≡ 3 * v → 2 * r ≡ 3 * d → q < r → (r - q) * 2 ≤ n * 2 + j → 16 * (q * v) ≤ 16 * (u * d) + 79 * (v * t) → X * d ≤ n * (2 * v) + 2 * v * (7 * t)
        n2 X n q d r t j e' e f l i c = let i' : 3 * d ≤ n * 2 + q * 2 + 2 * t = omega arith in omega (arith, mul-le-mul_right v i', ap (λ (z : ℕ). z * d) e)

    pub three_past : (X : ℕ) → X + 3 * v ≡ 2 * u → 0 < X → Reduced (past_three_halves qf) false X (3 * u + 2 * v)
    unfolding h past_three_halves
    three_past X e X0 =
        let T-Q : three ≤ Q = le_of_mul-le-mul_right {k = v} (over X Q D three (2 ^ 124) e n-three X0 (unfold h in q39-lo) (unfold h in n-D)) v0 in
        let n : Sized (sub binary32 qf (of_bits binary32 0x3FC00000)) false (Q - three) 125 =
        sized (sub binary32 qf (of_bits binary32 0x3FC00000)) false (Q - three) 125 (lit≤ tt) (sub_is qf (of_bits binary32 0x3FC00000) Q three q-val v-3 T-Q)
        (few Q D three (2 ^ 149) n-149 n-three q-top D-pos) in
        quotient (sub binary32 qf (of_bits binary32 0x3FC00000)) (add binary32 (of_bits binary32 0x3F800000) half-more) false n.parts I (2 * v) X (3 * u + 2 * v) n.val is.val
        (small n.parts W Q I D three (2 ^ 124) (2 ^ 125) (2 ^ 128) n-125 n-128 n-three T-Q n.hi (unfold h in w-lo) q-top is.lo (unfold h in n-h)) i-low X0 z-few
        (n1 X n.parts Q D three (2 ^ 124) (2 ^ 125) n-125 e n-three T-Q n.hi (unfold h in q39-hi))
        (n2 X n.parts Q D three (2 ^ 124) (2 ^ 125) n-125 e n-three T-Q n.lo (unfold h in q39-lo)) i1 i2
      where
        over : (X q d r t : ℕ) → X + 3 * v ≡ 2 * u → 2 * r ≡ 3 * d → 0 < X → 16 * (u * d) ≤ 16 * (q * v) + 79 * (v * t) → d ≡ 33554432 * t → r * v ≤ q * v
        over X q d r t e f p c g =
            let s : 3 * v + 1 ≤ 2 * u = omega arith in
            omega (arith, mul-le-mul_right d s, mul-le-mul_right t vt, ap (λ (z : ℕ). z * v) f)

        few : (q d r k : ℕ) → k ≡ d → 2 * r ≡ 3 * d → 16 * q < 39 * d → 0 < d → q - r < k
        few q d r k e f c z = omega arith

        small : (n w q g d r t j k : ℕ) → j ≡ 2 * t → k ≡ 16 * t → 2 * r ≡ 3 * d → r ≤ q → n * 2 ≤ (q - r) * 2 + j → 3 * q ≤ w * 2 + 8 * t → 16 * q < 39 * d → (d + w) * 2 ≤ g * 2 + k
            → 10000000 * t ≤ d → 9 * n ≤ 2 * g
        small n w q g d r t j k e e' f l i c m o x = omega arith

        n1 : (X n q d r t j : ℕ) → j ≡ 2 * t → X + 3 * v ≡ 2 * u → 2 * r ≡ 3 * d → r ≤ q → n * 2 ≤ (q - r) * 2 + j → 16 * (q * v) ≤ 16 * (u * d) + 79 * (v * t) → n * (2 * v) ≤ X * d + 2 * v * (7 * t)
        n1 X n q d r t j e' e f l i c = let i' : n * 2 + 3 * d ≤ q * 2 + 2 * t = omega arith in omega (arith, mul-le-mul_right v i', ap (λ (z : ℕ). z * d) e)

        n2 : (X n q d r t j : ℕ) → j ≡ 2 * t → X + 3 * v ≡ 2 * u → 2 * r ≡ 3 * d → r ≤ q → (q - r) * 2 ≤ n * 2 + j → 16 * (u * d) ≤ 16 * (q * v) + 79 * (v * t) → X * d ≤ n * (2 * v) + 2 * v * (7 * t)
        n2 X n q d r t j e' e f l i c = let i' : q * 2 ≤ n * 2 + 3 * d + 2 * t = omega arith in omega (arith, mul-le-mul_right v i', ap (λ (z : ℕ). z * d) e)
