-- From radians to degrees and back, one product each: within three times 2 ^ -23. Assumes nothing.
use Rattle.std.proofs.Common.{◌≡◌, ℕ, ◌+◌, ◌-◌, ◌*◌, ◌^◌, ◌<◌, ◌≤◌, Bool, false, sym, refl, ap, subst, mul-le-mul_right, mul-le-mul_left, mul-lt-mul_of_pos_right, mul-pos, le_of_mul-le-mul_right, arith, lit<, lit≤}
use lib.Ieee.{Float, binary32, of_bits, round, mul}
use lib.Ieee.Exact.{HasValue}
use Rattle.floats.specs.Degrees.{degree, radians_of}
use Rattle.angle.specs.Meaning.{D}
use Rattle.angle.proofs.arctangent.Ops.{Val, D-pos, Near, rounds, mul-signed}

-- the two constants, in D-ths
unfoldable pub deg : ℕ
deg = 15019745 * 2 ^ 131

unfoldable pub rad : ℕ
rad = 9370165 * 2 ^ 120

v-deg : Val (of_bits binary32 0x42652EE1) deg
unfolding of_bits D deg
v-deg = (refl, refl)

v-rad : Val degree rad
unfolding D rad of_bits
v-rad = (refl, refl)

-- how far the answer's product may lie from the angle
unfoldable pub E3 : ℕ
E3 = 3 * 2 ^ 126

n-deg : 16 * deg < 5 * 2 ^ 157
unfolding deg
n-deg = lit< tt

n-rad : (16 * deg + 5 * 2 ^ 132) * rad < 5 * (2 ^ 151 * D)
unfolding deg rad D
n-rad = lit< tt

n-down : D * D ≤ deg * rad
unfolding deg rad D
n-down = lit≤ tt

-- what the roundings and the constants may add, twice, for an angle of 16/5 at most
n-sum : 32 * (deg * rad) + 5 * (2 ^ 133 * rad) + 5 * (D * 2 ^ 127) ≤ 32 * (D * D) + 10 * (E3 * D)
unfolding deg rad D E3
n-sum = lit≤ tt

n-sum' : 2 ^ 133 * rad + D * 2 ^ 127 ≤ 2 * (E3 * D)
unfolding rad D E3
n-sum' = lit≤ tt

module _ (s : Bool) (a : Float) (A : ℕ) (va : HasValue a s A D) (top : 5 * A ≤ 16 * D) where
  rn : Near (round binary32 false (A * deg) (D * D)) (A * deg) (D * D) 133
  rn = rounds (A * deg) (D * D) 133 (mul-pos D-pos D-pos) (lit≤ tt) (go A D deg (2 ^ 157) D-pos top n-deg)
    where
      go : (A D g k : ℕ) → 0 < D → 5 * A ≤ 16 * D → 16 * g < 5 * k → A * g * D < k * (D * D)
      go A D g k p t n = cut (A * g * D) (k * (D * D)) (D * D * (16 * g)) (D * D * (5 * k)) (omega (arith, mul-le-mul_left (g * D) t)) (omega arith) (lower (D * D) (mul-pos p p))
        where
          lower : (d : ℕ) → 0 < d → d * (16 * g) < d * (5 * k)
          lower d p = omega (arith, mul-lt-mul_of_pos_right n p)

          cut : (x y c d : ℕ) → 5 * x ≤ c → d ≡ 5 * y → c < d → x < y
          cut x y c d e f h = omega arith

  R : ℕ
  R = rn.parts

  r-val : HasValue (mul binary32 a (of_bits binary32 0x42652EE1)) s R D
  unfolding R
  r-val = subst (λ (z : Float). HasValue z s rn.parts D) (sym (mul-signed s a (of_bits binary32 0x42652EE1) A deg va v-deg)) (rn.either s)

  r-hi : R * D * 2 ≤ A * deg * 2 + D * 2 ^ 133
  unfolding R
  r-hi = go rn.parts (A * deg) D (2 ^ 133) D-pos rn.hi
    where
      go : (r n D k : ℕ) → 0 < D → r * (D * D) * 2 ≤ n * D * 2 + D * D * k → r * D * 2 ≤ n * 2 + D * k
      go r n D k p h = le_of_mul-le-mul_right {k = D} (omega arith) p

  r-lo : A * deg * 2 ≤ R * D * 2 + D * 2 ^ 133
  unfolding R
  r-lo = go rn.parts (A * deg) D (2 ^ 133) D-pos rn.lo
    where
      go : (r n D k : ℕ) → 0 < D → n * D * 2 ≤ r * (D * D) * 2 + D * D * k → n * 2 ≤ r * D * 2 + D * k
      go r n D k p h = le_of_mul-le-mul_right {k = D} (omega arith) p

  r_top : 5 * R ≤ 16 * deg + 5 * 2 ^ 132
  r_top = go R A D deg (2 ^ 133) (2 ^ 132) D-pos top r-hi two
    where
      two : 2 ^ 133 ≡ 2 * 2 ^ 132
      two = refl

      go : (R A D g k l : ℕ) → 0 < D → 5 * A ≤ 16 * D → R * D * 2 ≤ A * g * 2 + D * k → k ≡ 2 * l → 5 * R ≤ 16 * g + 5 * l
      go R A D g k l p t h e = le_of_mul-le-mul_right {k = 2 * D} (omega (arith, mul-le-mul_left (2 * g) t, ap (λ (z : ℕ). D * z) e)) (omega arith)

  tn : Near (round binary32 false (R * rad) (D * D)) (R * rad) (D * D) 127
  tn = rounds (R * rad) (D * D) 127 (mul-pos D-pos D-pos) (lit≤ tt) (go R D rad (2 ^ 151) (16 * deg + 5 * 2 ^ 132) D-pos r_top n-rad)
    where
      go : (R D g k m : ℕ) → 0 < D → 5 * R ≤ m → m * g < 5 * (k * D) → R * g * D < k * (D * D)
      go R D g k m p t n = cut (R * g * D) (k * (D * D)) (m * g * D) (5 * (k * D) * D) (omega (arith, mul-le-mul_left (g * D) t)) (omega arith) (mul-lt-mul_of_pos_right n p)
        where
          cut : (x y c d : ℕ) → 5 * x ≤ c → d ≡ 5 * y → c < d → x < y
          cut x y c d e f h = omega arith

  -- the product, in D-ths
  pub T : ℕ
  T = tn.parts

  pub t-val : HasValue (radians_of (mul binary32 a (of_bits binary32 0x42652EE1))) s T D
  unfolding T radians_of
  t-val = subst (λ (z : Float). HasValue z s tn.parts D) (sym (mul-signed s (mul binary32 a (of_bits binary32 0x42652EE1)) degree R rad r-val v-rad)) (tn.either s)

  t-hi : T * D * 2 ≤ R * rad * 2 + D * 2 ^ 127
  unfolding T
  t-hi = go tn.parts (R * rad) D (2 ^ 127) D-pos tn.hi
    where
      go : (r n D k : ℕ) → 0 < D → r * (D * D) * 2 ≤ n * D * 2 + D * D * k → r * D * 2 ≤ n * 2 + D * k
      go r n D k p h = le_of_mul-le-mul_right {k = D} (omega arith) p

  t-lo : R * rad * 2 ≤ T * D * 2 + D * 2 ^ 127
  unfolding T
  t-lo = go tn.parts (R * rad) D (2 ^ 127) D-pos tn.lo
    where
      go : (r n D k : ℕ) → 0 < D → n * D * 2 ≤ r * (D * D) * 2 + D * D * k → n * 2 ≤ r * D * 2 + D * k
      go r n D k p h = le_of_mul-le-mul_right {k = D} (omega arith) p

  pub T-hi : T ≤ A + E3
  T-hi = go T R A D deg rad (2 ^ 133) (2 ^ 127) E3 D-pos top t-hi r-hi n-down n-sum
    where
      go : (T R A D g r k l E : ℕ) → 0 < D → 5 * A ≤ 16 * D → T * D * 2 ≤ R * r * 2 + D * l → R * D * 2 ≤ A * g * 2 + D * k → D * D ≤ g * r
          → 32 * (g * r) + 5 * (k * r) + 5 * (D * l) ≤ 32 * (D * D) + 10 * (E * D) → T ≤ A + E
      go T R A D g r k l E p t h1 h2 n0 n =
          let e1 : 10 * (T * (D * D)) ≤ 10 * (A * (g * r)) + 5 * (D * (k * r)) + 5 * (D * (D * l)) = omega (arith, mul-le-mul_left D h1, mul-le-mul_left r h2) in
          let x = g * r - D * D in
          let x1 : g * r ≡ D * D + x = omega arith in
          let e2 : A * (g * r) ≡ A * (D * D) + A * x = omega (arith, ap (λ (z : ℕ). A * z) x1) in
          let e3 : 5 * (A * x) ≤ 16 * (D * x) = omega (arith, mul-le-mul_right x t) in
          let e4 : 32 * (D * x) + 5 * (D * (k * r)) + 5 * (D * (D * l)) ≤ 10 * (D * (E * D)) = last D (g * r) (k * r) (D * l) (E * D) x x1 n in
          le_of_mul-le-mul_right {k = 10 * (D * D)}
          (fin (T * (D * D)) (A * (g * r)) (A * (D * D)) (A * x) (D * x) (D * (k * r)) (D * (D * l)) (D * (E * D)) (T * (10 * (D * D))) ((A + E) * (10 * (D * D))) (omega arith)
          (omega arith) e1 e2 e3 e4) (big D p)
        where
          last : (D gr kr dl ed x : ℕ) → gr ≡ D * D + x → 32 * gr + 5 * kr + 5 * dl ≤ 32 * (D * D) + 10 * ed → 32 * (D * x) + 5 * (D * kr) + 5 * (D * dl) ≤ 10 * (D * ed)
          last D gr kr dl ed x e n = let m : 32 * x + 5 * kr + 5 * dl ≤ 10 * ed = omega arith in omega (arith, mul-le-mul_left D m)

          fin : (t ag ad ax dx dk dl de tt' ae : ℕ) → tt' ≡ 10 * t → ae ≡ 10 * ad + 10 * de → 10 * t ≤ 10 * ag + 5 * dk + 5 * dl → ag ≡ ad + ax → 5 * ax ≤ 16 * dx
              → 32 * dx + 5 * dk + 5 * dl ≤ 10 * de → tt' ≤ ae
          fin t ag ad ax dx dk dl de tt' ae a b c d e f = omega arith

          big : (D : ℕ) → 0 < D → 0 < 10 * (D * D)
          big D p = omega (arith, mul-pos p p)

  pub T-lo : A ≤ T + E3
  T-lo = go T R A D deg rad (2 ^ 133) (2 ^ 127) E3 D-pos t-lo r-lo n-down n-sum'
    where
      go : (T R A D g r k l E : ℕ) → 0 < D → R * r * 2 ≤ T * D * 2 + D * l → A * g * 2 ≤ R * D * 2 + D * k → D * D ≤ g * r → k * r + D * l ≤ 2 * (E * D) → A ≤ T + E
      go T R A D g r k l E p h1 h2 n0 n =
          let e1 : 2 * (A * (g * r)) ≤ 2 * (T * (D * D)) + D * (k * r) + D * (D * l) = omega (arith, mul-le-mul_left D h1, mul-le-mul_left r h2) in
          let e2 : A * (D * D) ≤ A * (g * r) = mul-le-mul_left A n0 in
          let e3 : D * (k * r) + D * (D * l) ≤ 2 * (D * (E * D)) = omega (arith, mul-le-mul_left D n) in
          le_of_mul-le-mul_right {k = D * D} (fin (A * (D * D)) (A * (g * r)) (T * (D * D)) (D * (k * r)) (D * (D * l)) (D * (E * D)) ((T + E) * (D * D)) (omega arith) e1 e2 e3) (mul-pos p p)
        where
          fin : (a ag t dk dl de te : ℕ) → te ≡ t + de → 2 * ag ≤ 2 * t + dk + dl → a ≤ ag → dk + dl ≤ 2 * de → a ≤ te
          fin a ag t dk dl de te w x y z = omega arith
