-- The rule from the ratio 39/16 on: its reciprocal, as an f32, and how far that lies from v / u. Assumes nothing.
use Rattle.std.proofs.Common.{◌≡◌, ℕ, ◌+◌, ◌-◌, ◌*◌, ◌^◌, ◌<◌, ◌≤◌, false, negsuc, sym, refl, ap, subst, le_trans, mul-le-mul_right, mul-le-mul, lt_of_mul-lt-mul_right, mul-le-mul_left, mul-pos, le_of_mul-le-mul_right, arith, lit<, lit≤}
use lib.Ieee.{Float, fin, binary32, of_bits, round, div}
use Rattle.angle.specs.Meaning.{D}
use Rattle.angle.proofs.arctangent.Horner.{h}
use Rattle.angle.proofs.arctangent.Ops.{Val, D-pos, Near, rounds, div_signed}
use Rattle.angle.specs.Meaning.{H, whole}
use Rattle.angle.specs.Arctangent.{from_of, of_ratio}
use lib.Ieee.{neg, lt}
use Rattle.angle.proofs.Terms.{sin_at, cos_at}
use Rattle.angle.proofs.arctangent.Placed.{Good}
use Rattle.angle.proofs.arctangent.Poly.{eval}
use Rattle.angle.proofs.arctangent.Budget.{E}
use Rattle.angle.proofs.arctangent.Ops.{lt_not}
use Rattle.angle.proofs.arctangent.Slope.{ups, downs, K, x7}
use Rattle.angle.proofs.arctangent.Taken.{Taken, taken, l-hi, l-lo}
use Rattle.angle.proofs.arctangent.Base.{Good60, near_poly, n-x7}
use Rattle.angle.proofs.arctangent.Sides.{High}
use Rattle.angle.proofs.arctangent.Degrees.{slack}
use Rattle.angle.proofs.arctangent.Known.{Short, short}
use Rattle.angle.proofs.arctangent.Ratio.{at_least}
use Rattle.angle.proofs.arctangent.First.{n-h, n-half, turned_hi, turned_lo, cos_top}

n-15 : 2 ^ 15 * D ≡ 2 ^ 164
unfolding D
n-15 = refl

n-D : D ≡ 33554432 * h
unfolding D h
n-D = refl

n-hM : 2 ^ 24 ≤ h
unfolding h
n-hM = lit≤ tt

n-Dh : D ≡ 2 * (2 ^ 24 * h)
unfolding D h
n-Dh = refl

n-big : 2 ^ 60 ≤ h
unfolding h
n-big = lit≤ tt

v-1 : Val (of_bits binary32 0x3F800000) D
unfolding of_bits D
v-1 = (refl, refl)

unfoldable pub hi3 : ℕ
hi3 = 13176794 * 2 ^ 126

unfoldable pub lo3 : ℕ
lo3 = 10625384 * 2 ^ 102

v-hi3 : Val (of_bits binary32 0x3FC90FDA) hi3
unfolding of_bits D hi3
v-hi3 = (refl, refl)

v-lo3 : Val (of_bits binary32 0x33A22168) lo3
unfolding of_bits D lo3
v-lo3 = (refl, refl)

c7 : ℕ
c7 = 7 * 2 ^ 145

c11 : ℕ
c11 = 11 * 2 ^ 145

c19 : ℕ
c19 = 19 * 2 ^ 145

c39 : ℕ
c39 = 39 * 2 ^ 145

v7 : Val (of_bits binary32 0x3EE00000) c7
unfolding of_bits D c7
v7 = (refl, refl)

v11 : Val (of_bits binary32 0x3F300000) c11
unfolding of_bits D c11
v11 = (refl, refl)

v19 : Val (of_bits binary32 0x3F980000) c19
unfolding of_bits D c19
v19 = (refl, refl)

v39 : Val (of_bits binary32 0x401C0000) c39
unfolding of_bits D c39
v39 = (refl, refl)

n7 : 16 * c7 ≤ 39 * D
unfolding c7 D
n7 = lit≤ tt

n11 : 16 * c11 ≤ 39 * D
unfolding c11 D
n11 = lit≤ tt

n19 : 16 * c19 ≤ 39 * D
unfolding c19 D
n19 = lit≤ tt

n39 : 16 * c39 ≤ 39 * D
unfolding c39 D
n39 = lit≤ tt

n-lo3 : 10000000 * lo3 ≤ D
unfolding lo3 D
n-lo3 = lit≤ tt

n-hi3 : hi3 < 2 ^ 150
unfolding hi3
n-hi3 = lit< tt

n-hi3' : 7 * D + 16 * h ≤ 16 * hi3
unfolding hi3 D h
n-hi3' = lit≤ tt

n-H1 : H ≤ hi3 + lo3 + h
unfolding H hi3 lo3 h
n-H1 = lit≤ tt

n-H2 : hi3 + lo3 ≤ H + h
unfolding H hi3 lo3 h
n-H2 = lit≤ tt

-- how far an angle may lie from the rule's
unfoldable pub E5 : ℕ
unfolding E h
E5 = E - 6 * h

n-E5 : E5 + 6 * h ≤ E
unfolding E5 E h
n-E5 = lit≤ tt

n-E34 : 1000000 * (slack) ≤ D
unfolding slack D
n-E34 = lit≤ tt

n-share4 : 13107200 * (4 * h) ≤ 8 * D
unfolding D h
n-share4 = lit≤ tt

at_39 : round binary32 false 39 16 ≡ fin false 39 (negsuc 3)
unfolding round
at_39 = refl

-- from the two roundings to v / u
fold_hi : (a b c d e f g i k : ℕ) → a ≤ b + i + k → 2 * b ≤ 2 * c + d → d ≤ e + f + g → 2 * i ≤ 2 * e → 100 * k ≤ e → 100 * f ≤ e → 100 * g ≤ e → 2 * a ≤ 2 * c + 4 * e
fold_hi a b c d e f g i k x1 x2 x3 x4 x5 x6 x7 = omega arith

fold_lo : (a b c d e f g i k : ℕ) → b ≤ a + i + k → 2 * c ≤ 2 * b + d → d ≤ e + f + g → 2 * i ≤ 2 * e → 100 * k ≤ e → 100 * f ≤ e → 100 * g ≤ e → 2 * c ≤ 2 * a + 4 * e
fold_lo a b c d e f g i k x1 x2 x3 x4 x5 x6 x7 = omega arith

module _ (P Q u v D h M m : ℕ) (D0 : 0 < D) (M0 : 100 ≤ M) (mM : M ≡ 2 * m) (hM : M ≤ h) (Dh : D ≡ 2 * (M * h)) (p2 : 2 * P ≤ D) (vu : v ≤ u) (q1 : Q * v * M ≤ u * D * M + u * D + v * m)
    (q2 : u * D * M ≤ Q * v * M + u * D + v * m) where
  s1 : P * (u * D * M) ≤ P * (Q * v * M) + P * (u * D) + P * (v * m)
  s1 = omega (arith, mul-le-mul_left P q2)

  s1' : P * (Q * v * M) ≤ P * (u * D * M) + P * (u * D) + P * (v * m)
  s1' = omega (arith, mul-le-mul_left P q1)

  s3 : h * (Q * v * M) ≤ u * D * M * h + u * D * h + v * m * h
  s3 = omega (arith, mul-le-mul_left h q1)

  s4 : 2 * (P * (u * D)) ≤ 2 * (u * D * M * h)
  s4 = omega (arith, mul-le-mul_left (u * D) p2, ap (λ (z : ℕ). u * D * z) Dh)

  s6 : 100 * (u * D * h) ≤ u * D * M * h
  s6 = omega (arith, mul-le-mul_left (u * D * h) M0)

  s5 : 100 * (P * (v * m)) ≤ u * D * M * h
  s5 = go (mul-le-mul p2 (mul-le-mul vu (le_of M m mM))) (mul-le-mul_left (u * D * M) (le_trans M0 hM))
    where
      le_of : (M m : ℕ) → M ≡ 2 * m → 2 * m ≤ M
      le_of M m e = omega arith

      go : 2 * P * (v * (2 * m)) ≤ D * (u * M) → u * D * M * 100 ≤ u * D * M * h → 100 * (P * (v * m)) ≤ u * D * M * h
      go a b = omega arith

  s7 : 100 * (v * m * h) ≤ u * D * M * h
  s7 = go D100 (mul-le-mul_right h (mul-le-mul vu (half M m mM)))
    where
      half : (M m : ℕ) → M ≡ 2 * m → m ≤ M
      half M m e = omega arith

      D100 : 100 ≤ D
      D100 = big M h D M0 hM Dh
        where
          big : (M h D : ℕ) → 100 ≤ M → M ≤ h → D ≡ 2 * (M * h) → 100 ≤ D
          big M h D a b e = omega (arith, mul-le-mul a (le_trans a b), e)

      go : 100 ≤ D → v * m * h ≤ u * M * h → 100 * (v * m * h) ≤ u * D * M * h
      go a b = omega (arith, mul-le-mul_left (u * M * h) a)

  pub w-hi : P * Q * 2 ≤ D * D * 2 + Q * h → P * u * 2 ≤ v * D * 2 + u * (4 * h)
  w-hi ph =
      let r =
      fold_hi (P * (u * D * M)) (P * (Q * v * M)) (D * D * v * M) (h * (Q * v * M)) (u * D * M * h) (u * D * h) (v * m * h) (P * (u * D)) (P * (v * m)) s1 (lift P Q D h v M ph) s3 s4 s5 s6 s7 in
      le_of_mul-le-mul_right {k = D * M} (out P u v D M h r) (mul-pos D0 (pos M M0))
    where
      lift : (P Q D h v M : ℕ) → P * Q * 2 ≤ D * D * 2 + Q * h → 2 * (P * (Q * v * M)) ≤ 2 * (D * D * v * M) + h * (Q * v * M)
      lift P Q D h v M a = omega (arith, mul-le-mul_left (v * M) a)

      out : (P u v D M h : ℕ) → 2 * (P * (u * D * M)) ≤ 2 * (D * D * v * M) + 4 * (u * D * M * h) → P * u * 2 * (D * M) ≤ (v * D * 2 + u * (4 * h)) * (D * M)
      out P u v D M h r = omega arith

      pos : (M : ℕ) → 100 ≤ M → 0 < M
      pos M h = omega arith

  pub w-lo : D * D * 2 ≤ P * Q * 2 + Q * h → v * D * 2 ≤ P * u * 2 + u * (4 * h)
  w-lo ph =
      let r =
      fold_lo (P * (u * D * M)) (P * (Q * v * M)) (D * D * v * M) (h * (Q * v * M)) (u * D * M * h) (u * D * h) (v * m * h) (P * (u * D)) (P * (v * m)) s1' (lift P Q D h v M ph) s3 s4 s5 s6 s7 in
      le_of_mul-le-mul_right {k = D * M} (out P u v D M h r) (mul-pos D0 (pos M M0))
    where
      lift : (P Q D h v M : ℕ) → D * D * 2 ≤ P * Q * 2 + Q * h → 2 * (D * D * v * M) ≤ 2 * (P * (Q * v * M)) + h * (Q * v * M)
      lift P Q D h v M a = omega (arith, mul-le-mul_left (v * M) a)

      out : (P u v D M h : ℕ) → 2 * (D * D * v * M) ≤ 2 * (P * (u * D * M)) + 4 * (u * D * M * h) → v * D * 2 * (D * M) ≤ (P * u * 2 + u * (4 * h)) * (D * M)
      out P u v D M h r = omega arith

      pos : (M : ℕ) → 100 ≤ M → 0 < M
      pos M h = omega arith

module _ (u v : ℕ) (v0 : 0 < v) (u0 : u ≤ 32766) (uv : 39 * v ≤ 16 * u) where
  pub qn : Near (round binary32 false u v) u v 140
  qn = rounds u v 140 v0 (lit≤ tt) (go D (2 ^ 164) D-pos n-15)
    where
      go : (d k : ℕ) → 0 < d → 32768 * d ≡ k → u * d < k * v
      go d k p e = omega (arith, mul-le-mul_right d u0, mul-le-mul_left k v0)

  pub Q : ℕ
  Q = qn.parts

  pub q-val : Val (round binary32 false u v) Q
  unfolding Q
  q-val = qn.val

  qr1 : Q * v * 2 ^ 24 ≤ u * D * 2 ^ 24 + u * D + v * 2 ^ 23
  unfolding Q
  qr1 = qn.rel_hi

  qr2 : u * D * 2 ^ 24 ≤ Q * v * 2 ^ 24 + u * D + v * 2 ^ 23
  unfolding Q
  qr2 = qn.rel_lo

  D-many : 2 ^ 60 ≤ D
  D-many = go D h n-D n-big
    where
      go : (d t : ℕ) → d ≡ 33554432 * t → 2 ^ 60 ≤ t → 2 ^ 60 ≤ d
      go d t e f = omega arith

  Q-pos : 0 < Q
  Q-pos = lt_of_mul-lt-mul_right v (go Q D qr2 D-many)
    where
      go : (Q D : ℕ) → u * D * 16777216 ≤ Q * v * 16777216 + u * D + v * 8388608 → 1152921504606846976 ≤ D → 0 * v < Q * v
      go Q D a b = omega (arith, mul-le-mul_right D uv, mul-le-mul_left v b)

  pub q-low : 39 * D ≤ 16 * Q
  q-low = at_least 39 (fin false 39 (negsuc 3)) at_39 (refl, refl) (lit< tt) u v Q v0 q-val Q-pos uv

  -- the reciprocal
  pub pn : Near (round binary32 false D Q) D Q 124
  pn = rounds D Q 124 Q-pos (lit≤ tt) (go D Q (2 ^ 148) n-half D-pos q-low)
    where
      go : (d q k : ℕ) → 2 * k ≡ d → 0 < d → 39 * d ≤ 16 * q → d * d < k * q
      go d q k e p l = omega (arith, ap (λ (z : ℕ). z * q) e, mul-le-mul_left d l, mul-pos p p)

  pub p-is : div binary32 (of_bits binary32 0x3F800000) (round binary32 false u v) ≡ round binary32 false D Q
  p-is = div_signed false (of_bits binary32 0x3F800000) (round binary32 false u v) D Q v-1 q-val Q-pos

  pub P : ℕ
  P = pn.parts

  pub p-hi : P * Q * 2 ≤ D * D * 2 + Q * h
  unfolding P h
  p-hi = pn.hi

  pub p-lo : D * D * 2 ≤ P * Q * 2 + Q * h
  unfolding P h
  p-lo = pn.lo

  pub p-top : 16 * P < 7 * D
  p-top = lt_of_mul-lt-mul_right Q (go P Q D h p-hi q-low n-h (mul-pos D-pos Q-pos))
    where
      go : (P Q D t : ℕ) → P * Q * 2 ≤ D * D * 2 + Q * t → 39 * D ≤ 16 * Q → 1000000 * t ≤ D → 0 < D * Q → 16 * P * Q < 7 * D * Q
      go P Q D t a b c d = omega (arith, mul-le-mul_left D b, mul-le-mul_left Q c)

  pub p-val : Val (div binary32 (of_bits binary32 0x3F800000) (round binary32 false u v)) P
  unfolding P
  p-val = subst (λ (z : Float). Val z pn.parts) (sym p-is) pn.val

  q-top : Q ≤ 32767 * D
  q-top = go Q D qr1 D-many
    where
      go : (Q D : ℕ) → Q * v * 16777216 ≤ u * D * 16777216 + u * D + v * 8388608 → 1152921504606846976 ≤ D → Q ≤ 32767 * D
      go Q D a b =
          let k : Q * 16777216 ≤ 32766 * D * 16777217 + 8388608 = le_of_mul-le-mul_right {k = v} (omega (arith, mul-le-mul_right (16777217 * D) u0, mul-le-mul_left (32766 * D * 16777217) v0)) v0 in
          omega arith

  pub p-far16 : D ≤ 65536 * P
  p-far16 = go P Q D h p-lo q-top n-h D-pos
    where
      go : (P Q D t : ℕ) → D * D * 2 ≤ P * Q * 2 + Q * t → Q ≤ 32767 * D → 1000000 * t ≤ D → 0 < D → D ≤ 65536 * P
      go P Q D t a b c d =
          let k : D * 2 ≤ 32767 * (2 * P + t) = le_of_mul-le-mul_right {k = D} (omega (arith, mul-le-mul_right (2 * P + t) b)) d in
          omega arith

  pub tk : Taken (div binary32 (of_bits binary32 0x3F800000) (round binary32 false u v)) P
  tk = taken (div binary32 (of_bits binary32 0x3F800000) (round binary32 false u v)) P p-val (weak P D p-top) (more D P p-far16)
    where
      weak : (P D : ℕ) → 16 * P < 7 * D → 16 * P ≤ 7 * D
      weak P D h = omega arith

      more : (D P : ℕ) → D ≤ 65536 * P → D ≤ 1048576 * P
      more D P h = omega arith

  far18 : D ≤ 262144 * P
  far18 = go D P p-far16
    where
      go : (D P : ℕ) → D ≤ 65536 * P → D ≤ 262144 * P
      go D P h = omega arith

  v-u : v ≤ u
  v-u = omega arith

  pub ratio_hi : P * u * 2 ≤ v * D * 2 + u * (4 * h)
  ratio_hi = w-hi P Q u v D h (2 ^ 24) (2 ^ 23) D-pos (lit≤ tt) refl n-hM n-Dh (half P D p-top) v-u qr1 qr2 p-hi
    where
      half : (P D : ℕ) → 16 * P < 7 * D → 2 * P ≤ D
      half P D h = omega arith

  pub ratio_lo : v * D * 2 ≤ P * u * 2 + u * (4 * h)
  ratio_lo = w-lo P Q u v D h (2 ^ 24) (2 ^ 23) D-pos (lit≤ tt) refl n-hM n-Dh (half P D p-top) v-u qr1 qr2 p-lo
    where
      half : (P D : ℕ) → 16 * P < 7 * D → 2 * P ≤ D
      half P D h = omega arith

  over_all : (c : ℕ) → 16 * c ≤ 39 * D → c ≤ Q
  over_all c k = go c D Q k q-low
    where
      go : (c d q : ℕ) → 16 * c ≤ 39 * d → 39 * d ≤ 16 * q → c ≤ q
      go c d q a b = omega arith

  abbrev qf : Float
  qf = round binary32 false u v

  abbrev pf : Float
  pf = div binary32 (of_bits binary32 0x3F800000) (round binary32 false u v)

  branch : of_ratio qf ≡ from_of 0x3FC90FDA 0x33A22168 (neg pf)
  unfolding of_ratio
  branch =
      let e7 : lt qf (of_bits binary32 0x3EE00000) ≡ false = lt_not qf (of_bits binary32 0x3EE00000) Q c7 124 (lit≤ tt) q-val v7 (over_all c7 n7) in
      let e11 : lt qf (of_bits binary32 0x3F300000) ≡ false = lt_not qf (of_bits binary32 0x3F300000) Q c11 124 (lit≤ tt) q-val v11 (over_all c11 n11) in
      let e19 : lt qf (of_bits binary32 0x3F980000) ≡ false = lt_not qf (of_bits binary32 0x3F980000) Q c19 124 (lit≤ tt) q-val v19 (over_all c19 n19) in
      let e39 : lt qf (of_bits binary32 0x401C0000) ≡ false = lt_not qf (of_bits binary32 0x401C0000) Q c39 124 (lit≤ tt) q-val v39 (over_all c39 n39) in
      rw (e7, e11, e19, e39)

  sh : Short 0x3FC90FDA 0x33A22168 hi3 lo3 v-hi3 v-lo3 n-lo3 pf P p-val p-top far18 tk (from_of 0x3FC90FDA 0x33A22168 (neg pf))
  sh = short 0x3FC90FDA 0x33A22168 hi3 lo3 v-hi3 v-lo3 n-lo3 pf P p-val p-top far18 tk n-hi3' n-hi3

  pub A : ℕ
  A = sh.parts

  pub A-val : Val (of_ratio (round binary32 false u v)) A
  unfolding A
  A-val = subst (λ (z : Float). Val z sh.parts) (sym branch) sh.val

  -- H - A against P - l, twice
  short_hi : 2 * H + 2 * tk.parts ≤ 2 * A + 2 * P + 8 * h
  unfolding A
  short_hi = go H hi3 lo3 h sh.parts tk.parts P n-H1 sh.lo
    where
      go : (H i o t a l p : ℕ) → H ≤ i + o + t → 2 * (i + o) + 2 * l ≤ 2 * a + 2 * p + 6 * t → 2 * H + 2 * l ≤ 2 * a + 2 * p + 8 * t
      go H i o t a l p n m = omega arith

  short_lo : 2 * A + 2 * P ≤ 2 * H + 2 * tk.parts + 8 * h
  unfolding A
  short_lo = go H hi3 lo3 h sh.parts tk.parts P n-H2 sh.hi
    where
      go : (H i o t a l p : ℕ) → i + o ≤ H + t → 2 * a + 2 * p ≤ 2 * (i + o) + 2 * l + 6 * t → 2 * a + 2 * p ≤ 2 * H + 2 * l + 8 * t
      go H i o t a l p n m = omega arith

  -- short of a right angle by more than what the products may move it by
  pub A-room : A + (slack) ≤ H
  A-room = go A P H tk.parts h (slack) D short_lo tk.few p-far16 n-D n-E34 D-pos
    where
      go : (a p H l t e d : ℕ) → 2 * a + 2 * p ≤ 2 * H + 2 * l + 8 * t → 4 * l ≤ 3 * p → d ≤ 65536 * p → d ≡ 33554432 * t → 1000000 * e ≤ d → 0 < d → a + e ≤ H
      go a p H l t e d x1 x2 x3 x4 x5 x6 = omega arith

  pub A-near : 2 * H < 2 * A + D
  A-near = go A P H tk.parts h D short_hi p-top n-h D-pos
    where
      go : (a p H l t d : ℕ) → 2 * H + 2 * l ≤ 2 * a + 2 * p + 8 * t → 16 * p < 7 * d → 1000000 * t ≤ d → 0 < d → 2 * H < 2 * a + d
      go a p H l t d x1 x2 x3 x4 = omega arith

  module _ (y : ℕ) (y1 : y + A ≤ H + E5) (y2 : H ≤ y + A + E5) where
    g60 : Good60 P y
    g60 =
        near_poly P y (le_of P D x7 p-top n-x7)
        (hi y A E5 E tk.parts P h H K (eval ups P) (eval downs P) y1 short_hi (l-lo pf P tk) n-E5)
        (lo y A E5 E tk.parts P h H K (eval ups P) (eval downs P) y2 short_lo (l-hi pf P tk) n-E5)
      where
        le_of : (P D x : ℕ) → 16 * P < 7 * D → 16 * x ≡ 7 * D → P ≤ x
        le_of P D x h e = omega arith

        hi : (y A E5 E l P h H K U N : ℕ) → y + A ≤ H + E5 → 2 * H + 2 * l ≤ 2 * A + 2 * P + 8 * h → 2 * U ≤ 2 * (l * K) + 2 * N + 4 * (K * h) → E5 + 6 * h ≤ E → y * K + U ≤ P * K + N + E * K
        hi y A E5 E l P h H K U N a b c d =
            let e : 2 * y + 2 * l ≤ 2 * P + 8 * h + 2 * E5 = omega arith in
            omega (arith, mul-le-mul_right K e, mul-le-mul_right K d, c)

        lo : (y A E5 E l P h H K U N : ℕ) → H ≤ y + A + E5 → 2 * A + 2 * P ≤ 2 * H + 2 * l + 8 * h → 2 * (l * K) + 2 * N ≤ 2 * U + 4 * (K * h) → E5 + 6 * h ≤ E → P * K + N ≤ y * K + U + E * K
        lo y A E5 E l P h H K U N a b c d =
            let e : 2 * P ≤ 2 * y + 2 * l + 8 * h + 2 * E5 = omega arith in
            omega (arith, mul-le-mul_right K e, mul-le-mul_right K d, c)

    -- 01's two inequalities in the last part of a quarter turn, at the angle's rest y
    pub steep-good : Good v u y
    steep-good = record {
      over = turned_hi D P v u (sin_at y) (cos_at y) whole (4 * h) D-pos (cos_top y) n-share4 ratio_hi g60.over;
      beneath = turned_lo D P v u (sin_at y) (cos_at y) whole (4 * h) D-pos (cos_top y) n-share4 ratio_hi ratio_lo g60.beneath;
      ahead = go (u * cos_at y) (v * sin_at y) (mul-pos (le_trans v0 v-u) g60.ahead);
    }
      where
        go : (a b : ℕ) → 0 < a → 0 < a + b
        go a b h = omega arith

  n-slack : slack ≤ E5
  unfolding slack E5
  n-slack = lit≤ tt

  n_room : D + 2 * slack < H
  unfolding D slack H
  n_room = lit< tt

  pub steep-high : High u v
  steep-high = record {
    parts = A;
    val = A-val;
    room = A-room;
    near = go A D slack H A-near n_room;
    steep = more' u v v0 uv;
    good = λ y p q. steep-good y (more (y + A) H slack E5 p n-slack) (more H (y + A) slack E5 q n-slack);
  }
    where
      more' : (u v : ℕ) → 0 < v → 39 * v ≤ 16 * u → v < u
      more' u v p h = omega arith

      go : (a d e h : ℕ) → 2 * h < 2 * a + d → d + 2 * e < h → h + 2 * e < 2 * a
      go a d e h x y = omega arith

      more : (a b e f : ℕ) → a ≤ b + e → e ≤ f → a ≤ b + f
      more a b e f x y = omega arith
