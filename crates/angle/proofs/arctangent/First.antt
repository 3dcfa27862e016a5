-- The rule below the ratio 7/16: its answer, and any angle near it, meets the bound for up u and right v. Assumes nothing.
use Rattle.std.proofs.Common.{◌≡◌, ℕ, ◌+◌, ◌-◌, ◌*◌, ◌^◌, ◌<◌, ◌≤◌, true, false, sym, refl, ap, ◌∙◌, subst, mul-le-mul_right, lt_of_mul-lt-mul_right, mul-le-mul_left, mul-lt-mul_of_pos_right, mul-pos, le_of_mul-le-mul_right, arith, lit<, lit≤}
use native.Mathlib.Nat.{pow-zero}
use lib.Ieee.{Float, binary32, of_bits, round, sub, lt}
use Rattle.angle.specs.Meaning.{D, H, whole, coef, fact}
use Rattle.angle.specs.Arctangent.{less_of, of_ratio}
use Rattle.angle.proofs.Terms.{sin_at, cos_at, sum}
use Rattle.angle.proofs.arctangent.Placed.{Good}
use Rattle.angle.proofs.arctangent.Poly.{eval}
use Rattle.angle.proofs.arctangent.Horner.{h}
use Rattle.angle.proofs.arctangent.Budget.{E}
use Rattle.angle.proofs.arctangent.Ops.{Val, D-pos, Near, rounds, Op, less, lt-is}
use Rattle.angle.proofs.arctangent.Sides.{Low}
use Rattle.angle.proofs.arctangent.Degrees.{slack}
use Rattle.angle.proofs.arctangent.Slope.{ups, downs, K, x7}
use Rattle.angle.proofs.arctangent.Taken.{Taken, taken, l-hi, l-lo}
use Rattle.angle.proofs.arctangent.Base.{Good60, near_poly, n-x7}

-- how far an angle may lie from the rule's
unfoldable pub E0 : ℕ
unfolding E h
E0 = E - 3 * h

n-E0 : E0 + 3 * h ≤ E
unfolding E0 E h
n-E0 = lit≤ tt

pub n-half : 2 * 2 ^ 148 ≡ D
unfolding D
n-half = refl

pub n-h : 1000000 * h ≤ D
unfolding D h
n-h = lit≤ tt

n-big : 2 ^ 60 ≤ D
unfolding D
n-big = lit≤ tt

n-far : 1000000 * (slack) ≤ D
unfolding D slack
n-far = lit≤ tt

n-share : 13107200 * h ≤ 8 * D
unfolding D h
n-share = lit≤ tt

whole_is : coef 0 * 1 ≡ whole
unfolding coef whole fact D
whole_is = refl

pub cos_top : (y : ℕ) → cos_at y ≤ whole
unfolding sum
cos_top y = subst (λ (z : ℕ). coef 0 * y ^ 0 - sum 8 2 y ≤ z) (ap (λ (z : ℕ). coef 0 * z) (pow-zero y) ∙ whole_is) (cut (coef 0 * y ^ 0) (sum 8 2 y))
  where
    cut : (a b : ℕ) → a - b ≤ a
    cut a b = omega arith

-- from the float ratio Q to u / v
pub turned_hi : (D Q u v S C w h : ℕ) → 0 < D → C ≤ w → 13107200 * h ≤ 8 * D → Q * v * 2 ≤ u * D * 2 + v * h → 26214400 * (D * S) ≤ 26214400 * (Q * C) + 60 * ((D + Q) * w)
    → 262144 * (v * S) ≤ 262144 * (u * C) + (v + u) * w
turned_hi D Q u v S C w h D0 cw n q g =
    let p1 : 26214400 * (v * D * S) ≤ 26214400 * (v * Q * C) + 60 * (v * D * w) + 60 * (v * Q * w) = one v D S Q C w g in
    let p2 : 2 * (v * Q * C) ≤ 2 * (u * D * C) + v * h * C = two Q v u D h C q in
    let p3 : 2 * (v * Q * w) ≤ 2 * (u * D * w) + v * h * w = two Q v u D h w q in
    let p4 : v * h * C ≤ v * h * w = mul-le-mul_left (v * h) cw in
    let p5 : 13107200 * (v * h * w) ≤ 8 * (v * D * w) = three v h w D n in
    le_of_mul-le-mul_right {k = 100 * D}
    (go (v * D * S) (v * Q * C) (u * D * C) (v * D * w) (u * D * w) (v * Q * w) (v * h * C) (v * h * w) (262144 * (v * S) * (100 * D)) ((262144 * (u * C) + (v + u) * w) * (100 * D))
    (omega arith) (omega arith) p1 p2 p3 p4 p5) (omega arith)
  where
    one : (v D S Q C w : ℕ) → 26214400 * (D * S) ≤ 26214400 * (Q * C) + 60 * ((D + Q) * w) → 26214400 * (v * D * S) ≤ 26214400 * (v * Q * C) + 60 * (v * D * w) + 60 * (v * Q * w)
    one v D S Q C w g = omega (arith, mul-le-mul_left v g)

    two : (Q v u D h C : ℕ) → Q * v * 2 ≤ u * D * 2 + v * h → 2 * (v * Q * C) ≤ 2 * (u * D * C) + v * h * C
    two Q v u D h C q = omega (arith, mul-le-mul_right C q)

    three : (v h w D : ℕ) → 13107200 * h ≤ 8 * D → 13107200 * (v * h * w) ≤ 8 * (v * D * w)
    three v h w D n = omega (arith, mul-le-mul_left (v * w) n)

    go : (a b c d e f i k l r : ℕ) → l ≡ 26214400 * a → r ≡ 26214400 * c + 100 * d + 100 * e → 26214400 * a ≤ 26214400 * b + 60 * d + 60 * f → 2 * b ≤ 2 * c + i → 2 * f ≤ 2 * e + k → i ≤ k
        → 13107200 * k ≤ 8 * d → l ≤ r
    go a b c d e f i k l r x y p1 p2 p3 p4 p5 = omega arith

pub turned_lo : (D Q u v S C w h : ℕ) → 0 < D → C ≤ w → 13107200 * h ≤ 8 * D → Q * v * 2 ≤ u * D * 2 + v * h → u * D * 2 ≤ Q * v * 2 + v * h
    → 26214400 * (Q * C) ≤ 26214400 * (D * S) + 60 * ((D + Q) * w) → 262144 * (u * C) ≤ 262144 * (v * S) + (v + u) * w
turned_lo D Q u v S C w h D0 cw n q q' g =
    let p1 : 26214400 * (v * Q * C) ≤ 26214400 * (v * D * S) + 60 * (v * D * w) + 60 * (v * Q * w) = one v D S Q C w g in
    let p2 : 2 * (u * D * C) ≤ 2 * (v * Q * C) + v * h * C = two Q v u D h C q' in
    let p3 : 2 * (v * Q * w) ≤ 2 * (u * D * w) + v * h * w = two' Q v u D h w q in
    let p4 : v * h * C ≤ v * h * w = mul-le-mul_left (v * h) cw in
    let p5 : 13107200 * (v * h * w) ≤ 8 * (v * D * w) = three v h w D n in
    le_of_mul-le-mul_right {k = 100 * D}
    (go (v * D * S) (v * Q * C) (u * D * C) (v * D * w) (u * D * w) (v * Q * w) (v * h * C) (v * h * w) (262144 * (u * C) * (100 * D)) ((262144 * (v * S) + (v + u) * w) * (100 * D))
    (omega arith) (omega arith) p1 p2 p3 p4 p5) (omega arith)
  where
    one : (v D S Q C w : ℕ) → 26214400 * (Q * C) ≤ 26214400 * (D * S) + 60 * ((D + Q) * w) → 26214400 * (v * Q * C) ≤ 26214400 * (v * D * S) + 60 * (v * D * w) + 60 * (v * Q * w)
    one v D S Q C w g = omega (arith, mul-le-mul_left v g)

    two : (Q v u D h C : ℕ) → u * D * 2 ≤ Q * v * 2 + v * h → 2 * (u * D * C) ≤ 2 * (v * Q * C) + v * h * C
    two Q v u D h C q = omega (arith, mul-le-mul_right C q)

    two' : (Q v u D h C : ℕ) → Q * v * 2 ≤ u * D * 2 + v * h → 2 * (v * Q * C) ≤ 2 * (u * D * C) + v * h * C
    two' Q v u D h C q = omega (arith, mul-le-mul_right C q)

    three : (v h w D : ℕ) → 13107200 * h ≤ 8 * D → 13107200 * (v * h * w) ≤ 8 * (v * D * w)
    three v h w D n = omega (arith, mul-le-mul_left (v * w) n)

    go : (a b c d e f i k l r : ℕ) → l ≡ 26214400 * c → r ≡ 26214400 * a + 100 * d + 100 * e → 26214400 * b ≤ 26214400 * a + 60 * d + 60 * f → 2 * c ≤ 2 * b + i → 2 * f ≤ 2 * e + k → i ≤ k
        → 13107200 * k ≤ 8 * d → l ≤ r
    go a b c d e f i k l r x y p1 p2 p3 p4 p5 = omega arith

v-7/16 : Val (of_bits binary32 0x3EE00000) x7
unfolding of_bits D x7
v-7/16 = (refl, refl)

module _ (u v : ℕ) (u0 : 0 < u) (v0 : v ≤ 32766) (uv : 16 * u < 7 * v) where
  v-pos : 0 < v
  v-pos = omega arith

  qf : Float
  qf = round binary32 false u v

  qn : Near qf u v 124
  unfolding qf
  qn = rounds u v 124 v-pos (lit≤ tt) (go (2 ^ 148) D n-half D-pos)
    where
      go : (k d : ℕ) → 2 * k ≡ d → 0 < d → u * d < k * v
      go k d e p = half (u * d) (k * v) (scaled k d e p)
        where
          half : (a b : ℕ) → 2 * a < 2 * b → a < b
          half a b h = omega arith

          scaled : (k d : ℕ) → 2 * k ≡ d → 0 < d → 2 * (u * d) < 2 * (k * v)
          scaled k d e p = omega (arith, ap (λ (z : ℕ). z * v) e, mul-lt-mul_of_pos_right uv p)

  Q : ℕ
  Q = qn.parts

  q-hi : Q * v * 2 ≤ u * D * 2 + v * h
  unfolding Q h
  q-hi = qn.hi

  q-lo : u * D * 2 ≤ Q * v * 2 + v * h
  unfolding Q h
  q-lo = qn.lo

  q-top : 16 * Q < 7 * D
  q-top = lt_of_mul-lt-mul_right v (go Q D h q-hi n-h D-pos)
    where
      go : (Q D t : ℕ) → Q * v * 2 ≤ u * D * 2 + v * t → 1000000 * t ≤ D → 0 < D → 16 * Q * v < 7 * D * v
      go Q D t a b c =
          let k : 16 * (u * D) + D ≤ 7 * (v * D) = more u v D uv in
          let l : v * t ≤ 32766 * t = mul-le-mul_right t v0 in
          conv Q v D (fin (Q * v) (u * D) (v * D) (v * t) t D (omega arith) k l b c)
        where
          more : (u v D : ℕ) → 16 * u < 7 * v → 16 * (u * D) + D ≤ 7 * (v * D)
          more u v D h = let s : 16 * u + 1 ≤ 7 * v = omega arith in omega (arith, mul-le-mul_right D s)

          fin : (q a b c t d : ℕ) → q * 2 ≤ a * 2 + c → 16 * a + d ≤ 7 * b → c ≤ 32766 * t → 1000000 * t ≤ d → 0 < d → 16 * q < 7 * b
          fin q a b c t d x y z w p = omega arith

          conv : (Q v D : ℕ) → 16 * (Q * v) < 7 * (v * D) → 16 * Q * v < 7 * D * v
          conv Q v D h = omega arith

  far16 : D ≤ 65536 * Q
  far16 = go Q D h q-lo n-h D-pos
    where
      go : (Q D t : ℕ) → u * D * 2 ≤ Q * v * 2 + v * t → 1000000 * t ≤ D → 0 < D → D ≤ 65536 * Q
      go Q D t a b c = omega (arith, mul-le-mul_right D u0, mul-le-mul_right t v0, mul-le-mul_left Q v0)

  far : D ≤ 2 ^ 20 * Q
  far = go D Q far16
    where
      go : (D Q : ℕ) → D ≤ 65536 * Q → D ≤ 1048576 * Q
      go D Q h = omega arith

  q-x7 : Q < x7
  q-x7 = go Q D x7 q-top n-x7
    where
      go : (Q D x : ℕ) → 16 * Q < 7 * D → 16 * x ≡ 7 * D → Q < x
      go Q D x h e = omega arith

  q-val : Val qf Q
  unfolding Q
  q-val = qn.val

  tk : Taken qf Q
  tk = taken qf Q q-val (go Q D q-top) far
    where
      go : (Q D : ℕ) → 16 * Q < 7 * D → 16 * Q ≤ 7 * D
      go Q D h = omega arith

  few_l : tk.parts ≤ Q
  few_l = go tk.parts Q tk.few
    where
      go : (l q : ℕ) → 4 * l ≤ 3 * q → l ≤ q
      go l q h = omega arith

  ans : Op (sub binary32 qf (less_of qf)) (Q - tk.parts) 124
  ans = less qf (less_of qf) Q tk.parts 124 (lit≤ tt) q-val tk.val few_l (go Q (2 ^ 148) D n-half D-pos q-top)
    where
      go : (Q k d : ℕ) → 2 * k ≡ d → 0 < d → 16 * Q < 7 * d → Q < k
      go Q k d e p h = omega arith

  pub rule_is : of_ratio (round binary32 false u v) ≡ sub binary32 (round binary32 false u v) (less_of (round binary32 false u v))
  unfolding of_ratio qf
  rule_is = let e : lt (round binary32 false u v) (of_bits binary32 0x3EE00000) ≡ true = lt-is qf (of_bits binary32 0x3EE00000) Q x7 124 (lit≤ tt) q-val v-7/16 q-x7 in rw e

  -- the answer, in D-ths
  pub A : ℕ
  A = ans.parts

  pub A-val : Val (of_ratio (round binary32 false u v)) A
  unfolding A qf
  A-val = subst (λ (z : Float). Val z ans.parts) (sym rule_is) ans.val

  a-hi : A * 2 + tk.parts * 2 ≤ Q * 2 + h
  unfolding A h
  a-hi = go ans.parts Q tk.parts (2 ^ 124) ans.hi few_l
    where
      go : (a q l t : ℕ) → a * 2 ≤ (q - l) * 2 + t → l ≤ q → a * 2 + l * 2 ≤ q * 2 + t
      go a q l t e f = omega arith

  a-lo : Q * 2 ≤ A * 2 + tk.parts * 2 + h
  unfolding A h
  a-lo = go ans.parts Q tk.parts (2 ^ 124) ans.lo few_l
    where
      go : (a q l t : ℕ) → (q - l) * 2 ≤ a * 2 + t → l ≤ q → q * 2 ≤ a * 2 + l * 2 + t
      go a q l t e f = omega arith

  A-top : 2 * A ≤ D
  A-top = go A Q tk.parts D h a-hi q-top n-h
    where
      go : (a q l d t : ℕ) → a * 2 + l * 2 ≤ q * 2 + t → 16 * q < 7 * d → 1000000 * t ≤ d → 2 * a ≤ d
      go a q l d t x y z = omega arith

  -- more than what the products may move it by
  A-far : slack ≤ A
  A-far = go A Q tk.parts D h (slack) a-lo tk.few far16 n-h n-far
    where
      go : (a q l d t e : ℕ) → q * 2 ≤ a * 2 + l * 2 + t → 4 * l ≤ 3 * q → d ≤ 65536 * q → 1000000 * t ≤ d → 1000000 * e ≤ d → e ≤ a
      go a q l d t e x y z w n = omega arith

  module _ (y : ℕ) (y1 : y ≤ A + E0) (y2 : A ≤ y + E0) where
    g60 : Good60 Q y
    g60 =
        near_poly Q y (le_of Q x7 q-x7)
        (hi y A E0 E tk.parts Q h K (eval ups Q) (eval downs Q) y1 a-hi (l-lo qf Q tk) n-E0)
        (lo y A E0 E tk.parts Q h K (eval ups Q) (eval downs Q) y2 a-lo (l-hi qf Q tk) n-E0)
      where
        le_of : (a b : ℕ) → a < b → a ≤ b
        le_of a b l = omega arith

        hi : (y A E0 E l Q h K U N : ℕ) → y ≤ A + E0 → A * 2 + l * 2 ≤ Q * 2 + h → 2 * U ≤ 2 * (l * K) + 2 * N + 4 * (K * h) → E0 + 3 * h ≤ E → y * K + U ≤ Q * K + N + E * K
        hi y A E0 E l Q h K U N a b c d =
            let e : 2 * y + 2 * l ≤ 2 * Q + h + 2 * E0 = omega arith in
            omega (arith, mul-le-mul_right K e, mul-le-mul_right K d, c)

        lo : (y A E0 E l Q h K U N : ℕ) → A ≤ y + E0 → Q * 2 ≤ A * 2 + l * 2 + h → 2 * (l * K) + 2 * N ≤ 2 * U + 4 * (K * h) → E0 + 3 * h ≤ E → Q * K + N ≤ y * K + U + E * K
        lo y A E0 E l Q h K U N a b c d =
            let e : 2 * Q ≤ 2 * y + 2 * l + h + 2 * E0 = omega arith in
            omega (arith, mul-le-mul_right K e, mul-le-mul_right K d, c)

    -- 01's two inequalities in the first eighth of a turn, at any angle within E0 of the rule's
    first_good : Good u v y
    first_good = record {
      over = turned_hi D Q u v (sin_at y) (cos_at y) whole h D-pos (cos_top y) n-share q-hi g60.over;
      beneath = turned_lo D Q u v (sin_at y) (cos_at y) whole h D-pos (cos_top y) n-share q-hi q-lo g60.beneath;
      ahead = go (v * cos_at y) (u * sin_at y) (mul-pos v-pos g60.ahead);
    }
      where
        go : (a b : ℕ) → 0 < a → 0 < a + b
        go a b h = omega arith

  n_room : D + 2 * slack < H
  unfolding D slack H
  n_room = lit< tt

  n-slack : slack ≤ E0
  unfolding slack E0
  n-slack = lit≤ tt

  pub first-low : Low u v
  first-low = record {
    parts = A;
    val = A-val;
    far = A-far;
    room = go A D slack H A-top n_room;
    flat = less u v uv;
    good = λ y p q. first_good y (more y A slack E0 p n-slack) (more A y slack E0 q n-slack);
  }
    where
      less : (u v : ℕ) → 16 * u < 7 * v → u ≤ v
      less u v h = omega arith

      go : (a d e h : ℕ) → 2 * a ≤ d → d + 2 * e < h → 2 * (a + e) < h
      go a d e h x y = omega arith

      more : (a b e f : ℕ) → a ≤ b + e → e ≤ f → a ≤ b + f
      more a b e f x y = omega arith
