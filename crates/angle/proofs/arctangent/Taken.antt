-- `less_of` in f32 against its polynomial: within twice 2 ^ -25. Assumes nothing.
use Rattle.std.proofs.Common.{◌≡◌, ℕ, ◌+◌, ◌-◌, ◌*◌, ◌/◌, ◌^◌, ◌<◌, ◌≤◌, List, [], ◌∷◌, sym, refl, ap, subst, mul_assoc, mul-le-mul, mul-le-mul_left, le-div_iff_mul-le, le_of_mul-le-mul_right, arith, lit<, lit≤}
use lib.Ieee.{Float, binary32, sub, mul}
use Rattle.angle.specs.Meaning.{D}
use Rattle.angle.specs.Arctangent.{even_of, odd_of, less_of}
use Rattle.angle.proofs.arctangent.Poly.{eval, dev, eval_mono, dev_mono}
use Rattle.angle.proofs.arctangent.Ops.{Val, D-pos, Op, Share, times, less}
use Rattle.angle.proofs.arctangent.Slope.{ups, downs, ups_is, downs_is, K}
use Rattle.angle.proofs.arctangent.Horner.{h, Stage, q, q4, q5, evens, odds, even_in, odd_in, evens_near, odds_near, A0, A1, A2, A3, A4, A5, A6, A7, A8, A9, A10}

-- ---- a polynomial is no steeper than at the end
pub steep : (cs : List ℕ) (x d : ℕ) → eval cs (x + d) ≤ eval cs x + d * dev cs (x + d)
unfolding eval dev
steep [] x d = omega arith
steep (c ∷ cs) x d = omega (arith, mul-le-mul_left x (steep cs x d))

-- at points that lie within d of each other, below b
apart : (cs : List ℕ) (x y d b : ℕ) → x ≤ y + d → y + d ≤ b → eval cs x ≤ eval cs y + d * dev cs b
apart cs x y d b e f = omega (arith, eval_mono cs e, steep cs y d, mul-le-mul_left d (dev_mono cs f))

-- ---- closed numbers: the slopes below D ^ 4 / 16
abbrev B : ℕ
B = q / 16

evens_slope : 6 * dev evens B ≤ D * q4
unfolding dev evens A0 A2 A4 A6 A8 A10 D
evens_slope = lit≤ tt

odds_slope : 6 * (q * dev odds B) ≤ D * q4
unfolding dev odds A1 A3 A5 A7 A9 D
odds_slope = lit≤ tt

-- ---- x, its square and its fourth power
abbrev g : ℕ
g = D * D * D

module _ (D X Z W t : ℕ) (x7 : 16 * X ≤ 7 * D) (t0 : 1000 * t ≤ D) (z1 : Z * D * 2 ≤ X * X * 2 + D * t) (z2 : X * X * 2 ≤ Z * D * 2 + D * t) (w1 : W * D * 2 ≤ Z * Z * 2 + D * t)
    (w2 : Z * Z * 2 ≤ W * D * 2 + D * t) (D0 : 0 < D) where
  xx : 256 * (X * X) ≤ 49 * (D * D)
  xx = omega (arith, mul-le-mul x7 x7)

  pub z5 : 5 * Z ≤ D
  z5 = le_of_mul-le-mul_right {k = D} (omega (arith, xx, mul-le-mul_left D t0)) D0

  pub w16 : 16 * W ≤ D
  w16 = le_of_mul-le-mul_right {k = D} (omega (arith, mul-le-mul z5 z5, mul-le-mul_left D t0)) D0

  pub w20 : 20 * W ≤ D
  w20 = le_of_mul-le-mul_right {k = D} (omega (arith, mul-le-mul z5 z5, mul-le-mul_left D t0)) D0

  pub y27 : 27 * (X * X * (X * X)) ≤ D * D * (D * D)
  y27 = omega (arith, mul-le-mul xx xx)

  -- (Z D) ^ 2 against X ^ 4
  squares : (Z * D * (Z * D) * 4 ≤ X * X * (X * X) * 4 + X * X * (D * t) * 4 + D * t * (D * t)) × (X * X * (X * X) * 4 ≤ Z * D * (Z * D) * 4 + Z * D * (D * t) * 4 + D * t * (D * t))
  squares = (omega (arith, mul-le-mul z1 z1), omega (arith, mul-le-mul z2 z2))

  small : D * t * (D * t) * 1000 ≤ D * D * D * t
  small = omega (arith, mul-le-mul_left (D * D * t) t0)

  pub fourth_hi : W * (D * D * D) ≤ X * X * (X * X) + D * D * D * t
  fourth_hi = omega (arith, mul-le-mul_left (D * D) w1, squares.0, small, mul-le-mul_left (D * t) xx)

  pub fourth_lo : X * X * (X * X) ≤ W * (D * D * D) + D * D * D * t
  fourth_lo = omega (arith, mul-le-mul_left (D * D) w2, squares.1, small, mul-le-mul_left (D * D * t) z5)

n-h : 1000 * h ≤ D
unfolding D h
n-h = lit≤ tt

-- ---- the inner sums, at the exact fourth power
pub record Sum (e : Float) (s F : ℕ) : Type 0 where
  pub parts : ℕ
  pub val : Val e parts
  pub hi : 2 * (parts * s) ≤ 2 * F + 4 * h * s
  pub lo : 2 * F ≤ 2 * (parts * s) + 4 * h * s
  pub top : parts ≤ D

moved : (e : Float) (s : ℕ) (cs : List ℕ) (a b k : ℕ) → Stage e s (eval cs a) → a ≤ b + k → b ≤ a + k → a + k ≤ B → b + k ≤ B → 6 * (k * dev cs B) ≤ h * s → Sum e s (eval cs b)
moved e s cs a b k st ab ba ta tb sl =
    record {
      parts = st.parts;
      val = st.val;
      hi =
          subst (λ (z : ℕ). 2 * (st.parts * s) ≤ 2 * eval cs b + z) (sym (mul_assoc 4 h s))
          (up (st.parts * s) (eval cs a) (eval cs b) (k * dev cs B) (h * s) (h1 st.parts (eval cs a) h s st.hi) (apart cs a b k B ab tb) sl);
      lo =
          subst (λ (z : ℕ). 2 * eval cs b ≤ 2 * (st.parts * s) + z) (sym (mul_assoc 4 h s))
          (low (st.parts * s) (eval cs a) (eval cs b) (k * dev cs B) (h * s) (h1' st.parts (eval cs a) h s st.lo) (apart cs b a k B ba ta) sl);
      top = st.top;
    }
  where
    h1 : (p f t s : ℕ) → 2 * (p * s) ≤ 2 * f + 3 * t * s → 2 * (p * s) ≤ 2 * f + 3 * (t * s)
    h1 p f t s k = omega arith

    h1' : (p f t s : ℕ) → 2 * f ≤ 2 * (p * s) + 3 * t * s → 2 * f ≤ 2 * (p * s) + 3 * (t * s)
    h1' p f t s k = omega arith

    up : (p f f' m r : ℕ) → 2 * p ≤ 2 * f + 3 * r → f ≤ f' + m → 6 * m ≤ r → 2 * p ≤ 2 * f' + 4 * r
    up p f f' m r x y z = omega arith

    low : (p f f' m r : ℕ) → 2 * f ≤ 2 * p + 3 * r → f' ≤ f + m → 6 * m ≤ r → 2 * f' ≤ 2 * p + 4 * r
    low p f f' m r x y z = omega arith

-- ---- the whole: over any numbers
-- what is asked of the numbers at each step
module _ (D t X Z W e o s s' F F' Ev Od T L : ℕ) (x7 : 16 * X ≤ 7 * D) (D0 : 0 < D) (t0 : 1000 * t ≤ D) (e1 : e ≤ D) (o1 : 4 * o ≤ D) where
  x2 : 256 * (X * X) ≤ 49 * (D * D)
  x2 = omega (arith, mul-le-mul x7 x7)

  yy : 27 * (X * X * (X * X)) ≤ D * D * (D * D)
  yy = omega (arith, mul-le-mul x2 x2)

  even_hi : Z * D * 2 ≤ X * X * 2 + D * t → 2 * (e * s) ≤ 2 * F + 4 * t * s → Ev * D * 2 ≤ Z * e * 2 + D * t → 2 * (Ev * (D * D * s)) ≤ 2 * (X * X * F) + 3 * (D * D * s * t)
  even_hi z f v = omega (arith, mul-le-mul_left (D * s) v, mul-le-mul_left (e * s) z, mul-le-mul_left (X * X) f, mul-le-mul_left (s * t) x2, mul-le-mul_left (D * s * t) e1)

  even_lo : X * X * 2 ≤ Z * D * 2 + D * t → 2 * F ≤ 2 * (e * s) + 4 * t * s → Z * e * 2 ≤ Ev * D * 2 + D * t → 2 * (X * X * F) ≤ 2 * (Ev * (D * D * s)) + 3 * (D * D * s * t)
  even_lo z f v = omega (arith, mul-le-mul_left (D * s) v, mul-le-mul_left (e * s) z, mul-le-mul_left (X * X) f, mul-le-mul_left (s * t) x2, mul-le-mul_left (D * s * t) e1)

  odd_hi : W * (D * D * D) ≤ X * X * (X * X) + D * D * D * t → 2 * (o * s') ≤ 2 * F' + 4 * t * s' → Od * D * 2 ≤ W * o * 2 + D * t
      → 2 * (Od * (D * D * D * D * s')) ≤ 2 * (X * X * (X * X) * F') + 2 * (D * D * D * D * s' * t)
  odd_hi w f v =
      omega (arith, mul-le-mul_left (D * D * D * s') v, mul-le-mul_left (o * s') w, mul-le-mul_left (X * X * (X * X)) f, mul-le-mul_left (s' * t) yy, mul-le-mul_left (D * D * D * s' * t) o1)

  odd_lo : X * X * (X * X) ≤ W * (D * D * D) + D * D * D * t → 2 * F' ≤ 2 * (o * s') + 4 * t * s' → W * o * 2 ≤ Od * D * 2 + D * t
      → 2 * (X * X * (X * X) * F') ≤ 2 * (Od * (D * D * D * D * s')) + 2 * (D * D * D * D * s' * t)
  odd_lo w f v =
      omega (arith, mul-le-mul_left (D * D * D * s') v, mul-le-mul_left (o * s') w, mul-le-mul_left (X * X * (X * X)) f, mul-le-mul_left (s' * t) yy, mul-le-mul_left (D * D * D * s' * t) o1)

  module _ (se : s ≡ D * D * D * D * s') where
    s-od : Od * s ≡ Od * (D * D * D * D * s')
    s-od = ap (λ (z : ℕ). Od * z) se

    s-t : s * t ≡ D * D * D * D * s' * t
    s-t = ap (λ (z : ℕ). z * t) se

    last_hi : 2 * (Ev * (D * D * s)) ≤ 2 * (X * X * F) + 3 * (D * D * s * t) → 2 * (X * X * (X * X) * F') ≤ 2 * (Od * (D * D * D * D * s')) + 2 * (D * D * D * D * s' * t)
        → T * 2 + Od * 2 ≤ Ev * 2 + t → L * D * 2 ≤ X * T * 2 + D * t → 2 * (L * (D * D * D * s)) + 2 * (X * (D * D * (X * X * (X * X) * F'))) ≤ 2 * (X * (X * X * F)) + 4 * (D * D * D * s * t)
    last_hi v w r l =
        let w' : 2 * (X * X * (X * X) * F') ≤ 2 * (Od * s) + 2 * (s * t) = omega (arith, s-od, s-t) in
        fold (X * (D * D * s) * T) (L * (D * D * D * s)) (X * (D * D * (X * X * (X * X) * F'))) (X * (D * D * s) * Od) (X * (D * D * s) * Ev) (X * (X * X * F)) (X * (D * D * s * t))
        (D * D * D * s * t)
        (omega (arith, mul-le-mul_left (D * D * s) l)) (omega (arith, mul-le-mul_left (X * (D * D * s)) r)) (omega (arith, mul-le-mul_left X v)) (omega (arith, mul-le-mul_left (X * (D * D)) w'))
        (omega (arith, mul-le-mul_left (D * D * s * t) x7))
      where
        fold : (XT Lk P Q E G u k : ℕ) → 2 * Lk ≤ 2 * XT + k → 2 * XT + 2 * Q ≤ 2 * E + u → 2 * E ≤ 2 * G + 3 * u → 2 * P ≤ 2 * Q + 2 * u → 16 * u ≤ 7 * k → 2 * Lk + 2 * P ≤ 2 * G + 4 * k
        fold XT Lk P Q E G u k a b c d e = omega arith

    last_lo : 2 * (X * X * F) ≤ 2 * (Ev * (D * D * s)) + 3 * (D * D * s * t) → 2 * (Od * (D * D * D * D * s')) ≤ 2 * (X * X * (X * X) * F') + 2 * (D * D * D * D * s' * t)
        → Ev * 2 ≤ T * 2 + Od * 2 + t → X * T * 2 ≤ L * D * 2 + D * t → 2 * (X * (X * X * F)) ≤ 2 * (L * (D * D * D * s)) + 2 * (X * (D * D * (X * X * (X * X) * F'))) + 4 * (D * D * D * s * t)
    last_lo v w r l =
        let w' : 2 * (Od * s) ≤ 2 * (X * X * (X * X) * F') + 2 * (s * t) = omega (arith, s-od, s-t) in
        fold (X * (D * D * s) * T) (L * (D * D * D * s)) (X * (D * D * (X * X * (X * X) * F'))) (X * (D * D * s) * Od) (X * (D * D * s) * Ev) (X * (X * X * F)) (X * (D * D * s * t))
        (D * D * D * s * t)
        (omega (arith, mul-le-mul_left (D * D * s) l)) (omega (arith, mul-le-mul_left (X * (D * D * s)) r)) (omega (arith, mul-le-mul_left X v)) (omega (arith, mul-le-mul_left (X * (D * D)) w'))
        (omega (arith, mul-le-mul_left (D * D * s * t) x7))
      where
        fold : (XT Lk P Q E G u k : ℕ) → 2 * XT ≤ 2 * Lk + k → 2 * E ≤ 2 * XT + 2 * Q + u → 2 * G ≤ 2 * E + 3 * u → 2 * Q ≤ 2 * P + 2 * u → 16 * u ≤ 7 * k → 2 * G ≤ 2 * Lk + 2 * P + 4 * k
        fold XT Lk P Q E G u k a b c d e = omega arith

-- ---- the odd sum is the smaller
module _ (D X Z W e o Ev Od : ℕ) (D0 : 0 < D) (big : 2 ^ 60 ≤ D) (far : D ≤ 2 ^ 20 * X) (z5' : 5 * Z ≤ D) (e4 : D ≤ 4 * e) (o4 : 4 * o ≤ D)
    (zr : X * X * 2 ^ 24 ≤ Z * D * 2 ^ 24 + X * X + D * 2 ^ 23) (wr : W * D * 2 ^ 24 ≤ Z * Z * 2 ^ 24 + Z * Z + D * 2 ^ 23)
    (vr : Z * e * 2 ^ 24 ≤ Ev * D * 2 ^ 24 + Z * e + D * 2 ^ 23) (dr : Od * D * 2 ^ 24 ≤ W * o * 2 ^ 24 + W * o + D * 2 ^ 23) where
  z-far : 100 ≤ Z
  z-far =
      let k : D * 16777215 ≤ Z * 2 ^ 64 + 2 ^ 63 = le_of_mul-le-mul_right {k = D} (omega (arith, zr, mul-le-mul far far)) D0 in
      omega arith

  w-few : 5 * (W * 2 ^ 24) ≤ Z * 2 ^ 24 + Z + 5 * 2 ^ 23
  w-few = le_of_mul-le-mul_right {k = D} (omega (arith, wr, mul-le-mul_left (Z * 16777217) z5')) D0

  od_few : 4 * (Od * 2 ^ 24) ≤ W * 2 ^ 24 + W + 4 * 2 ^ 23
  od_few = le_of_mul-le-mul_right {k = D} (omega (arith, dr, mul-le-mul_left (W * 16777217) o4)) D0

  ev_many : Z * 2 ^ 24 ≤ 4 * (Ev * 2 ^ 24) + Z + 4 * 2 ^ 23
  ev_many = le_of_mul-le-mul_right {k = D} (omega (arith, vr, mul-le-mul_left (Z * 16777215) e4)) D0

  pub smaller : Od ≤ Ev
  smaller = omega (arith, z-far, w-few, od_few, ev_many)

-- ---- closed numbers
n-big : 2 ^ 60 ≤ D
unfolding D
n-big = lit≤ tt

n-half : 2 * 2 ^ 148 ≡ D
unfolding D
n-half = refl

odds_top : 100 * eval odds B ≤ 21 * (D * q4)
unfolding eval odds A1 A3 A5 A7 A9 D
odds_top = lit≤ tt

n-A0 : 100 * D ≤ 301 * A0
unfolding A0 D
n-A0 = lit≤ tt

q4-pos : 0 < q4
unfolding D
q4-pos = lit< tt

q5-pos : 0 < q5
unfolding D
q5-pos = lit< tt

q5-is : q5 ≡ D * D * D * D * q4
q5-is = go D q4
  where
    go : (d k : ℕ) → k * (d * (d * d * d)) ≡ d * d * d * d * k
    go d k = omega arith

first : (y : ℕ) → A0 * q5 ≤ eval evens y
unfolding evens eval
first y = go (A0 * q5) _
  where
    go : (a b : ℕ) → a ≤ a + b
    go a b = omega arith

-- below a half
under : (a b : ℕ) → 4 * (a * b) ≤ D * D → a * b < 2 ^ 148 * D
under a b k = go (a * b) (2 ^ 148) D n-half D-pos k
  where
    go : (n k d : ℕ) → 2 * k ≡ d → 0 < d → 4 * n ≤ d * d → n < k * d
    go n k d e p f = omega (arith, ap (λ (z : ℕ). z * d) e, mul-le-mul p p)

fewer : (l x t a b d k : ℕ) → l * d * 2 ^ 24 ≤ x * t * 2 ^ 24 + x * t + d * 2 ^ 23 → t * 2 + b * 2 ≤ a * 2 + k → 4 * a ≤ d → 1000 * k ≤ d → 0 < d → d ≤ 2 ^ 20 * x → 2 ^ 60 ≤ d → 4 * l ≤ 3 * x
fewer l x t a b d k e f g m p r s =
    let n : 2 * t ≤ d = omega arith in
    let o : 2 * (l * 2 ^ 24) ≤ x * 2 ^ 24 + x + 2 ^ 24 = le_of_mul-le-mul_right {k = d} (omega (arith, e, mul-le-mul_left (16777217 * x) n)) p in
    omega arith

pub record Taken (x : Float) (X : ℕ) : Type 0 where
  pub parts : ℕ
  pub val : Val (less_of x) parts
  pub few : 4 * parts ≤ 3 * X
  pub hi : 2 * (parts * (D * D * D * q5)) + 2 * (X * (D * D * (X * X * (X * X) * eval odds (X * X * (X * X))))) ≤ 2 * (X * (X * X * eval evens (X * X * (X * X)))) + 4 * (D * D * D * q5 * h)
  pub lo : 2 * (X * (X * X * eval evens (X * X * (X * X)))) ≤ 2 * (parts * (D * D * D * q5)) + 2 * (X * (D * D * (X * X * (X * X) * eval odds (X * X * (X * X))))) + 4 * (D * D * D * q5 * h)

module _ (x : Float) (X : ℕ) (vx : Val x X) (x7 : 16 * X ≤ 7 * D) (far : D ≤ 2 ^ 20 * X) where
  zf : Float
  zf = mul binary32 x x

  wf : Float
  unfolding zf
  wf = mul binary32 zf zf

  zs : Share zf (X * X) D 124
  unfolding zf
  zs = times x x X X 124 (lit≤ tt) vx vx (under X X (go X D x7))
    where
      go : (X D : ℕ) → 16 * X ≤ 7 * D → 4 * (X * X) ≤ D * D
      go X D k = omega (arith, mul-le-mul k k)

  Z : ℕ
  Z = zs.parts

  z-five : 5 * Z ≤ D
  unfolding Z
  z-five = go zs.parts X D h x7 n-h D-pos (unfold h in zs.hi)
    where
      go : (Z X D t : ℕ) → 16 * X ≤ 7 * D → 1000 * t ≤ D → 0 < D → Z * D * 2 ≤ X * X * 2 + D * t → 5 * Z ≤ D
      go Z X D t a b c d = le_of_mul-le-mul_right {k = D} (omega (arith, mul-le-mul a a, mul-le-mul_left D b)) c

  ws : Share wf (Z * Z) D 124
  unfolding wf Z zf
  ws = times zf zf zs.parts zs.parts 124 (lit≤ tt) zs.val zs.val (under zs.parts zs.parts (go zs.parts D z-five))
    where
      go : (Z D : ℕ) → 5 * Z ≤ D → 4 * (Z * Z) ≤ D * D
      go Z D k = omega (arith, mul-le-mul k k)

  W : ℕ
  W = ws.parts

  z1 : Z * D * 2 ≤ X * X * 2 + D * h
  unfolding Z h
  z1 = zs.hi

  z2 : X * X * 2 ≤ Z * D * 2 + D * h
  unfolding Z h
  z2 = zs.lo

  w1 : W * D * 2 ≤ Z * Z * 2 + D * h
  unfolding W h
  w1 = ws.hi

  w2 : Z * Z * 2 ≤ W * D * 2 + D * h
  unfolding W h
  w2 = ws.lo

  w-val : Val wf W
  unfolding W
  w-val = ws.val

  w-16 : 16 * W ≤ D
  w-16 = w16 D X Z W h x7 n-h z1 z2 w1 w2 D-pos

  abbrev y4 : ℕ
  y4 = X * X * (X * X)

  abbrev gap : ℕ
  gap = D * D * D * h

  in_B : (a : ℕ) → 20 * a ≤ q → a + gap ≤ B
  in_B a k = (le-div_iff_mul-le {k = 16} {x = a + gap} {y = q} (lit< tt)).1 (go a D h k n-h)
    where
      go : (a d t : ℕ) → 20 * a ≤ d * (d * d * d) → 1000 * t ≤ d → (a + d * d * d * t) * 16 ≤ d * (d * d * d)
      go a d t k e = omega (arith, mul-le-mul_left (d * d * d) e)

  in_w : W * (D * D * D) + gap ≤ B
  in_w = in_B (W * (D * D * D)) (go W D (w20 D X Z W h x7 n-h z1 z2 w1 w2 D-pos))
    where
      go : (w d : ℕ) → 20 * w ≤ d → 20 * (w * (d * d * d)) ≤ d * (d * d * d)
      go w d k = omega (arith, mul-le-mul_left (d * d * d) k)

  in_y : y4 + gap ≤ B
  in_y = in_B y4 (go y4 D (y27 D X Z W h x7 n-h z1 z2 w1 w2 D-pos))
    where
      go : (y d : ℕ) → 27 * y ≤ d * d * (d * d) → 20 * y ≤ d * (d * d * d)
      go y d k = omega arith

  e-slope : 6 * (gap * dev evens B) ≤ h * q5
  e-slope = go D h q4 (dev evens B) evens_slope
    where
      go : (d t k v : ℕ) → 6 * v ≤ d * k → 6 * (d * d * d * t * v) ≤ t * (k * (d * (d * d * d)))
      go d t k v e = omega (arith, mul-le-mul_left (d * d * d * t) e)

  o-slope : 6 * (gap * dev odds B) ≤ h * q4
  o-slope = go D h q4 (dev odds B) D-pos odds_slope
    where
      go : (d t k v : ℕ) → 0 < d → 6 * (d * (d * d * d) * v) ≤ d * k → 6 * (d * d * d * t * v) ≤ t * k
      go d t k v p e = le_of_mul-le-mul_right {k = d} (omega (arith, mul-le-mul_left t e)) p

  es : Sum (even_in wf) q5 (eval evens y4)
  es =
      moved (even_in wf) q5 evens (W * (D * D * D)) y4 gap (evens_near wf W w-val w-16)
      (fourth_hi D X Z W h x7 n-h z1 z2 w1 w2 D-pos) (fourth_lo D X Z W h x7 n-h z1 z2 w1 w2 D-pos) in_w in_y e-slope

  os : Sum (odd_in wf) q4 (eval odds y4)
  os =
      moved (odd_in wf) q4 odds (W * (D * D * D)) y4 gap (odds_near wf W w-val w-16)
      (fourth_hi D X Z W h x7 n-h z1 z2 w1 w2 D-pos) (fourth_lo D X Z W h x7 n-h z1 z2 w1 w2 D-pos) in_w in_y o-slope

  E : ℕ
  E = es.parts

  O : ℕ
  O = os.parts

  e-low : D ≤ 4 * E
  unfolding E
  e-low = go es.parts q5 D h A0 (eval evens y4) q5-pos es.lo (first y4) n-A0 n-h
    where
      go : (e s d t a f : ℕ) → 0 < s → 2 * f ≤ 2 * (e * s) + 4 * t * s → a * s ≤ f → 100 * d ≤ 301 * a → 1000 * t ≤ d → d ≤ 4 * e
      go e s d t a f p l k m n =
          let b : a ≤ e + 2 * t = le_of_mul-le-mul_right {k = s} (omega arith) p in
          omega arith

  o-top : 4 * O ≤ D
  unfolding O
  o-top = go os.parts q4 D h (eval odds y4) (eval odds B) q4-pos os.hi (eval_mono odds (few y4 gap B in_y)) odds_top n-h
    where
      few : (a b c : ℕ) → a + b ≤ c → a ≤ c
      few a b c k = omega arith

      go : (o s d t f m : ℕ) → 0 < s → 2 * (o * s) ≤ 2 * f + 4 * t * s → f ≤ m → 100 * m ≤ 21 * (d * s) → 1000 * t ≤ d → 4 * o ≤ d
      go o s d t f m p l k a n =
          let b : 100 * o ≤ 21 * d + 200 * t = le_of_mul-le-mul_right {k = s} (omega arith) p in
          omega arith

  evs : Share (even_of zf wf) (Z * E) D 124
  unfolding even_of Z E
  evs = times zf (even_in wf) zs.parts es.parts 124 (lit≤ tt) zs.val es.val (under zs.parts es.parts (go zs.parts es.parts D z-five es.top))
    where
      go : (z e d : ℕ) → 5 * z ≤ d → e ≤ d → 4 * (z * e) ≤ d * d
      go z e d k l = omega (arith, mul-le-mul k l)

  ods : Share (odd_of wf) (W * O) D 124
  unfolding odd_of W O
  ods = times wf (odd_in wf) ws.parts os.parts 124 (lit≤ tt) ws.val os.val (under ws.parts os.parts (go ws.parts os.parts D w-16 os.top))
    where
      go : (z e d : ℕ) → 16 * z ≤ d → e ≤ d → 4 * (z * e) ≤ d * d
      go z e d k l = omega (arith, mul-le-mul k l)

  Ev : ℕ
  Ev = evs.parts

  Od : ℕ
  Od = ods.parts

  order : Od ≤ Ev
  unfolding Od Ev W Z E O
  order = smaller D X zs.parts ws.parts es.parts os.parts evs.parts ods.parts D-pos n-big far z-five e-low o-top zs.rel_lo ws.rel_hi evs.rel_lo ods.rel_hi

  ev_few : 4 * Ev ≤ D
  unfolding Ev Z E
  ev_few = go evs.parts zs.parts es.parts D h (unfold h in evs.hi) z-five es.top n-h D-pos
    where
      go : (v z e d t : ℕ) → v * d * 2 ≤ z * e * 2 + d * t → 5 * z ≤ d → e ≤ d → 1000 * t ≤ d → 0 < d → 4 * v ≤ d
      go v z e d t a b c k p = le_of_mul-le-mul_right {k = d} (omega (arith, mul-le-mul b c, mul-le-mul_left d k)) p

  ts : Op (sub binary32 (even_of zf wf) (odd_of wf)) (Ev - Od) 124
  unfolding Ev Od
  ts = less (even_of zf wf) (odd_of wf) evs.parts ods.parts 124 (lit≤ tt) evs.val ods.val order (go evs.parts (2 ^ 148) D n-half D-pos ev_few)
    where
      go : (v k d : ℕ) → 2 * k ≡ d → 0 < d → 4 * v ≤ d → v < k
      go v k d e p f = omega arith

  T : ℕ
  T = ts.parts

  t-hi : T * 2 + Od * 2 ≤ Ev * 2 + h
  unfolding T h
  t-hi = go ts.parts Ev Od (2 ^ 124) ts.hi order
    where
      go : (t a b k : ℕ) → t * 2 ≤ (a - b) * 2 + k → b ≤ a → t * 2 + b * 2 ≤ a * 2 + k
      go t a b k e f = omega arith

  t-lo : Ev * 2 ≤ T * 2 + Od * 2 + h
  unfolding T h
  t-lo = go ts.parts Ev Od (2 ^ 124) ts.lo order
    where
      go : (t a b k : ℕ) → (a - b) * 2 ≤ t * 2 + k → b ≤ a → a * 2 ≤ t * 2 + b * 2 + k
      go t a b k e f = omega arith

  ls : Share (less_of x) (X * T) D 124
  unfolding less_of T wf zf
  ls = times x (sub binary32 (even_of zf wf) (odd_of wf)) X ts.parts 124 (lit≤ tt) vx ts.val (under X ts.parts (go X ts.parts Ev Od D h x7 t-hi ev_few n-h))
    where
      go : (x t a b d k : ℕ) → 16 * x ≤ 7 * d → t * 2 + b * 2 ≤ a * 2 + k → 4 * a ≤ d → 1000 * k ≤ d → 4 * (x * t) ≤ d * d
      go x t a b d k e f g m = let n : 2 * t ≤ d = omega arith in omega (arith, mul-le-mul e n)

  -- "x's angle is less than x by the polynomial", within 2 ^ -24
  pub taken : Taken x X
  unfolding Ev Od W Z E O T h
  taken = record {
    parts = ls.parts;
    val = ls.val;
    few = fewer ls.parts X ts.parts Ev Od D h ls.rel_hi t-hi ev_few n-h D-pos far n-big;
    hi =
        last_hi D h X Z W E O q5 q4 (eval evens y4) (eval odds y4) Ev Od T ls.parts x7 D-pos n-h es.top o-top q5-is
        (even_hi D h X Z W E O q5 q4 (eval evens y4) (eval odds y4) Ev Od T ls.parts x7 D-pos n-h es.top o-top z1 es.hi evs.hi)
        (odd_lo D h X Z W E O q5 q4 (eval evens y4) (eval odds y4) Ev Od T ls.parts x7 D-pos n-h es.top o-top (fourth_lo D X Z W h x7 n-h z1 z2 w1 w2 D-pos) os.lo ods.lo)
        t-hi ls.hi;
    lo =
        last_lo D h X Z W E O q5 q4 (eval evens y4) (eval odds y4) Ev Od T ls.parts x7 D-pos n-h es.top o-top q5-is
        (even_lo D h X Z W E O q5 q4 (eval evens y4) (eval odds y4) Ev Od T ls.parts x7 D-pos n-h es.top o-top z2 es.lo evs.lo)
        (odd_hi D h X Z W E O q5 q4 (eval evens y4) (eval odds y4) Ev Od T ls.parts x7 D-pos n-h es.top o-top (fourth_hi D X Z W h x7 n-h z1 z2 w1 w2 D-pos) os.hi ods.hi)
        t-lo ls.lo;
  }

-- ---- the same, by the polynomial in x itself
n-K : D * D * D * q5 ≡ K
unfolding K
n-K = refl

module _ (x : Float) (X : ℕ) (tk : Taken x X) where
  abbrev y4' : ℕ
  y4' = X * X * (X * X)

  pub l-hi : 2 * (tk.parts * K) + 2 * eval downs X ≤ 2 * eval ups X + 4 * (K * h)
  l-hi =
      subst (λ (k : ℕ). 2 * (tk.parts * k) + 2 * eval downs X ≤ 2 * eval ups X + 4 * (k * h)) n-K
      (subst (λ (z : ℕ). 2 * (tk.parts * (D * D * D * q5)) + 2 * z ≤ 2 * eval ups X + 4 * (D * D * D * q5 * h)) (sym (downs_is X))
      (subst (λ (z : ℕ). 2 * (tk.parts * (D * D * D * q5)) + 2 * (X * (D * D * (y4' * eval odds y4'))) ≤ 2 * z + 4 * (D * D * D * q5 * h)) (sym (ups_is X)) tk.hi))

  pub l-lo : 2 * eval ups X ≤ 2 * (tk.parts * K) + 2 * eval downs X + 4 * (K * h)
  l-lo =
      subst (λ (k : ℕ). 2 * eval ups X ≤ 2 * (tk.parts * k) + 2 * eval downs X + 4 * (k * h)) n-K
      (subst (λ (z : ℕ). 2 * eval ups X ≤ 2 * (tk.parts * (D * D * D * q5)) + 2 * z + 4 * (D * D * D * q5 * h)) (sym (downs_is X))
      (subst (λ (z : ℕ). 2 * z ≤ 2 * (tk.parts * (D * D * D * q5)) + 2 * (X * (D * D * (y4' * eval odds y4'))) + 4 * (D * D * D * q5 * h)) (sym (ups_is X)) tk.lo))
