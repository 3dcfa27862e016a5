-- Where the rule's angle is the polynomial's itself: for a ratio x up to 7/16, any angle within E of it has x for its tangent,
-- by sixty hundredths of what is asked. Assumes nothing.
use Rattle.std.proofs.Common.{◌≡◌, ℕ, zero, suc, ◌+◌, ◌-◌, ◌*◌, ◌/◌, ◌<◌, ◌≤◌, ◌⊎◌, sym, refl, ap, ◌∙◌, subst, inl, inr, ⊎_elim, le_trans, mul-le-mul_right, mul-le-mul, mul-le-mul_left, mul-pos, div-mul-le_self, le_of_mul-le-mul_right, arith, lit<, lit≤}
use native.Mathlib.Nat.{lt-div-mul-add, lt_of_mul-lt-mul_left}
use Rattle.angle.specs.Meaning.{D, whole}
use Rattle.angle.proofs.Terms.{sin_at, cos_at}
use Rattle.angle.proofs.arctangent.Poly.{eval, dev, dev2, above, within, dev2_mono}
use Rattle.angle.proofs.arctangent.Budget.{B, Most, tau, Q, L, L2, E, J, m}
use Rattle.angle.proofs.arctangent.Ops.{D-pos}
use Rattle.angle.proofs.arctangent.Slope.{ups, downs, K, R, x7, u2, n2, u2-is, n2-is, c1, c2, over, beneath}
use Rattle.angle.proofs.arctangent.Cells.{cell, angle_at, Node, node, angle_hi, angle_lo, K-pos, zero_angle}
use Rattle.angle.proofs.arctangent.Step.{sin_most, sin_least, cos_most, cos_least}
use Rattle.angle.proofs.arctangent.Core.{sides, bring}

-- ---- closed numbers
n-cell : 4096 * cell ≡ D
unfolding cell D
n-cell = refl

n-m : m ≡ 2 * cell
unfolding m cell D
n-m = refl

pub n-x7 : 16 * x7 ≡ 7 * D
unfolding x7 D
n-x7 = refl

n-L : E + 1 + L2 ≡ L
unfolding L E L2
n-L = refl

n-sum : D * tau + 4096 * (Q + L * whole) ≤ 245760 * J
unfolding D tau Q L whole J
n-sum = lit≤ tt

n-J : 26214400 * J ≤ D * whole
unfolding D whole J
n-J = lit≤ tt

n-front : 2 * (Most * (whole + tau) + Q) < D * whole
unfolding Most whole tau Q D
n-front = lit< tt

n-Most : Most ≤ D
unfolding Most D
n-Most = lit≤ tt

-- the largest step: m, the slope's excess, the second term and E
n-step : 2 * (m * (K * (D * D) + R)) + m * m * n2 * (D * D) + 2 * ((E + 1) * K * (D * D)) ≤ 2 * (Most * K * (D * D))
unfolding m K D R n2 E Most
n-step = lit≤ tt

-- a cell is more than what may be short
n-far : 2 * ((E + 1) * K * (2 * (D * D))) + 2 * (m * R) + m * m * u2 * (2 * (D * D)) ≤ 2 * (cell * (K * (D * D)))
unfolding m K D R u2 E cell
n-far = lit≤ tt

-- ---- over any numbers
-- from the node's angle a and the polynomials at the node and after the step
steps_hi : (X x d y a K E U Uj u' N Nj n' n2 g : ℕ) → X ≡ x + d → a ≤ y → u' ≤ K + n' → g ≡ K + n' - u' → y * K + U ≤ X * K + N + E * K → x * K + Nj ≤ a * K + Uj + K → Uj + d * u' ≤ U
    → 2 * N ≤ 2 * Nj + 2 * (d * n') + d * d * n2
    → 2 * ((y - a) * K) ≤ 2 * (d * g) + d * d * n2 + 2 * ((E + 1) * K)
steps_hi X x d y a K E U Uj u' N Nj n' n2 g e le f ge h1 h2 h3 h4 =
    let k1 : (y - a) * K + a * K ≡ y * K = part y a K le in
    let k2 : d * g + d * u' ≡ d * K + d * n' = slope d g K n' u' f ge in
    let k3 : X * K ≡ x * K + d * K = both X x d K e in
    go ((y - a) * K) (a * K) (y * K) (d * g) (d * u') (d * K) (d * n') (X * K) (x * K) (E * K) K U Uj N Nj (d * d * n2) ((E + 1) * K) (omega arith) k1 k2 k3 h1 h2 h3 h4
  where
    part : (y a K : ℕ) → a ≤ y → (y - a) * K + a * K ≡ y * K
    part y a K l = let s : y - a + a ≡ y = omega arith in omega (arith, ap (λ (z : ℕ). z * K) s)

    slope : (d g K n u : ℕ) → u ≤ K + n → g ≡ K + n - u → d * g + d * u ≡ d * K + d * n
    slope d g K n u l e = let s : g + u ≡ K + n = omega arith in omega (arith, ap (λ (z : ℕ). d * z) s)

    both : (X x d K : ℕ) → X ≡ x + d → X * K ≡ x * K + d * K
    both X x d K e = omega (arith, ap (λ (z : ℕ). z * K) e)

    go : (eK aK yK dg du dK dn XK xK EK K U Uj N Nj q E1 : ℕ) → E1 ≡ EK + K → eK + aK ≡ yK → dg + du ≡ dK + dn → XK ≡ xK + dK → yK + U ≤ XK + N + EK → xK + Nj ≤ aK + Uj + K → Uj + du ≤ U
        → 2 * N ≤ 2 * Nj + 2 * dn + q → 2 * eK ≤ 2 * dg + q + 2 * E1
    go eK aK yK dg du dK dn XK xK EK K U Uj N Nj q E1 a b c d e f g h = omega arith

steps_lo : (X x d y a K E U Uj u' N Nj n' u2 g : ℕ) → X ≡ x + d → u' ≤ K + n' → g ≡ K + n' - u' → X * K + N ≤ y * K + U + E * K → a * K + Uj ≤ x * K + Nj → Nj + d * n' ≤ N
    → 2 * U ≤ 2 * Uj + 2 * (d * u') + d * d * u2
    → 2 * (d * g) + 2 * (a * K) ≤ 2 * (y * K) + d * d * u2 + 2 * ((E + 1) * K)
steps_lo X x d y a K E U Uj u' N Nj n' u2 g e f ge h1 h2 h3 h4 =
    let k2 : d * g + d * u' ≡ d * K + d * n' = slope d g K n' u' f ge in
    let k3 : X * K ≡ x * K + d * K = both X x d K e in
    go (a * K) (y * K) (d * g) (d * u') (d * K) (d * n') (X * K) (x * K) (E * K) K U Uj N Nj (d * d * u2) ((E + 1) * K) (omega arith) k2 k3 h1 h2 h3 h4
  where
    slope : (d g K n u : ℕ) → u ≤ K + n → g ≡ K + n - u → d * g + d * u ≡ d * K + d * n
    slope d g K n u l e = let s : g + u ≡ K + n = omega arith in omega (arith, ap (λ (z : ℕ). d * z) s)

    both : (X x d K : ℕ) → X ≡ x + d → X * K ≡ x * K + d * K
    both X x d K e = omega (arith, ap (λ (z : ℕ). z * K) e)

    go : (aK yK dg du dK dn XK xK EK K U Uj N Nj q E1 : ℕ) → E1 ≡ EK + K → dg + du ≡ dK + dn → XK ≡ xK + dK → XK + N ≤ yK + U + EK → aK + Uj ≤ xK + Nj → Nj + dn ≤ N
        → 2 * U ≤ 2 * Uj + 2 * du + q → 2 * dg + 2 * aK ≤ 2 * yK + q + 2 * E1
    go aK yK dg du dK dn XK xK EK K U Uj N Nj q E1 a b c d e f g = omega arith

-- the step's lower end, where x is a cell on at least
far_enough : (D K d g b cell E R m u2 y a : ℕ) → 0 < K → 0 < D → cell ≤ d → d ≤ m → b ≤ D → K * (D * D) ≤ g * (D * D + b * b) + R
    → 2 * (d * g) + 2 * (a * K) ≤ 2 * (y * K) + d * d * u2 + 2 * ((E + 1) * K)
    → 2 * ((E + 1) * K * (2 * (D * D))) + 2 * (m * R) + m * m * u2 * (2 * (D * D)) ≤ 2 * (cell * (K * (D * D))) → a ≤ y
far_enough D K d g b cell E R m u2 y a K0 D0 cd dm bD b2 h n =
    let s = D * D + b * b in
    let s0 : D * D ≤ s = omega arith in
    let s2 : s ≤ 2 * (D * D) = omega (arith, mul-le-mul bD bD) in
    let p1 : 2 * (d * (g * s)) + 2 * (a * K * s) ≤ 2 * (y * K * s) + d * d * u2 * s + 2 * ((E + 1) * K * s) = mulled d g a K y u2 E s h in
    let p2 : cell * (K * (D * D)) ≤ d * (K * (D * D)) = mul-le-mul_right (K * (D * D)) cd in
    let p3 : d * (K * (D * D)) ≤ d * (g * s) + m * R = slope d g s (K * (D * D)) R m b2 dm in
    let p4 : d * d * u2 * s ≤ m * m * u2 * (2 * (D * D)) = mul-le-mul (mul-le-mul_right u2 (mul-le-mul dm dm)) s2 in
    let p5 : (E + 1) * K * s ≤ (E + 1) * K * (2 * (D * D)) = mul-le-mul_left ((E + 1) * K) s2 in
    let p6 : a * K * s ≤ y * K * s =
    go (a * K * s) (y * K * s) (d * (g * s)) (d * (K * (D * D))) (cell * (K * (D * D))) (m * R) (d * d * u2 * s) (m * m * u2 * (2 * (D * D))) ((E + 1) * K * s)
    ((E + 1) * K * (2 * (D * D))) p1 p2 p3 p4 p5 n in
    le_of_mul-le-mul_right {k = K} (le_of_mul-le-mul_right {k = s} p6 (pos D s D0 s0)) K0
  where
    mulled : (d g a K y u2 E s : ℕ) → 2 * (d * g) + 2 * (a * K) ≤ 2 * (y * K) + d * d * u2 + 2 * ((E + 1) * K)
        → 2 * (d * (g * s)) + 2 * (a * K * s) ≤ 2 * (y * K * s) + d * d * u2 * s + 2 * ((E + 1) * K * s)
    mulled d g a K y u2 E s h = omega (arith, mul-le-mul_right s h)

    slope : (d g s k R m : ℕ) → k ≤ g * s + R → d ≤ m → d * k ≤ d * (g * s) + m * R
    slope d g s k R m h l = omega (arith, mul-le-mul_left d h, mul-le-mul_right R l)

    pos : (D s : ℕ) → 0 < D → D * D ≤ s → 0 < s
    pos D s p h = omega (arith, mul-pos p p)

    go : (a y dg dk ck mR du mu e1 e2 : ℕ) → 2 * dg + 2 * a ≤ 2 * y + du + 2 * e1 → ck ≤ dk → dk ≤ dg + mR → du ≤ mu → e1 ≤ e2 → 2 * e2 + 2 * mR + mu ≤ 2 * ck → a ≤ y
    go a y dg dk ck mR du mu e1 e2 p1 p2 p3 p4 p5 n = omega arith

-- the step's upper end
step-few : (D K d g b E R m n2 Most e : ℕ) → 0 < K → 0 < D → d ≤ m → g * (D * D + b * b) ≤ K * (D * D) + R → 2 * (e * K) ≤ 2 * (d * g) + d * d * n2 + 2 * ((E + 1) * K)
    → 2 * (m * (K * (D * D) + R)) + m * m * n2 * (D * D) + 2 * ((E + 1) * K * (D * D)) ≤ 2 * (Most * K * (D * D)) → e ≤ Most
step-few D K d g b E R m n2 Most e K0 D0 dm b1 h n =
    let p1 : 2 * (e * K * (D * D)) ≤ 2 * (d * (g * (D * D))) + d * d * n2 * (D * D) + 2 * ((E + 1) * K * (D * D)) = mulled d g e K n2 E (D * D) h in
    let p2 : g * (D * D) ≤ K * (D * D) + R = le_trans (mul-le-mul_left g (omega arith)) b1 in
    let p3 : d * (g * (D * D)) ≤ m * (K * (D * D) + R) = mul-le-mul dm p2 in
    let p4 : d * d * n2 * (D * D) ≤ m * m * n2 * (D * D) = mul-le-mul_right (D * D) (mul-le-mul_right n2 (mul-le-mul dm dm)) in
    let p5 : e * K * (D * D) ≤ Most * K * (D * D) =
    go (e * K * (D * D)) (d * (g * (D * D))) (m * (K * (D * D) + R)) (d * d * n2 * (D * D)) (m * m * n2 * (D * D)) ((E + 1) * K * (D * D)) (Most * K * (D * D)) p1 p3 p4 n in
    le_of_mul-le-mul_right {k = K} (le_of_mul-le-mul_right {k = D * D} p5 (mul-pos D0 D0)) K0
  where
    mulled : (d g e K n E s : ℕ) → 2 * (e * K) ≤ 2 * (d * g) + d * d * n + 2 * ((E + 1) * K) → 2 * (e * K * s) ≤ 2 * (d * (g * s)) + d * d * n * s + 2 * ((E + 1) * K * s)
    mulled d g e K n E s h = omega (arith, mul-le-mul_right s h)

    go : (e dg mg dn mn e1 M : ℕ) → 2 * e ≤ 2 * dg + dn + 2 * e1 → dg ≤ mg → dn ≤ mn → 2 * mg + mn + 2 * e1 ≤ 2 * M → e ≤ M
    go e dg mg dn mn e1 M a b c d = omega arith

-- from the tangent's difference in D-ths to the cells
cells_hi : (D X b d e j L p q : ℕ) → 0 < D → 4096 * b ≡ j * D → X ≡ b + d → p ≡ 4096 * d → q ≡ 4096 * D + j * X → e * (D * D + b * (b + d)) ≤ D * D * d + L * (D * D + b * (b + d))
    → e * q ≤ D * p + L * q
cells_hi D X b d e j L p q D0 f g hp hq h =
    let r : q * D ≡ 4096 * (D * D + b * (b + d)) = wide D X b d j q f g hq in
    le_of_mul-le-mul_right {k = D}
    (go (e * q * D) ((D * p + L * q) * D) (e * (D * D + b * (b + d))) (D * D * d) (L * (D * D + b * (b + d))) (left e q D (D * D + b * (b + d)) r) (right D p L q (D * D + b * (b + d)) d hp r) h) D0
  where
    wide : (D X b d j q : ℕ) → 4096 * b ≡ j * D → X ≡ b + d → q ≡ 4096 * D + j * X → q * D ≡ 4096 * (D * D + b * (b + d))
    wide D X b d j q f g h = ap (λ (z : ℕ). z * D) h ∙ omega (arith, ap (λ (z : ℕ). z * X) f, ap (λ (z : ℕ). 4096 * b * z) g)

    left : (e q D s : ℕ) → q * D ≡ 4096 * s → e * q * D ≡ 4096 * (e * s)
    left e q D s r = omega (arith, ap (λ (z : ℕ). e * z) r)

    right : (D p L q s d : ℕ) → p ≡ 4096 * d → q * D ≡ 4096 * s → (D * p + L * q) * D ≡ 4096 * (D * D * d) + 4096 * (L * s)
    right D p L q s d f r = omega (arith, ap (λ (z : ℕ). D * D * z) f, ap (λ (z : ℕ). L * z) r)

    go : (a b e d l : ℕ) → a ≡ 4096 * e → b ≡ 4096 * d + 4096 * l → e ≤ d + l → a ≤ b
    go a b e d l x y z = omega arith

cells_lo : (D X b d e j L p q : ℕ) → 0 < D → 4096 * b ≡ j * D → X ≡ b + d → p ≡ 4096 * d → q ≡ 4096 * D + j * X → D * D * d ≤ e * (D * D + b * (b + d)) + L * (D * D + b * (b + d))
    → D * p ≤ e * q + L * q
cells_lo D X b d e j L p q D0 f g hp hq h =
    let r : q * D ≡ 4096 * (D * D + b * (b + d)) = wide D X b d j q f g hq in
    le_of_mul-le-mul_right {k = D}
    (go (D * p * D) ((e * q + L * q) * D) (e * (D * D + b * (b + d))) (D * D * d) (L * (D * D + b * (b + d))) (left D p d hp) (right D e L q (D * D + b * (b + d)) r) h) D0
  where
    wide : (D X b d j q : ℕ) → 4096 * b ≡ j * D → X ≡ b + d → q ≡ 4096 * D + j * X → q * D ≡ 4096 * (D * D + b * (b + d))
    wide D X b d j q f g h = ap (λ (z : ℕ). z * D) h ∙ omega (arith, ap (λ (z : ℕ). z * X) f, ap (λ (z : ℕ). 4096 * b * z) g)

    left : (D p d : ℕ) → p ≡ 4096 * d → D * p * D ≡ 4096 * (D * D * d)
    left D p d f = omega (arith, ap (λ (z : ℕ). D * D * z) f)

    right : (D e L q s : ℕ) → q * D ≡ 4096 * s → (e * q + L * q) * D ≡ 4096 * (e * s) + 4096 * (L * s)
    right D e L q s r = omega (arith, ap (λ (z : ℕ). (e + L) * z) r)

    go : (a b e d l : ℕ) → a ≡ 4096 * d → b ≡ 4096 * e + 4096 * l → d ≤ e + l → a ≤ b
    go a b e d l x y z = omega arith

widen : (u a k v w z : ℕ) → u ≤ a + k * v → v ≤ w → w ≡ z → u ≤ a + k * z
widen u a k v w z h l e = let m : v ≤ z = omega arith in omega (arith, mul-le-mul_left k m)

-- ---- the theorem
pub record Good60 (X y : ℕ) : Type 0 where
  pub over : 26214400 * (D * sin_at y) ≤ 26214400 * (X * cos_at y) + 60 * ((D + X) * whole)
  pub beneath : 26214400 * (X * cos_at y) ≤ 26214400 * (D * sin_at y) + 60 * ((D + X) * whole)
  pub ahead : 0 < cos_at y

module _ (X y : ℕ) (top : X ≤ x7) (y1 : y * K + eval ups X ≤ X * K + eval downs X + E * K) (y2 : X * K + eval downs X ≤ y * K + eval ups X + E * K) (j d : ℕ) (j0 : j < 1792)
    (X-is : X ≡ j * cell + d) (dm : d ≤ m)
    (start : (j ≡ 0) ⊎ (cell ≤ d)) where
  nd : Node j
  nd = node j j0

  b : ℕ
  b = j * cell

  g : ℕ
  unfolding b
  g = K + dev downs b - dev ups b

  b-X : b ≤ X
  unfolding b
  b-X = omega arith

  b7 : b ≤ x7
  b7 = le_trans b-X top

  x7-D : x7 ≤ D
  x7-D = go x7 D n-x7
    where
      go : (x d : ℕ) → 16 * x ≡ 7 * d → x ≤ d
      go x d e = omega arith

  bD : b ≤ D
  bD = le_trans b7 x7-D

  X-b : X ≡ b + d
  unfolding b
  X-b = X-is

  up_lo : eval ups b + d * dev ups b ≤ eval ups X
  up_lo = subst (λ (z : ℕ). eval ups b + d * dev ups b ≤ eval ups z) (sym X-b) (above ups b d)

  down_lo : eval downs b + d * dev downs b ≤ eval downs X
  down_lo = subst (λ (z : ℕ). eval downs b + d * dev downs b ≤ eval downs z) (sym X-b) (above downs b d)

  up_hi : 2 * eval ups X ≤ 2 * eval ups b + 2 * (d * dev ups b) + d * d * u2
  up_hi =
      widen (2 * eval ups X) (2 * eval ups b + 2 * (d * dev ups b)) (d * d) (dev2 ups X) (dev2 ups x7) u2
      (subst (λ (z : ℕ). 2 * eval ups z ≤ 2 * eval ups b + 2 * (d * dev ups b) + d * d * dev2 ups z) (sym X-b) (within ups b d)) (dev2_mono ups top) u2-is

  down_hi : 2 * eval downs X ≤ 2 * eval downs b + 2 * (d * dev downs b) + d * d * n2
  down_hi =
      widen (2 * eval downs X) (2 * eval downs b + 2 * (d * dev downs b)) (d * d) (dev2 downs X) (dev2 downs x7) n2
      (subst (λ (z : ℕ). 2 * eval downs z ≤ 2 * eval downs b + 2 * (d * dev downs b) + d * d * dev2 downs z) (sym X-b) (within downs b d)) (dev2_mono downs top) n2-is

  a : ℕ
  a = angle_at j

  low' : 2 * (d * g) + 2 * (a * K) ≤ 2 * (y * K) + d * d * u2 + 2 * ((E + 1) * K)
  unfolding a g b
  low' = steps_lo X b d y a K E (eval ups X) (eval ups b) (dev ups b) (eval downs X) (eval downs b) (dev downs b) u2 g X-b nd.falls refl y2 (angle_hi j j0) down_lo up_hi

  b1 : g * (D * D + b * b) ≤ K * (D * D) + R
  unfolding g b
  b1 = nd.steep

  b2 : K * (D * D) ≤ g * (D * D + b * b) + R
  unfolding g b
  b2 = nd.flat

  a_y : a ≤ y
  unfolding a
  a_y =
      ⊎_elim (λ (e : j ≡ 0). subst (λ (z : ℕ). angle_at z ≤ y) (sym e) (subst (λ (z : ℕ). z ≤ y) (sym zero_angle) (least y)))
      (λ (c : cell ≤ d). far_enough D K d g b cell E R m u2 y (angle_at j) K-pos D-pos c dm bD b2 low' n-far) start
    where
      least : (y : ℕ) → 0 ≤ y
      least y = omega arith

  high' : 2 * ((y - a) * K) ≤ 2 * (d * g) + d * d * n2 + 2 * ((E + 1) * K)
  unfolding a g b
  high' = steps_hi X b d y a K E (eval ups X) (eval ups b) (dev ups b) (eval downs X) (eval downs b) (dev downs b) n2 g X-b a_y nd.falls refl y1 (angle_lo j j0) up_lo down_hi

  e : ℕ
  e = y - a

  e-Most : e ≤ Most
  unfolding e
  e-Most = step-few D K d g b E R m n2 Most (y - a) K-pos D-pos dm b1 high' n-step

  low'' : 2 * (d * g) ≤ 2 * (e * K) + d * d * u2 + 2 * ((E + 1) * K)
  unfolding e
  low'' = go y a K (2 * (d * g)) (d * d * u2) ((E + 1) * K) a_y low'
    where
      go : (y a K p q r : ℕ) → a ≤ y → p + 2 * (a * K) ≤ 2 * (y * K) + q + 2 * r → p ≤ 2 * ((y - a) * K) + q + 2 * r
      go y a K p q r l h = let s : y - a + a ≡ y = omega arith in omega (arith, ap (λ (z : ℕ). z * K) s)

  slopes_hi : e * (D * D + b * (b + d)) ≤ D * D * d + L * (D * D + b * (b + d))
  unfolding e
  slopes_hi = subst (λ (z : ℕ). e * (D * D + b * (b + d)) ≤ D * D * d + z * (D * D + b * (b + d))) n-L (over D K d e g b n2 u2 (E + 1) L2 R m Most x7 dm e-Most b7 bD K-pos high' low'' b1 b2 c1 c2)

  slopes_lo : D * D * d ≤ e * (D * D + b * (b + d)) + L * (D * D + b * (b + d))
  unfolding e
  slopes_lo = subst (λ (z : ℕ). D * D * d ≤ e * (D * D + b * (b + d)) + z * (D * D + b * (b + d))) n-L (beneath D K d e g b n2 u2 (E + 1) L2 R m Most x7 dm e-Most b7 bD K-pos high' low'' b1 b2 c1 c2)

  p : ℕ
  p = 4096 * d

  q : ℕ
  q = 4096 * D + j * X

  node_is : 4096 * b ≡ j * D
  unfolding b
  node_is = go j cell D n-cell
    where
      go : (j c d : ℕ) → 4096 * c ≡ d → 4096 * (j * c) ≡ j * d
      go j c d f = omega (arith, ap (λ (z : ℕ). j * z) f)

  ratio_is : 4096 * X ≡ j * D + p
  unfolding p
  ratio_is = go X b d j D X-b node_is
    where
      go : (X b d j D : ℕ) → X ≡ b + d → 4096 * b ≡ j * D → 4096 * X ≡ j * D + 4096 * d
      go X b d j D f h = omega arith

  S : ℕ
  S = sin_at a

  C : ℕ
  C = cos_at a

  back : a + e ≡ y
  unfolding e
  back = go a y a_y
    where
      go : (a y : ℕ) → a ≤ y → a + (y - a) ≡ y
      go a y l = omega arith

  room : a + e ≤ B
  unfolding a
  room = go (angle_at j) e Most B nd.room e-Most
    where
      go : (a e m b : ℕ) → a + m ≤ b → e ≤ m → a + e ≤ b
      go a e m b x y = omega arith

  good-e : Good60 X (a + e)
  unfolding S C a p q
  good-e =
      let sp = sin_most a e room e-Most in
      let sl = sin_least a e room e-Most in
      let cp = cos_most a e room e-Most in
      let cl = cos_least a e room e-Most in
      record {
        over =
            bring (D * sin_at (a + e)) (X * cos_at (a + e)) (D + X) D whole J (D * tau + 4096 * (Q + L * whole)) D-pos
            ((sides D X j p q e D S C (sin_at (a + e)) (cos_at (a + e)) tau Q L whole ratio_is refl e-D nd.small j-N).0 nd.low sp cl
            (cells_hi D X b d e j L p q D-pos node_is X-b refl refl slopes_hi))
            n-sum n-J;
        beneath =
            bring (X * cos_at (a + e)) (D * sin_at (a + e)) (D + X) D whole J (D * tau + 4096 * (Q + L * whole)) D-pos
            ((sides D X j p q e D S C (sin_at (a + e)) (cos_at (a + e)) tau Q L whole ratio_is refl e-D nd.small j-N).1 nd.high sl cp
            (cells_lo D X b d e j L p q D-pos node_is X-b refl refl slopes_lo))
            n-sum n-J;
        ahead = front (cos_at (a + e)) S C nd.low nd.small nd.large cl;
      }
    where
      e-D : e ≤ D
      e-D = le_trans e-Most n-Most

      j-N : j ≤ 4096
      j-N = go j j0
        where
          go : (j : ℕ) → j < 1792 → j ≤ 4096
          go j h = omega arith

      front : (C' S C : ℕ) → 4096 * S ≤ j * C + tau → C ≤ whole → whole ≤ 2 * C → D * C ≤ D * C' + e * S + Q → 0 < C'
      front C' S C h1 h2 h3 h4 =
          let s : S ≤ whole + tau = least S C j whole tau h1 h2 j-N in
          lt_of_mul-lt-mul_left D (last D C C' (e * S) (Most * (whole + tau)) Q whole (mul-le-mul e-Most s) h3 h4 n-front)
        where
          least : (S C j w t : ℕ) → 4096 * S ≤ j * C + t → C ≤ w → j ≤ 4096 → S ≤ w + t
          least S C j w t h1 h2 h3 = omega (arith, mul-le-mul h3 h2)

          last : (D C C' p m Q w : ℕ) → p ≤ m → w ≤ 2 * C → D * C ≤ D * C' + p + Q → 2 * (m + Q) < D * w → D * 0 < D * C'
          last D C C' p m Q w a b c d = omega (arith, mul-le-mul_left D b)

  good_j : Good60 X y
  good_j = subst (λ (z : ℕ). Good60 X z) back good-e

n-top : x7 ≡ 1792 * cell
unfolding x7 cell D
n-top = refl

cell_pos : 0 < cell
unfolding cell D
cell_pos = lit< tt

-- the node before the last one below x
record Place (X c : ℕ) : Type 0 where
  at : ℕ
  on : ℕ
  few : at < 1792
  is : X ≡ at * c + on
  two : on ≤ 2 * c
  start : (at ≡ 0) ⊎ (c ≤ on)

place : (X c i : ℕ) → 0 < c → X ≤ 1792 * c → i * c ≤ X → X < i * c + c → Place X c
place X c zero c0 h l u = record { at = 0; on = X; few = lit< tt; is = omega arith; two = omega arith; start = inl refl }
place X c (suc i) c0 h l u =
    let k : i * c + c ≤ X = omega arith in
    record { at = i; on = X - i * c; few = le_of_mul-le-mul_right {k = c} (omega arith) c0; is = omega arith; two = omega arith; start = inr (omega arith) }

-- Any angle within E of the polynomial's, at a ratio up to 7/16.
pub near_poly : (X y : ℕ) → X ≤ x7 → y * K + eval ups X ≤ X * K + eval downs X + E * K → X * K + eval downs X ≤ y * K + eval ups X + E * K → Good60 X y
near_poly X y top y1 y2 =
    let t : Place X cell = place X cell (X / cell) cell_pos (subst (λ (z : ℕ). X ≤ z) n-top top) (div-mul-le_self X cell) (lt-div-mul-add {a = X} {b = cell} cell_pos) in
    good_j X y top y1 y2 t.at t.on t.few t.is (subst (λ (z : ℕ). t.on ≤ z) (sym n-m) t.two) t.start
