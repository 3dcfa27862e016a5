-- The ratio between 7/16 and 39/16, as an f32. Assumes nothing.
use Rattle.std.proofs.Common.{◌≡◌, ℕ, ◌+◌, ◌*◌, ◌^◌, ◌<◌, ◌≤◌, false, T, negsuc, refl, ap, subst, mul-le-mul_right, lt_of_mul-lt-mul_right, mul-le-mul_left, mul-lt-mul_of_pos_right, le_of_mul-le-mul_right, arith, lit<, lit≤}
use lib.Ieee.{Float, fin, binary32, round, le}
use lib.Ieee.Exact.{HasValue}
use lib.Ieee.Order.{round_mono}
use lib.Ieee.Positive.{positive_of_value, values_of_le}
use Rattle.angle.specs.Meaning.{D}
use Rattle.angle.proofs.arctangent.Ops.{Val, D-pos, Near, rounds}
use Rattle.angle.proofs.arctangent.Horner.{h}
use Rattle.angle.proofs.arctangent.Reduced.{n-D}

-- ---- closed numbers
n-151 : 2 ^ 151 ≡ 4 * D
unfolding D
n-151 = refl

n-big : 2 ^ 60 ≤ h
unfolding h
n-big = lit≤ tt

-- ---- a ratio that is k / 16 at least is so rounded too
pub at_least : (k : ℕ) (f : Float) → round binary32 false k 16 ≡ f → HasValue f false k 16 → 0 < k → (u v Q : ℕ) → 0 < v → Val (round binary32 false u v) Q → 0 < Q → k * v ≤ 16 * u → k * D ≤ 16 * Q
at_least k f e vf k0 u v Q v0 vq Q0 h =
    let r = round_mono binary32 k 16 u v (lit< tt) v0 (turn k u v h) in
    let r' : T (le f (round binary32 false u v)) = subst (λ (z : Float). T (le z (round binary32 false u v))) e r in
    turn' k Q D (values_of_le f (round binary32 false u v) k 16 Q D (positive_of_value f k 16 vf k0) (positive_of_value (round binary32 false u v) Q D vq Q0) vf vq r')
  where
    turn : (k u v : ℕ) → k * v ≤ 16 * u → k * v ≤ u * 16
    turn k u v h = omega arith

    turn' : (k Q D : ℕ) → k * D ≤ Q * 16 → k * D ≤ 16 * Q
    turn' k Q D h = omega arith

at_7 : round binary32 false 7 16 ≡ fin false 7 (negsuc 3)
unfolding round
at_7 = refl

-- ---- over numbers: the ratio's own error
ratio_hi : (q a b t D k v : ℕ) → q * 2 ^ 24 ≤ a * 2 ^ 24 + a + v * 2 ^ 23 → 16 * a ≤ k * b → b ≡ v * D → D ≡ 33554432 * t → 2 ^ 60 ≤ t → 16 * q ≤ 16 * a + (2 * k + 1) * (v * t)
ratio_hi q a b t D k v h1 h2 h3 h4 h5 =
    let d : b ≡ 33554432 * (v * t) = omega (arith, ap (λ (z : ℕ). v * z) h4) in
    let e : k * b ≡ 33554432 * (k * (v * t)) = omega (arith, ap (λ (z : ℕ). k * z) d) in
    omega (arith, mul-le-mul_left v h5)

ratio_lo : (q a b t D k v : ℕ) → a * 2 ^ 24 ≤ q * 2 ^ 24 + a + v * 2 ^ 23 → 16 * a ≤ k * b → b ≡ v * D → D ≡ 33554432 * t → 2 ^ 60 ≤ t → 16 * a ≤ 16 * q + (2 * k + 1) * (v * t)
ratio_lo q a b t D k v h1 h2 h3 h4 h5 =
    let d : b ≡ 33554432 * (v * t) = omega (arith, ap (λ (z : ℕ). v * z) h4) in
    let e : k * b ≡ 33554432 * (k * (v * t)) = omega (arith, ap (λ (z : ℕ). k * z) d) in
    omega (arith, mul-le-mul_left v h5)

module _ (u v : ℕ) (v0 : 0 < v) (vt : v ≤ 32766) (ut : u ≤ 32766) (low : 7 * v ≤ 16 * u) (top : 16 * u < 39 * v) where
  qn : Near (round binary32 false u v) u v 127
  qn = rounds u v 127 v0 (lit≤ tt) (go D (2 ^ 151) D-pos n-151)
    where
      go : (d k : ℕ) → 0 < d → k ≡ 4 * d → u * d < k * v
      go d k p e = let l : u < 4 * v = omega arith in omega (arith, mul-lt-mul_of_pos_right l p, ap (λ (z : ℕ). z * v) e)

  abbrev qf : Float
  qf = round binary32 false u v

  pub Q : ℕ
  Q = qn.parts

  pub q-val : Val qf Q
  unfolding Q
  q-val = qn.val

  pub near_hi : (k : ℕ) → 16 * u ≤ k * v → 16 * (Q * v) ≤ 16 * (u * D) + (2 * k + 1) * (v * h)
  unfolding Q
  near_hi k l = ratio_hi (qn.parts * v) (u * D) (v * D) h D k v qn.rel_hi (go D) refl n-D n-big
    where
      go : (d : ℕ) → 16 * (u * d) ≤ k * (v * d)
      go d = omega (arith, mul-le-mul_right d l)

  pub near_lo : (k : ℕ) → 16 * u ≤ k * v → 16 * (u * D) ≤ 16 * (Q * v) + (2 * k + 1) * (v * h)
  unfolding Q
  near_lo k l = ratio_lo (qn.parts * v) (u * D) (v * D) h D k v qn.rel_lo (go D) refl n-D n-big
    where
      go : (d : ℕ) → 16 * (u * d) ≤ k * (v * d)
      go d = omega (arith, mul-le-mul_right d l)

  pub weak : 16 * u ≤ 39 * v
  weak = omega arith

  Q-pos : 0 < Q
  Q-pos = lt_of_mul-lt-mul_right v (go Q D h (near_lo 39 weak) n-D n-big)
    where
      go : (Q D t : ℕ) → 16 * (u * D) ≤ 16 * (Q * v) + (2 * 39 + 1) * (v * t) → D ≡ 33554432 * t → 2 ^ 60 ≤ t → 0 * v < Q * v
      go Q D t a b c =
          let d : v * D ≡ 33554432 * (v * t) = omega (arith, ap (λ (z : ℕ). v * z) b) in
          omega (arith, mul-le-mul_right D low, mul-le-mul_left v c)

  pub q-low : 7 * D ≤ 16 * Q
  q-low = at_least 7 (fin false 7 (negsuc 3)) at_7 (refl, refl) (lit< tt) u v Q v0 q-val Q-pos low

  pub q-top : 16 * Q < 39 * D
  q-top = lt_of_mul-lt-mul_right v (go Q D h (near_hi 39 weak) n-D n-big)
    where
      go : (Q D t : ℕ) → 16 * (Q * v) ≤ 16 * (u * D) + (2 * 39 + 1) * (v * t) → D ≡ 33554432 * t → 2 ^ 60 ≤ t → 16 * Q * v < 39 * D * v
      go Q D t a b c =
          let s : 16 * u + 1 ≤ 39 * v = omega arith in
          omega (arith, mul-le-mul_right D s, mul-le-mul_right t vt)

  -- a bound of the f32 is nearly one of the ratio
  pub as_ratio : (k : ℕ) → 16 * Q < k * D → 16 * u ≤ (k + 1) * v
  as_ratio k l = le_of_mul-le-mul_right {k = D} (go Q D h (near_lo 39 weak) n-D l) D-pos
    where
      go : (Q D t : ℕ) → 16 * (u * D) ≤ 16 * (Q * v) + (2 * 39 + 1) * (v * t) → D ≡ 33554432 * t → 16 * Q < k * D → 16 * u * D ≤ (k + 1) * v * D
      go Q D t a b c =
          let c' : 16 * Q ≤ k * D = omega arith in
          let d : v * D ≡ 33554432 * (v * t) = omega (arith, ap (λ (z : ℕ). v * z) b) in
          omega (arith, mul-le-mul_right v c')

  pub at_most : (k : ℕ) → (k + 1) * D ≤ 16 * Q → k * v ≤ 16 * u
  at_most k l = le_of_mul-le-mul_right {k = D} (go Q D h (near_hi 39 weak) n-D l) D-pos
    where
      go : (Q D t : ℕ) → 16 * (Q * v) ≤ 16 * (u * D) + (2 * 39 + 1) * (v * t) → D ≡ 33554432 * t → (k + 1) * D ≤ 16 * Q → k * v * D ≤ 16 * u * D
      go Q D t a b c =
          let d : v * D ≡ 33554432 * (v * t) = omega (arith, ap (λ (z : ℕ). v * z) b) in
          omega (arith, mul-le-mul_right v c)
