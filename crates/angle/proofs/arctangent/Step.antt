-- As arctangent/Step, for the smaller steps here: the sine and the cosine after a step d from x, by their values at x: two terms of Taylor's, and no more than Q besides. Assumes nothing.
use Rattle.std.proofs.Common.{◌≡◌, ℕ, ◌+◌, ◌-◌, ◌*◌, ◌≤◌, List, [], ◌∷◌, sym, refl, ap, subst, le_trans, mul-le-mul, mul-le-mul_left, arith, lit≤}
use native.Mathlib.Nat.{mul-sub}
use Rattle.angle.proofs.arctangent.Poly.{eval, dev, dev2}
use Rattle.angle.specs.Meaning.{D, coef}
use Rattle.angle.proofs.Terms.{sin_at, cos_at}
use Rattle.angle.proofs.arctangent.Lists.{last, sin_up_lem, sin_down_lem, cos_up_lem, cos_down_lem, slope_sin_up, slope_sin_down, slope_cos_up, slope_cos_down, sin_lists, cos_lists}
use Rattle.angle.proofs.arctangent.Poly.{eval_mono, dev2_mono, above, within}
use Rattle.angle.proofs.arctangent.Budget.{Most, B, Q, B-few}

-- ---- over any list and any numbers

up : (cs : List ℕ) (x d m b q r k v : ℕ) → k * dev cs x ≡ v → k * (m * m) * dev2 cs b + 2 * r ≤ 2 * q → x + d ≤ b → d ≤ m → k * eval cs (x + d) + r ≤ k * eval cs x + d * v + q
up cs x d m b q r k v e h hb hd =
    omega
    (arith, mul-le-mul_left k (within cs x d), mul-le-mul (mul-le-mul_left k (mul-le-mul hd hd)) (dev2_mono cs hb), ap (λ (n : ℕ). d * n) e)

low : (cs : List ℕ) (x d k v : ℕ) → k * dev cs x ≡ v → k * eval cs x + d * v ≤ k * eval cs (x + d)
low cs x d k v e = omega (arith, mul-le-mul_left k (above cs x d), ap (λ (n : ℕ). d * n) e)

-- ---- the parts with a minus are the smaller

under : (us ds : List ℕ) (b : ℕ) → eval ds b ≤ eval us 0 → {x : ℕ} → x ≤ b → eval ds x ≤ eval us x
under us ds b h hx = le_trans (eval_mono ds hx) (le_trans h (eval_mono us (omega arith)))

tl : List ℕ → List ℕ
tl [] = []
tl (c ∷ cs) = cs

under_tl : (us ds : List ℕ) (b : ℕ) → eval ds b ≤ eval us 0 → {x : ℕ} → x ≤ b → eval (0 ∷ ds) x ≤ eval (0 ∷ us) x
unfolding eval
under_tl us ds b h {x} hx = omega (arith, mul-le-mul_left x (under us ds b h hx))

sin_closed : eval (tl sin_down_lem) B ≤ eval (tl sin_up_lem) 0
unfolding coef eval sin_up_lem sin_down_lem tl B
sin_closed = lit≤ tt

sin_up_tl : sin_up_lem ≡ 0 ∷ tl sin_up_lem
unfolding sin_up_lem tl
sin_up_tl = refl

sin_down_tl : sin_down_lem ≡ 0 ∷ tl sin_down_lem
unfolding sin_down_lem tl
sin_down_tl = refl

pub sin_order : {x : ℕ} → x ≤ B → eval sin_down_lem x ≤ eval sin_up_lem x
sin_order {x} h =
    subst (λ (l : List ℕ). eval l x ≤ eval sin_up_lem x) (sym sin_down_tl)
    (subst (λ (l : List ℕ). eval (0 ∷ tl sin_down_lem) x ≤ eval l x) (sym sin_up_tl) (under_tl (tl sin_up_lem) (tl sin_down_lem) B sin_closed h))

cos_closed : eval cos_down_lem B ≤ eval cos_up_lem 0
unfolding coef eval cos_up_lem cos_down_lem B
cos_closed = lit≤ tt

pub cos_order : {x : ℕ} → x ≤ B → eval cos_down_lem x ≤ eval cos_up_lem x
cos_order h = under cos_up_lem cos_down_lem B cos_closed h

-- ---- the second derivatives

c-sinUp : D * (Most * Most) * dev2 sin_up_lem B + 2 * 0 ≤ 2 * Q
unfolding coef D Most B Q dev2 sin_up_lem
c-sinUp = lit≤ tt

c_sin_down : D * (Most * Most) * dev2 sin_down_lem B + 2 * 0 ≤ 2 * Q
unfolding coef D Most B Q dev2 sin_down_lem
c_sin_down = lit≤ tt

c-cosUp : D * (Most * Most) * dev2 cos_up_lem B + 2 * (Most * eval last B) ≤ 2 * Q
unfolding coef D Most B Q dev2 cos_up_lem eval last
c-cosUp = lit≤ tt

c_cos_down : D * (Most * Most) * dev2 cos_down_lem B + 2 * (Most * eval last B) ≤ 2 * Q
unfolding coef D Most B Q dev2 cos_down_lem eval last
c_cos_down = lit≤ tt

-- ---- differences

rise : (k d sx sx' sy sy' c c' q : ℕ) → sx' ≤ sx → sy' ≤ sy → c' ≤ c → k * sy ≤ k * sx + d * c + q → k * sx' + d * c' ≤ k * sy' → k * (sy - sy') ≤ k * (sx - sx') + d * (c - c') + q
rise k d sx sx' sy sy' c c' q hx hy hc u l =
    omega (arith, mul-sub k sy sy', mul-sub k sx sx', mul-sub d c c', mul-le-mul_left k hx, mul-le-mul_left k hy, mul-le-mul_left d hc)

fall : (k d sx sx' sy sy' c c' q : ℕ) → sx' ≤ sx → sy' ≤ sy → c' ≤ c → k * sy' ≤ k * sx' + d * c' + q → k * sx + d * c ≤ k * sy → k * (sx - sx') + d * (c - c') ≤ k * (sy - sy') + q
fall k d sx sx' sy sy' c c' q hx hy hc u l =
    omega (arith, mul-sub k sy sy', mul-sub k sx sx', mul-sub d c c', mul-le-mul_left k hx, mul-le-mul_left k hy, mul-le-mul_left d hc)

-- v and w are the sine's terms with a plus: the cosine's slope leaves out the last one, w
sink : (k d cy cy' cx cx' s s' v w r q : ℕ) → cy' ≤ cy → cx' ≤ cx → s' ≤ s → v + w ≡ s → d * w ≤ r → k * cy + r ≤ k * cx + d * s' + q → k * cx' + d * v ≤ k * cy'
    → k * (cy - cy') + d * (s - s') ≤ k * (cx - cx') + q
sink k d cy cy' cx cx' s s' v w r q hy hx hs e h u l =
    omega (arith, mul-sub k cy cy', mul-sub k cx cx', mul-sub d s s', mul-le-mul_left k hy, mul-le-mul_left k hx, mul-le-mul_left d hs, ap (λ (n : ℕ). d * n) e)

hold : (k d cy cy' cx cx' s s' v w r q : ℕ) → cy' ≤ cy → cx' ≤ cx → s' ≤ s → v + w ≡ s → d * w ≤ r → k * cy' + r ≤ k * cx' + d * v + q → k * cx + d * s' ≤ k * cy
    → k * (cx - cx') ≤ k * (cy - cy') + d * (s - s') + q
hold k d cy cy' cx cx' s s' v w r q hy hx hs e h u l =
    omega (arith, mul-sub k cy cy', mul-sub k cx cx', mul-sub d s s', mul-le-mul_left k hy, mul-le-mul_left k hx, mul-le-mul_left d hs, ap (λ (n : ℕ). d * n) e)

-- ---- the four bounds

abbrev sinL : ℕ → ℕ
sinL x = eval sin_up_lem x - eval sin_down_lem x

abbrev cosL : ℕ → ℕ
cosL x = eval cos_up_lem x - eval cos_down_lem x

module _ (x d : ℕ) (hb : x + d ≤ B) (hd : d ≤ Most) where
  hx : x ≤ B
  hx = omega arith

  most_sin : D * sinL (x + d) ≤ D * sinL x + d * cosL x + Q
  most_sin =
      rise D d (eval sin_up_lem x) (eval sin_down_lem x) (eval sin_up_lem (x + d)) (eval sin_down_lem (x + d)) (eval cos_up_lem x) (eval cos_down_lem x) Q
      (sin_order hx) (sin_order hb) (cos_order hx)
      (omega (arith, up sin_up_lem x d Most B Q 0 D (eval cos_up_lem x) (slope_sin_up x) c-sinUp hb hd))
      (low sin_down_lem x d D (eval cos_down_lem x) (slope_sin_down x))

  least_sin : D * sinL x + d * cosL x ≤ D * sinL (x + d) + Q
  least_sin =
      fall D d (eval sin_up_lem x) (eval sin_down_lem x) (eval sin_up_lem (x + d)) (eval sin_down_lem (x + d)) (eval cos_up_lem x) (eval cos_down_lem x) Q
      (sin_order hx) (sin_order hb) (cos_order hx)
      (omega (arith, up sin_down_lem x d Most B Q 0 D (eval cos_down_lem x) (slope_sin_down x) c_sin_down hb hd))
      (low sin_up_lem x d D (eval cos_up_lem x) (slope_sin_up x))

  -- d times the last term of the sine
  end : d * eval last x ≤ Most * eval last B
  end = mul-le-mul hd (eval_mono last hx)

  most_cos : D * cosL (x + d) + d * sinL x ≤ D * cosL x + Q
  most_cos =
      sink D d (eval cos_up_lem (x + d)) (eval cos_down_lem (x + d)) (eval cos_up_lem x) (eval cos_down_lem x) (eval sin_up_lem x) (eval sin_down_lem x) (D * dev cos_down_lem x) (eval last x) (Most * eval last B) Q
      (cos_order hb) (cos_order hx) (sin_order hx) (slope_cos_down x) end (up cos_up_lem x d Most B Q (Most * eval last B) D (eval sin_down_lem x) (slope_cos_up x) c-cosUp hb hd)
      (low cos_down_lem x d D (D * dev cos_down_lem x) refl)

  least_cos : D * cosL x ≤ D * cosL (x + d) + d * sinL x + Q
  least_cos =
      hold D d (eval cos_up_lem (x + d)) (eval cos_down_lem (x + d)) (eval cos_up_lem x) (eval cos_down_lem x) (eval sin_up_lem x) (eval sin_down_lem x) (D * dev cos_down_lem x) (eval last x) (Most * eval last B) Q
      (cos_order hb) (cos_order hx) (sin_order hx) (slope_cos_down x) end (up cos_down_lem x d Most B Q (Most * eval last B) D (D * dev cos_down_lem x) refl c_cos_down hb hd)
      (low cos_up_lem x d D (eval sin_down_lem x) (slope_cos_up x))

  -- ---- of the series
  few : x ≤ D
  few = omega (arith, B-few)

  few' : x + d ≤ D
  few' = omega (arith, B-few)

  pub sin_most : D * sin_at (x + d) ≤ D * sin_at x + d * cos_at x + Q
  sin_most = rw (sin_lists (x + d) few', sin_lists x few, cos_lists x few) most_sin

  pub sin_least : D * sin_at x + d * cos_at x ≤ D * sin_at (x + d) + Q
  sin_least = rw (sin_lists (x + d) few', sin_lists x few, cos_lists x few) least_sin

  pub cos_most : D * cos_at (x + d) + d * sin_at x ≤ D * cos_at x + Q
  cos_most = rw (cos_lists (x + d) few', sin_lists x few, cos_lists x few) most_cos

  pub cos_least : D * cos_at x ≤ D * cos_at (x + d) + d * sin_at x + Q
  cos_least = rw (cos_lists (x + d) few', sin_lists x few, cos_lists x few) least_cos
