-- What is left of an angle by its quarters, in f64: within 5 of `tiny` of the exact rest. Assumes nothing.
use Rattle.std.proofs.Common.{◌≡◌, ℕ, zero, suc, ◌+◌, ◌-◌, ◌*◌, ◌/◌, ◌^◌, ◌<◌, ◌≤◌, Bool, true, false, cond, T, ℤ, pos, negsuc, sym, refl, ap, ◌∙◌, subst, lt_of_lt_of_le, lt_irrefl, mul-le-mul_right, mul_assoc, mul-pos, lt_of_not-le, mul-one, le_of_mul-le-mul_right, mul-div_cancel, arith, lit≤, pow_pos, pow-add, le-ltb, lt-ltb}
use lib.Pow.{pow-lt}
use lib.Ieee.{Float, nan, inf, fin, binary64, up, down, neg, lt, mul, sub, of_bits, fits}
use lib.Ieee.Fits.{down_pos, cond-fits, neg-fits, sub-fits}
use Rattle.angle.specs.Meaning.{D, H}
use Rattle.angle.specs.Sine as Rule
use Rattle.angle.specs.Sine.{high, small, off_of, sized_of}
use Rattle.angle.proofs.sine.Doubles.{Near, E, tiny, E-tiny, E_pos, Signed, Val, product_of, Apart, Diff, less_of_lem}
use Rattle.angle.proofs.sine.Coefficients.{lift}

-- ---- the angle's size: an f32 is a whole number of D-ths
pow_le_back : (i p : ℕ) → 2 ^ i ≤ 2 ^ p → i ≤ p
pow_le_back i p h = go (lt_of_not-le (λ (g : suc p ≤ i). lt_irrefl (2 ^ p) (lt_of_lt_of_le (pow-lt g) h)))
  where
    go : i < suc p → i ≤ p
    go h = omega arith

pub whole_parts : (m : ℕ) (e : ℤ) → down e ≤ 2 ^ 149 → m * up e * 2 ^ 149 / down e * down e ≡ m * up e * 2 ^ 149
whole_parts m (pos k) h = mul-one (m * 2 ^ k * 2 ^ 149 / 1) ∙ one-part (m * 2 ^ k * 2 ^ 149)
  where
    one-part : (n : ℕ) → n / 1 ≡ n
    one-part n = omega arith
whole_parts m (negsuc k) h =
    let g : suc k ≤ 149 = pow_le_back (suc k) 149 h in
    let back : 149 - suc k + suc k ≡ 149 = omega arith in
    let c = m * 1 * 2 ^ (149 - suc k) in
    let e : c * 2 ^ suc k ≡ m * 1 * 2 ^ 149 = mul_assoc (m * 1) (2 ^ (149 - suc k)) (2 ^ suc k) ∙ ap (λ (z : ℕ). m * 1 * z) (sym (pow-add 2 (149 - suc k) (suc k)) ∙ ap (λ (z : ℕ). 2 ^ z) back) in
    subst (λ (z : ℕ). z / 2 ^ suc k * 2 ^ suc k ≡ z) e (ap (λ (z : ℕ). z * 2 ^ suc k) (mul-div_cancel c (pow_pos (suc k))))

pub val_of : (m : ℕ) (e : ℤ) → down e ≤ 2 ^ 149 → Val (fin false m e) (m * up e * D / down e * lift)
unfolding D lift
val_of m e h = (refl, go (m * up e) (m * up e * 2 ^ 149 / down e) (down e) (whole_parts m e h))
  where
    go : (a x d : ℕ) → x * d ≡ a * 2 ^ 149 → a * 2 ^ 1074 ≡ x * 2 ^ 925 * d
    go a x d f = mul_assoc' a ∙ ap (λ (z : ℕ). z * 2 ^ 925) (sym f) ∙ turn x d (2 ^ 925)
      where
        mul_assoc' : (a : ℕ) → a * 2 ^ 1074 ≡ a * 2 ^ 149 * 2 ^ 925
        mul_assoc' a = sym (mul_assoc a (2 ^ 149) (2 ^ 925))

        turn : (x d u : ℕ) → x * d * u ≡ x * u * d
        turn x d u = omega arith

-- ---- a right angle in two parts
unfoldable gh : ℕ
gh = 0x1921FB54442D00 * 2 ^ 1022

unfoldable gs : ℕ
gs = 3 * 2 ^ 1025

unfoldable slip : ℕ
slip = 70 * 2 ^ 1014

v_high : Val high gh
unfolding of_bits gh
v_high = (refl, refl)

v-small : Val small gs
unfolding of_bits gs
v-small = (refl, refl)

H-parts : H * lift ≡ gh + gs + slip
unfolding H lift gh gs slip
H-parts = refl

slip_few : 20 * slip ≤ tiny
unfolding slip tiny
slip_few = lit≤ tt

gh_few : gh * 100 ≤ 158 * E
unfolding gh E
gh_few = lit≤ tt

gs_few : gs * 100 ≤ E
unfolding gs E
gs_few = lit≤ tt

-- j times a number of E-ths
times : (x : Float) (j g : ℕ) (c : Float) → Val x (j * E) → Val c g → j ≤ 20 → g * 100 ≤ 158 * E → (p : ℕ) × Val (mul binary64 x c) p × Near p (j * g) tiny
times x j g c v w h k =
    let r = product_of x c (j * E) g v w (room E h k E_pos) in
    (r.p, r.is, record { hi = le_of_mul-le-mul_right {k = E} (up' r.p E r.near.hi) E_pos; lo = le_of_mul-le-mul_right {k = E} (down' r.p E r.near.lo) E_pos })
  where
    room : (e : ℕ) → j ≤ 20 → g * 100 ≤ 158 * e → 0 < e → j * e * g < 64 * (e * e)
    room e h k o = omega (arith, mul-le-mul_right (e * g) h, mul-le-mul_right e k, mul-pos o o)

    up' : (p e : ℕ) → p * e ≤ j * e * g + tiny * e → p * e ≤ (j * g + tiny) * e
    up' p e h = omega arith

    down' : (p e : ℕ) → j * e * g ≤ p * e + tiny * e → j * g * e ≤ (p + tiny) * e
    down' p e h = omega arith

-- ---- a number without its sign
some : {g : ℕ} (a d r : ℕ) → a * r ≡ g * d → 0 < d → 0 < g → 0 < a * 1 + 0 * 1 * d
some zero d r f h k = absurd (lt_irrefl 0 (subst (λ (z : ℕ). 0 < z) (sym f ∙ nil r) (mul-pos k h)))
  where
    nil : (r : ℕ) → 0 * r ≡ 0
    nil r = omega arith
some (suc a) d r f h k = omega arith

sized_val : (d : Float) (s : Bool) (g : ℕ) → Signed d s g → (T s → 0 < g) → Val (sized_of d) g
unfolding sized_of lt neg of_bits
sized_val nan s g v o = absurd v
sized_val (inf t) s g v o = absurd v
sized_val (fin false m e) s g v o = subst (λ (b : Bool). Val (cond b (fin true m e) (fin false m e)) g) (sym (le-ltb (m * up e * 1) (0 * 1 * down e) (nothing (m * up e) (down e)))) (refl, v.1)
  where
    nothing : (a d : ℕ) → 0 * 1 * d ≤ a * 1
    nothing a d = omega arith
sized_val (fin true m e) s g v o =
    subst (λ (b : Bool). Val (cond b (fin false m e) (fin true m e)) g)
    (sym (lt-ltb 0 (m * up e * 1 + 0 * 1 * down e) (some (m * up e) (down e) (2 ^ 1074) v.1 (down_pos e) (o (subst T v.0 tt))))) (refl, v.1)

-- its sign
signed_val : (d : Float) (s : Bool) (g : ℕ) → Signed d s g → (T s → 0 < g) → lt d Rule.zero ≡ s
unfolding lt of_bits
signed_val nan s g v o = absurd v
signed_val (inf t) s g v o = absurd v
signed_val (fin false m e) s g v o = le-ltb (m * up e * 1) (0 * 1 * down e) (nothing (m * up e) (down e)) ∙ v.0
  where
    nothing : (a d : ℕ) → 0 * 1 * d ≤ a * 1
    nothing a d = omega arith
signed_val (fin true m e) s g v o = lt-ltb 0 (m * up e * 1 + 0 * 1 * down e) (some (m * up e) (down e) (2 ^ 1074) v.1 (down_pos e) (o (subst T v.0 tt))) ∙ v.0

-- ---- the rest
abbrev pub Aside : Bool → ℕ → ℕ → ℕ → Type 0
Aside true x w y = y + x ≡ w
Aside false x w y = y + w ≡ x

-- e is the error of the whole, t one rounding's
settle : (s b : Bool) (g X w pa pb y t : ℕ) → Apart s g X (0 + pa + pb) (0 + t + t) → Near (pa + pb) w (3 * t) → Aside b X w y → Near g y (5 * t)
settle false false g X w pa pb y t n k e = record { hi = omega (arith, n.hi, n.lo, k.hi, k.lo); lo = omega (arith, n.hi, n.lo, k.hi, k.lo) }
settle false true g X w pa pb y t n k e = record { hi = omega (arith, n.hi, n.lo, k.hi, k.lo); lo = omega (arith, n.hi, n.lo, k.hi, k.lo) }
settle true false g X w pa pb y t n k e = record { hi = omega (arith, n.hi, n.lo, k.hi, k.lo); lo = omega (arith, n.hi, n.lo, k.hi, k.lo) }
settle true true g X w pa pb y t n k e = record { hi = omega (arith, n.hi, n.lo, k.hi, k.lo); lo = omega (arith, n.hi, n.lo, k.hi, k.lo) }

-- and its sign is right where y is not so small
side : (s b : Bool) (g X w pa pb y t : ℕ) → Apart s g X (0 + pa + pb) (0 + t + t) → Near (pa + pb) w (3 * t) → Aside b X w y → 5 * t < y → s ≡ b
side false false g X w pa pb y t n k e o = refl
side true true g X w pa pb y t n k e o = refl
side false true g X w pa pb y t n k e o = absurd (no n.hi k.lo)
  where
    no : g + (0 + pa + pb) ≤ X + (0 + t + t) → w ≤ pa + pb + 3 * t → ⊥
    no a b = omega arith
side true false g X w pa pb y t n k e o = absurd (no n.hi k.hi)
  where
    no : g + X ≤ 0 + pa + pb + (0 + t + t) → pa + pb ≤ w + 3 * t → ⊥
    no a b = omega arith

pub record Rest (d : Float) (b : Bool) (y : ℕ) : Type 0 where
  pub a : ℕ
  pub is : Val (sized_of d) a
  pub fit : T (fits binary64 (sized_of d))
  pub near : Near a y (5 * tiny)
  pub minus : lt d Rule.zero ≡ b

module _ (x J : Float) (X j y : ℕ) (b : Bool) (v : Val x X) (l : X ≤ 26 * E) (w : Val J (j * E)) (h : j ≤ 20) (e : Aside b X (j * (H * lift)) y) (far : 5 * tiny < y) where
  A : (p : ℕ) × Val (mul binary64 J high) p × Near p (j * gh) tiny
  A = times J j gh high w v_high h gh_few

  B : (p : ℕ) × Val (mul binary64 J small) p × Near p (j * gs) tiny
  B = times J j gs small w v-small h (omega (arith, gs_few))

  A-few : A.0 * 100 ≤ 3161 * E
  A-few = go A.0 E A.2.hi gh_few E-tiny
    where
      go : (p e : ℕ) → p ≤ j * gh + tiny → gh * 100 ≤ 158 * e → e ≡ 0x1_0000_0000_0000 * tiny → p * 100 ≤ 3161 * e
      go p e a k f = omega (arith, mul-le-mul_right gh h)

  B-few : B.0 * 100 ≤ 21 * E
  B-few = go B.0 E B.2.hi gs_few E-tiny
    where
      go : (p e : ℕ) → p ≤ j * gs + tiny → gs * 100 ≤ e → e ≡ 0x1_0000_0000_0000 * tiny → p * 100 ≤ 21 * e
      go p e a k f = omega (arith, mul-le-mul_right gs h)

  both : Near (A.0 + B.0) (j * (H * lift)) (3 * tiny)
  both = subst (λ (z : ℕ). Near (A.0 + B.0) (j * z) (3 * tiny)) (sym H-parts) (go A.0 B.0 A.2 B.2 slip_few (mul-le-mul_right slip h))
    where
      go : (p q : ℕ) → Near p (j * gh) tiny → Near q (j * gs) tiny → 20 * slip ≤ tiny → j * slip ≤ 20 * slip → Near (p + q) (j * (gh + gs + slip)) (3 * tiny)
      go p q m n k i = record { hi = omega (arith, m.hi, n.hi); lo = omega (arith, m.lo, n.lo) }

  d0 : Diff x X 0 0
  d0 = record { s = false; g = X; is = v; some = λ (t : T false). absurd t; apart = record { hi = omega arith; lo = omega arith } }

  d1 : Diff (sub binary64 x (mul binary64 J high)) X (0 + A.0) (0 + tiny)
  unfolding d0
  d1 = less_of_lem x (mul binary64 J high) X 0 A.0 0 d0 A.1 (omega (arith, A-few, E_pos))

  d1-few : d1.g * 100 ≤ 3162 * E
  d1-few = go d1.s d1.g d1.apart
    where
      go : (s : Bool) (g : ℕ) → Apart s g X (0 + A.0) (0 + tiny) → g * 100 ≤ 3162 * E
      go false g n = omega (arith, n.hi, E-tiny)
      go true g n = omega (arith, n.hi, A-few, E-tiny)

  d2 : Diff (sub binary64 (sub binary64 x (mul binary64 J high)) (mul binary64 J small)) X (0 + A.0 + B.0) (0 + tiny + tiny)
  d2 = less_of_lem (sub binary64 x (mul binary64 J high)) (mul binary64 J small) X (0 + A.0) B.0 (0 + tiny) d1 B.1 (omega (arith, d1-few, B-few, E_pos))

  pub rest_of_lem : Rest (off_of x J) b y
  unfolding off_of sized_of
  rest_of_lem =
      let d = sub binary64 (sub binary64 x (mul binary64 J high)) (mul binary64 J small) in
      record {
        a = d2.g;
        is = unfold sized_of in sized_val d d2.s d2.g d2.is d2.some;
        fit =
            cond-fits binary64 (lt d Rule.zero) (neg d) d (neg-fits binary64 d (sub-fits binary64 (sub binary64 x (mul binary64 J high)) (mul binary64 J small)))
            (sub-fits binary64 (sub binary64 x (mul binary64 J high)) (mul binary64 J small));
        near = settle d2.s b d2.g X (j * (H * lift)) A.0 B.0 y tiny d2.apart both e;
        minus = signed_val d d2.s d2.g d2.is d2.some ∙ side d2.s b d2.g X (j * (H * lift)) A.0 B.0 y tiny d2.apart both e far;
      }
