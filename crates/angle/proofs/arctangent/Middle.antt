-- The rule between the ratios 7/16 and 39/16: the tangent from a known angle on, and the turn by that angle. Assumes nothing.
use Rattle.std.proofs.Common.{◌≡◌, ℕ, ◌+◌, ◌-◌, ◌*◌, ◌^◌, ◌<◌, ◌≤◌, Bool, T, sym, refl, ◌∙◌, subst, le_trans, mul-le-mul_right, mul-pos, zero-mul, arith, lit≤}
use native.Mathlib.Decide.{dec_lt}
use lib.Ieee.{Float, binary32, of_bits}
use Rattle.angle.specs.Meaning.{D, H, whole}
use Rattle.angle.proofs.Terms.{sin_at, cos_at}
use Rattle.angle.proofs.arctangent.Placed.{Good}
use Rattle.angle.proofs.arctangent.Poly.{eval}
use Rattle.angle.proofs.arctangent.Ops.{Val, D-pos}
use Rattle.angle.proofs.arctangent.Horner.{h}
use Rattle.angle.proofs.arctangent.Budget.{B, E}
use Rattle.angle.proofs.arctangent.Slope.{ups, downs, ups_is, downs_is, K, x7}
use Rattle.angle.proofs.arctangent.Taken.{Taken, taken, l-hi, l-lo}
use Rattle.angle.proofs.arctangent.Base.{near_poly, n-x7}
use Rattle.angle.proofs.arctangent.Degrees.{slack, n-slack}
use Rattle.angle.proofs.arctangent.First.{turned_hi, turned_lo, cos_top}
use Rattle.angle.proofs.arctangent.Known.{Past, Short, n-h}
use Rattle.angle.proofs.arctangent.Reduced.{Reduced, n-D}
use Rattle.angle.proofs.arctangent.Turned.{quarter, test, turned_on, turned_off, K0}

-- ---- closed numbers
n-share : 13107200 * (20 * h) ≤ 8 * D
unfolding D h
n-share = lit≤ tt

n-E : slack + 6 * h ≤ E
unfolding slack h E
n-E = lit≤ tt

n_quarter : 4 * quarter ≡ D
unfolding quarter D
n_quarter = refl

-- ---- the rest past a known angle
module _ (x : Float) (s : Bool) (X Y : ℕ) (r : Reduced x s X Y) (Y0 : 0 < Y) where
  abbrev P : ℕ
  P = r.parts

  abbrev p : Float
  p = r.p

  pub p-top : 16 * P < 7 * D
  p-top = go P D h r.top n-h D-pos
    where
      go : (p d t : ℕ) → 9 * p ≤ 2 * d + 9 * t → 10000000 * t ≤ d → 0 < d → 16 * p < 7 * d
      go p d t a b c = omega arith

  pub tk : Taken p P
  tk = taken p P r.val (weak P D p-top) (more D P r.far)
    where
      weak : (p d : ℕ) → 16 * p < 7 * d → 16 * p ≤ 7 * d
      weak p d h = omega arith

      more : (d p : ℕ) → d ≤ 262144 * p → d ≤ 1048576 * p
      more d p h = omega arith

  abbrev l : ℕ
  l = tk.parts

  -- a is P less l, within 4 h and the slack
  pub record Near (a : ℕ) : Type 0 where
    pub hi : 2 * a + 2 * l ≤ 2 * P + 8 * h + 2 * slack
    pub lo : 2 * P ≤ 2 * a + 2 * l + 8 * h + 2 * slack

  pub rest-good : (a : ℕ) → Near a → Good X Y a
  rest-good a n =
      let g =
      near_poly P a (le_of P D x7 p-top n-x7) (hi a l P h slack E K (eval ups P) (eval downs P) n.hi (l-lo p P tk) n-E)
      (lo a l P h slack E K (eval ups P) (eval downs P) n.lo (l-hi p P tk) n-E) in
      record {
        over = turned_hi D P X Y (sin_at a) (cos_at a) whole (20 * h) D-pos (cos_top a) n-share r.hi g.over;
        beneath = turned_lo D P X Y (sin_at a) (cos_at a) whole (20 * h) D-pos (cos_top a) n-share r.hi r.lo g.beneath;
        ahead = front (Y * cos_at a) (X * sin_at a) (mul-pos Y0 g.ahead);
      }
    where
      le_of : (p d x : ℕ) → 16 * p < 7 * d → 16 * x ≡ 7 * d → p ≤ x
      le_of p d x h e = omega arith

      front : (a b : ℕ) → 0 < a → 0 < a + b
      front a b h = omega arith

      hi : (a l p t s e k u n : ℕ) → 2 * a + 2 * l ≤ 2 * p + 8 * t + 2 * s → 2 * u ≤ 2 * (l * k) + 2 * n + 4 * (k * t) → s + 6 * t ≤ e → a * k + u ≤ p * k + n + e * k
      hi a l p t s e k u n f g i = omega (arith, mul-le-mul_right k f, mul-le-mul_right k i)

      lo : (a l p t s e k u n : ℕ) → 2 * p ≤ 2 * a + 2 * l + 8 * t + 2 * s → 2 * (l * k) + 2 * n ≤ 2 * u + 4 * (k * t) → s + 6 * t ≤ e → p * k + n ≤ a * k + u + e * k
      lo a l p t s e k u n f g i = omega (arith, mul-le-mul_right k f, mul-le-mul_right k i)

  few : (a : ℕ) → Near a → a ≤ quarter
  few a n = go a l P D h slack quarter n.hi r.top n-slack n-h n_quarter
    where
      go : (a l p d t s q : ℕ) → 2 * a + 2 * l ≤ 2 * p + 8 * t + 2 * s → 9 * p ≤ 2 * d + 9 * t → s ≡ 20 * t → 10000000 * t ≤ d → 4 * q ≡ d → a ≤ q
      go a l p d t s q f g e i j = omega arith

  -- a known angle in its two parts
  module _ (high low : ℕ) (I L b : ℕ) (v_high : Val (of_bits binary32 high) I) (v_low : Val (of_bits binary32 low) L) (n-low : 10000000 * L ≤ D) where
    abbrev ps : Float → Type 0
    ps a = Past high low I L v_high v_low n-low p P r.val p-top r.far tk a

    abbrev ss : Float → Type 0
    ss a = Short high low I L v_high v_low n-low p P r.val p-top r.far tk a

    -- numbers: A past or short of I + L, y the angle, or what is left to a right angle
    module _ (A y : ℕ) (n1 : I + L ≤ b + h) (n2 : b ≤ I + L + h) (y1 : y ≤ A + slack) (y2 : A ≤ y + slack) where
      pub on_low : 2 * A + 2 * l ≤ 2 * (I + L) + 2 * P + 6 * h → 2 * (I + L) + 2 * P ≤ 2 * A + 2 * l + 6 * h → (b + (y - b) ≡ y) × Near (y - b)
      on_low hi lo = let f = go A y b (I + L) l P h slack D hi lo n1 n2 y1 y2 tk.few r.far n-slack n-D in (f.0, record { hi = f.1; lo = f.2 })
        where
          go : (A y b i l p t s d : ℕ) → 2 * A + 2 * l ≤ 2 * i + 2 * p + 6 * t → 2 * i + 2 * p ≤ 2 * A + 2 * l + 6 * t → i ≤ b + t → b ≤ i + t → y ≤ A + s → A ≤ y + s → 4 * l ≤ 3 * p
              → d ≤ 262144 * p → s ≡ 20 * t → d ≡ 33554432 * t
              → (b + (y - b) ≡ y) × (2 * (y - b) + 2 * l ≤ 2 * p + 8 * t + 2 * s) × (2 * p ≤ 2 * (y - b) + 2 * l + 8 * t + 2 * s)
          go A y b i l p t s d h1 h2 h3 h4 h5 h6 h7 h8 h9 h10 = (omega arith, omega arith, omega arith)

      pub off_low : 2 * A + 2 * P ≤ 2 * (I + L) + 2 * l + 6 * h → 2 * (I + L) + 2 * l ≤ 2 * A + 2 * P + 6 * h → (b - (b - y) ≡ y) × Near (b - y)
      off_low hi lo = let f = go A y b (I + L) l P h slack D hi lo n1 n2 y1 y2 tk.few r.far n-slack n-D in (f.0, record { hi = f.1; lo = f.2 })
        where
          go : (A y b i l p t s d : ℕ) → 2 * A + 2 * p ≤ 2 * i + 2 * l + 6 * t → 2 * i + 2 * l ≤ 2 * A + 2 * p + 6 * t → i ≤ b + t → b ≤ i + t → y ≤ A + s → A ≤ y + s → 4 * l ≤ 3 * p
              → d ≤ 262144 * p → s ≡ 20 * t → d ≡ 33554432 * t
              → (b - (b - y) ≡ y) × (2 * (b - y) + 2 * l ≤ 2 * p + 8 * t + 2 * s) × (2 * p ≤ 2 * (b - y) + 2 * l + 8 * t + 2 * s)
          go A y b i l p t s d h1 h2 h3 h4 h5 h6 h7 h8 h9 h10 = (omega arith, omega arith, omega arith)

    module _ (A y : ℕ) (n1 : b + (I + L) ≤ H + h) (n2 : H ≤ b + (I + L) + h) (y1 : y + A ≤ H + slack) (y2 : H ≤ y + A + slack) where
      pub off_high : 2 * A + 2 * l ≤ 2 * (I + L) + 2 * P + 6 * h → 2 * (I + L) + 2 * P ≤ 2 * A + 2 * l + 6 * h → (b - (b - y) ≡ y) × Near (b - y)
      off_high hi lo = let f = go A y b (I + L) l P h slack D H hi lo n1 n2 y1 y2 tk.few r.far n-slack n-D in (f.0, record { hi = f.1; lo = f.2 })
        where
          go : (A y b i l p t s d k : ℕ) → 2 * A + 2 * l ≤ 2 * i + 2 * p + 6 * t → 2 * i + 2 * p ≤ 2 * A + 2 * l + 6 * t → b + i ≤ k + t → k ≤ b + i + t → y + A ≤ k + s → k ≤ y + A + s
              → 4 * l ≤ 3 * p → d ≤ 262144 * p → s ≡ 20 * t → d ≡ 33554432 * t
              → (b - (b - y) ≡ y) × (2 * (b - y) + 2 * l ≤ 2 * p + 8 * t + 2 * s) × (2 * p ≤ 2 * (b - y) + 2 * l + 8 * t + 2 * s)
          go A y b i l p t s d k h1 h2 h3 h4 h5 h6 h7 h8 h9 h10 = (omega arith, omega arith, omega arith)

      pub on_high : 2 * A + 2 * P ≤ 2 * (I + L) + 2 * l + 6 * h → 2 * (I + L) + 2 * l ≤ 2 * A + 2 * P + 6 * h → (b + (y - b) ≡ y) × Near (y - b)
      on_high hi lo = let f = go A y b (I + L) l P h slack D H hi lo n1 n2 y1 y2 tk.few r.far n-slack n-D in (f.0, record { hi = f.1; lo = f.2 })
        where
          go : (A y b i l p t s d k : ℕ) → 2 * A + 2 * p ≤ 2 * i + 2 * l + 6 * t → 2 * i + 2 * l ≤ 2 * A + 2 * p + 6 * t → b + i ≤ k + t → k ≤ b + i + t → y + A ≤ k + s → k ≤ y + A + s
              → 4 * l ≤ 3 * p → d ≤ 262144 * p → s ≡ 20 * t → d ≡ 33554432 * t
              → (b + (y - b) ≡ y) × (2 * (y - b) + 2 * l ≤ 2 * p + 8 * t + 2 * s) × (2 * p ≤ 2 * (y - b) + 2 * l + 8 * t + 2 * s)
          go A y b i l p t s d k h1 h2 h3 h4 h5 h6 h7 h8 h9 h10 = (omega arith, omega arith, omega arith)

    -- ---- the turn by the known angle, u up and v right
    module _ (c d k u v : ℕ) (t : T (test b c d k)) (k0 : 0 < k) (v0 : 0 < v) (room : K0 * (c * v + d * u + X) + 2 ^ 28 * (v + u) ≤ k * (v + u)) (y-is : Y ≡ c * v + d * u) where
      good' : (a : ℕ) → Near a → Good X (c * v + d * u) a
      good' a n = subst (λ (z : ℕ). Good X z a) y-is (rest-good a n)

      pub swing_on : X + d * v ≡ c * u → (y : ℕ) → (b + (y - b) ≡ y) × Near (y - b) → y ≤ B → Good u v y
      swing_on e y f yB =
          subst (λ (z : ℕ). Good u v z) f.0
          (turned_on b c d k t k0 (y - b) (few (y - b) f.1) (subst (λ (z : ℕ). z ≤ B) (sym f.0) yB) u v X e v0 room (good' (y - b) f.1))

      pub swing_off : X + c * u ≡ d * v → b ≤ B → (y : ℕ) → (b - (b - y) ≡ y) × Near (b - y) → Good u v y
      swing_off e bB y f =
          subst (λ (z : ℕ). Good u v z) f.0
          (turned_off b c d k t k0 (b - y) (few (b - y) f.1) (cut b y) bB u v X e v0 room (good' (b - y) f.1))
        where
          cut : (b y : ℕ) → b - y ≤ b
          cut b y = omega arith

-- ---- on the line of a known angle
none : (eval ups 0 ≡ 0) × (eval downs 0 ≡ 0)
none = (ups_is 0 ∙ zero-mul _, downs_is 0 ∙ zero-mul _)

level : (Y a : ℕ) → 0 < Y → a ≤ E → Good 0 Y a
level Y a Y0 k =
    let g = near_poly 0 a (least x7) (hi a K E (eval ups 0) (eval downs 0) none.0 k) (lo a K E (eval ups 0) (eval downs 0) none.1) in
    record {
      over = turned_hi D 0 0 Y (sin_at a) (cos_at a) whole (20 * h) D-pos (cos_top a) n-share (flat Y D (20 * h)) g.over;
      beneath = turned_lo D 0 0 Y (sin_at a) (cos_at a) whole (20 * h) D-pos (cos_top a) n-share (flat Y D (20 * h)) (flat' Y D (20 * h)) g.beneath;
      ahead = front (Y * cos_at a) (0 * sin_at a) (mul-pos Y0 g.ahead);
    }
  where
    least : (x : ℕ) → 0 ≤ x
    least x = omega arith

    front : (a b : ℕ) → 0 < a → 0 < a + b
    front a b h = omega arith

    hi : (a k e u n : ℕ) → u ≡ 0 → a ≤ e → a * k + u ≤ 0 * k + n + e * k
    hi a k e u n f g = omega (arith, mul-le-mul_right k g)

    lo : (a k e u n : ℕ) → n ≡ 0 → 0 * k + n ≤ a * k + u + e * k
    lo a k e u n f = omega arith

    flat : (y d t : ℕ) → 0 * y * 2 ≤ 0 * d * 2 + y * t
    flat y d t = omega arith

    flat' : (y d t : ℕ) → 0 * d * 2 ≤ 0 * y * 2 + y * t
    flat' y d t = omega arith

-- y within g of b, either way
pub on_line : (b c d k : ℕ) → T (test b c d k) → 0 < k → (u v y g : ℕ) → 0 < v → c * u ≡ d * v → K0 * (c * v + d * u + 0) + 2 ^ 28 * (v + u) ≤ k * (v + u) → 0 < c * v + d * u
    → g ≤ E → g ≤ quarter → b + g ≤ B → y ≤ b + g → b ≤ y + g → Good u v y
on_line b c d k t k0 u v y g v0 e room Y0 gE gq bB y1 y2 = go (dec_lt y b)
  where
    go : Dec (y < b) → Good u v y
    go (yes l) =
        subst (λ (z : ℕ). Good u v z) (back b y l)
        (turned_off b c d k t k0 (b - y) (le_trans (small b y g y2) gq) (cut b y) (less b g B bB) u v 0 (zero-first (c * u) (d * v) e) v0 room
        (level (c * v + d * u) (b - y) Y0 (le_trans (small b y g y2) gE)))
      where
        back : (b y : ℕ) → y < b → b - (b - y) ≡ y
        back b y l = omega arith

        small : (b y g : ℕ) → b ≤ y + g → b - y ≤ g
        small b y g h = omega arith

        cut : (b y : ℕ) → b - y ≤ b
        cut b y = omega arith

        less : (b g m : ℕ) → b + g ≤ m → b ≤ m
        less b g m h = omega arith

        zero-first : (p q : ℕ) → p ≡ q → 0 + p ≡ q
        zero-first p q e = omega arith
    go (no l) =
        subst (λ (z : ℕ). Good u v z) (back b y l)
        (turned_on b c d k t k0 (y - b) (le_trans (small b y g y1) gq) (subst (λ (z : ℕ). z ≤ B) (sym (back b y l)) (le_trans y1 bB)) u v 0 (zero-first (d * v) (c * u) (sym e)) v0 room
        (level (c * v + d * u) (y - b) Y0 (le_trans (small b y g y1) gE)))
      where
        back : (b y : ℕ) → (y < b → ⊥) → b + (y - b) ≡ y
        back b y l = omega arith

        small : (b y g : ℕ) → y ≤ b + g → y - b ≤ g
        small b y g h = omega arith

        zero-first : (p q : ℕ) → p ≡ q → 0 + p ≡ q
        zero-first p q e = omega arith
