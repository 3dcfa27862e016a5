-- The answer in degrees, from radians up to a half turn: its range, and the eighth of a turn that it lies in. Assumes nothing.
use Rattle.std.proofs.Common.{◌≡◌, ℕ, ◌+◌, ◌*◌, ◌^◌, ◌<◌, ◌≤◌, Bool, true, false, cond, ◌&&◌, ◌||◌, T, eqb, ltb, pos, sym, refl, subst, inl, inr, le_trans, mul-le-mul_right, lt_of_mul-lt-mul_right, eq-or-lt_of_le, mul-pos, le_of_mul-le-mul_right, arith, lit<, lit≤, lt→ltb}
use lib.Ieee.{Float, nan, inf, fin, binary32, of_bits, round, up, down, mul, lt, le, eq}
use lib.Ieee.Exact.{HasValue}
use lib.Ieee.Fits.{down_pos, eq→eqb}
use lib.Ieee.Order.{round_mono}
use lib.Ieee.Positive.{positive_of_value, values_of_le}
use Rattle.floats.specs.Size.{plus_zero, abs_of}
use Rattle.angle.specs.Meaning.{D}
use Rattle.angle.proofs.arctangent.Ops.{Val, D-pos, Near, rounds, mul-signed}
use Rattle.angle.proofs.arctangent.Horner.{h}
use Rattle.angle.proofs.arctangent.Answer.{deg, E3}
use Rattle.angle.proofs.arctangent.Across.{E4, pp}

-- what the products and the difference from a half turn may move an angle by
unfoldable pub slack : ℕ
unfolding E3 E4
slack = E3 + E4

pub n-slack : slack ≡ 20 * h
unfolding slack E3 E4 h
n-slack = refl

-- ---- the eighths of a half turn, by up and right
abbrev pub eighth_of : Float → Float → ℕ
eighth_of y x = cond (lt x plus_zero) (cond (lt (abs_of x) (abs_of y)) 2 3) (cond (lt (abs_of x) (abs_of y)) 1 0)

-- the answer's size lies between 45 e and 45 (e + 1) degrees
pub record InEighth (s : Bool) (e : ℕ) (a : Float) : Type 0 where
  pub parts : ℕ
  pub val : HasValue a s parts D
  pub low : 45 * e * D ≤ parts
  pub high : parts ≤ 45 * (e + 1) * D

-- ---- the range
v-deg : Val (of_bits binary32 0x42652EE1) deg
unfolding of_bits D deg
v-deg = (refl, refl)

at_180 : round binary32 false (pp * deg) (D * D) ≡ fin false 45 (pos 2)
unfolding round pp deg D
at_180 = refl

n-157 : 16 * deg < 5 * 2 ^ 157
unfolding deg
n-157 = lit< tt

n-few : D * 2 ^ 133 < 2 * (slack * deg)
unfolding slack D deg
n-few = lit< tt

n-pp : 5 * pp ≤ 16 * D
unfolding pp D
n-pp = lit≤ tt

or_left : (a b : Bool) → T a → T (a || b)
or_left true b t = tt
or_left false b t = absurd t

or_right : (a b : Bool) → T b → T (a || (b && true))
or_right true b t = tt
or_right false true t = tt
or_right false false t = t

-- the test that `le` makes of two sizes
no_more : (p q a b : ℕ) → p ≤ q → (p ≡ q → a ≡ b) → T (ltb p q || (eqb a b && true))
no_more p q a b h f =
    elim (eq-or-lt_of_le h) [
      | inl e ↦ or_right (ltb p q) (eqb a b) (eq→eqb (f e))
      | inr l ↦ or_left (ltb p q) (eqb a b && true) (lt→ltb p q l)
    ]

abbrev pub InTurn : Float → Type 0
InTurn a = T (le (fin true 45 (pos 2)) a) × T (le a (fin false 45 (pos 2)))

pub in_turn : (x : Float) (s : Bool) (n : ℕ) → n ≤ 180 * D → HasValue x s n D → InTurn x
unfolding le lt eq
in_turn nan s n h v = absurd v
in_turn (inf t) s n h v = absurd v
in_turn (fin true m e) s n h v = (
  no_more (m * up e * 1) (180 * down e) (180 * down e) (m * up e * 1) (few (m * up e) (down e) n D D-pos h v.1) sym,
  or_left (ltb 0 (m * up e * 1 + 180 * down e)) _ (lt→ltb 0 (m * up e * 1 + 180 * down e) (some (m * up e) (down e) (down_pos e))),
)
  where
    few : (a d n k : ℕ) → 0 < k → n ≤ 180 * k → a * k ≡ n * d → a * 1 ≤ 180 * d
    few a d n k p h e = le_of_mul-le-mul_right {k = k} (omega (arith, mul-le-mul_right d h)) p

    some : (a d : ℕ) → 0 < d → 0 < a * 1 + 180 * d
    some a d p = omega arith
in_turn (fin false m e) s n h v = (
  or_left (ltb 0 (180 * down e + m * up e * 1)) _ (lt→ltb 0 (180 * down e + m * up e * 1) (some (m * up e) (down e) (down_pos e))),
  no_more (m * up e * 1) (180 * down e) (m * up e * 1) (180 * down e) (few (m * up e) (down e) n D D-pos h v.1) (λ (z : m * up e * 1 ≡ 180 * down e). z),
)
  where
    few : (a d n k : ℕ) → 0 < k → n ≤ 180 * k → a * k ≡ n * d → a * 1 ≤ 180 * d
    few a d n k p h e = le_of_mul-le-mul_right {k = k} (omega (arith, mul-le-mul_right d h)) p

    some : (a d : ℕ) → 0 < d → 0 < 180 * d + a * 1
    some a d p = omega arith

-- ---- radians: the f32 nearest to 45, 90 and 135 degrees, in D-ths
unfoldable pub t45 : ℕ
t45 = 13176795 * 2 ^ 125

unfoldable pub t90 : ℕ
t90 = 13176795 * 2 ^ 126

unfoldable pub t135 : ℕ
t135 = 9882596 * 2 ^ 127

at_45 : round binary32 false (t45 * deg) (D * D) ≡ fin false 45 (pos 0)
unfolding round t45 deg D
at_45 = refl

at_90 : round binary32 false (t90 * deg) (D * D) ≡ fin false 45 (pos 1)
unfolding round t90 deg D
at_90 = refl

at_135 : round binary32 false (t135 * deg) (D * D) ≡ fin false 135 (pos 0)
unfolding round t135 deg D
at_135 = refl

module _ (s : Bool) (a : Float) (A : ℕ) (va : HasValue a s A D) (far : slack ≤ A) (top : A ≤ pp) where
  abbrev rf : Float
  rf = round binary32 false (A * deg) (D * D)

  rn : Near rf (A * deg) (D * D) 133
  rn = rounds (A * deg) (D * D) 133 (mul-pos D-pos D-pos) (lit≤ tt) (small A D deg (2 ^ 157) D-pos (le_trans (scale A pp top) n-pp) n-157)
    where
      scale : (a p : ℕ) → a ≤ p → 5 * a ≤ 5 * p
      scale a p h = omega arith

      small : (a d g k : ℕ) → 0 < d → 5 * a ≤ 16 * d → 16 * g < 5 * k → a * g * d < k * (d * d)
      small a d g k p t n = let m : 16 * g + 1 ≤ 5 * k = omega arith in omega (arith, mul-le-mul_right (g * d) t, mul-le-mul_right (d * d) m, mul-pos p p)

  R : ℕ
  R = rn.parts

  r-val : HasValue (mul binary32 a (of_bits binary32 0x42652EE1)) s R D
  unfolding R
  r-val = subst (λ (z : Float). HasValue z s rn.parts D) (sym (mul-signed s a (of_bits binary32 0x42652EE1) A deg va v-deg)) (rn.either s)

  R-pos : 0 < R
  unfolding R
  R-pos = lt_of_mul-lt-mul_right (D * D) (some rn.parts A D deg slack (2 ^ 133) D-pos far rn.lo n-few)
    where
      some : (r a d g s k : ℕ) → 0 < d → s ≤ a → a * g * d * 2 ≤ r * (d * d) * 2 + d * d * k → d * k < 2 * (s * g) → 0 * (d * d) < r * (d * d)
      some r a d g s k p h l n = let n' : d * k + 1 ≤ 2 * (s * g) = omega arith in omega (arith, mul-le-mul_right (g * d) h, mul-le-mul_right d n')

  -- rounding keeps the order
  no_more_than : (B n : ℕ) (f : Float) → round binary32 false (B * deg) (D * D) ≡ f → HasValue f false n 1 → 0 < n → A ≤ B → R ≤ n * D
  unfolding R
  no_more_than B n f e vf n0 l =
      let m = round_mono binary32 (A * deg) (D * D) (B * deg) (D * D) (mul-pos D-pos D-pos) (mul-pos D-pos D-pos) (mul-le-mul_right (D * D) (mul-le-mul_right deg l)) in
      let m' : T (le rf f) = subst (λ (z : Float). T (le rf z)) e m in
      plain rn.parts (n * D) (values_of_le rf f rn.parts D n 1 (positive_of_value rf rn.parts D rn.val R-pos) (positive_of_value f n 1 vf n0) rn.val vf m')
    where
      plain : (r m : ℕ) → r * 1 ≤ m → r ≤ m
      plain r m h = omega arith

  no_less_than : (B n : ℕ) (f : Float) → round binary32 false (B * deg) (D * D) ≡ f → HasValue f false n 1 → 0 < n → B ≤ A → n * D ≤ R
  unfolding R
  no_less_than B n f e vf n0 l =
      let m = round_mono binary32 (B * deg) (D * D) (A * deg) (D * D) (mul-pos D-pos D-pos) (mul-pos D-pos D-pos) (mul-le-mul_right (D * D) (mul-le-mul_right deg l)) in
      let m' : T (le f rf) = subst (λ (z : Float). T (le z rf)) e m in
      plain (n * D) rn.parts (values_of_le f rf n 1 rn.parts D (positive_of_value f n 1 vf n0) (positive_of_value rf rn.parts D rn.val R-pos) vf rn.val m')
    where
      plain : (m r : ℕ) → m ≤ r * 1 → m ≤ r
      plain m r h = omega arith

  abbrev product : Float
  product = mul binary32 a (of_bits binary32 0x42652EE1)

  pub eighth_0 : A ≤ t45 → InEighth s 0 product
  eighth_0 l = record { parts = R; val = r-val; low = least D R; high = no_more_than t45 45 (fin false 45 (pos 0)) at_45 (refl, refl) (lit< tt) l }
    where
      least : (d r : ℕ) → 45 * 0 * d ≤ r
      least d r = omega arith

  pub eighth_1 : t45 ≤ A → A ≤ t90 → InEighth s 1 product
  eighth_1 l k = record {
    parts = R;
    val = r-val;
    low = no_less_than t45 45 (fin false 45 (pos 0)) at_45 (refl, refl) (lit< tt) l;
    high = no_more_than t90 90 (fin false 45 (pos 1)) at_90 (refl, refl) (lit< tt) k;
  }

  pub eighth_2 : t90 ≤ A → A ≤ t135 → InEighth s 2 product
  eighth_2 l k = record {
    parts = R;
    val = r-val;
    low = no_less_than t90 90 (fin false 45 (pos 1)) at_90 (refl, refl) (lit< tt) l;
    high = no_more_than t135 135 (fin false 135 (pos 0)) at_135 (refl, refl) (lit< tt) k;
  }

  pub eighth_3 : t135 ≤ A → InEighth s 3 product
  eighth_3 l = record {
    parts = R;
    val = r-val;
    low = no_less_than t135 135 (fin false 135 (pos 0)) at_135 (refl, refl) (lit< tt) l;
    high = no_more_than pp 180 (fin false 45 (pos 2)) at_180 (refl, refl) (lit< tt) top;
  }
