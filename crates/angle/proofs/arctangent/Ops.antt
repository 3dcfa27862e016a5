-- One f32 operation on numbers that are not negative, in D-ths: the exact result, and how far the rounded one lies from it.
-- Assumes nothing.
use Rattle.std.proofs.Common.{◌≡◌, ℕ, zero, suc, ◌+◌, ◌-◌, ◌*◌, ◌/◌, ◌^◌, ◌<◌, ◌≤◌, Bool, true, false, cond, T, eqb, ltb, sym, refl, ap, ◌∙◌, subst, lt_of_lt_of_le, mul-le-mul_right, mul_assoc, mul_comm, div-lt_iff_lt-mul, lt_of_mul-lt-mul_right, mul-le-mul_left, mul-lt-mul_of_pos_right, mul-pos, le-div_iff_mul-le, not-le_of_lt, le_of_mul-le-mul_right, arith, lit<, lit≤, eqb→eq, ltb→lt, lt→ltb, pow_pos, pow_mono, pow-add}
use native.Mathlib.Nat.{eq_of_mul-eq-mul_right}
use native.Mathlib.Nat.{mul-mul-mul_comm, mul-sub}
use lib.Ieee.{Float, nan, inf, fin, binary32, size, up, down, unlike, round, sum, add, sub, mul, div, neg, lt}
use lib.Ieee.Fits.{down_pos, round_is}
use lib.Ieee.Exact.{HasValue, units_val}
use lib.Ieee.Digits.{size-le, size_reaches}
use lib.Ieee.Nearest.{closest}
use lib.Ieee.Order.{drop, kept}
use lib.Ieee.Scale.{grid, overflow, round_same, round_val}
use Rattle.floats.proofs.Range.{yes}
use Rattle.angle.specs.Meaning.{D}
use Rattle.floats.proofs.Closest.{Within, closest_within, wider}

pub D-pos : 0 < D
unfolding D
D-pos = lit< tt

-- x is not negative, and X D-ths
abbrev pub Val : Float → ℕ → Type 0
Val x X = HasValue x false X D

-- r is a / c, rounded in steps of 2 ^ b D-ths at most
pub record Near (r : Float) (a c b : ℕ) : Type 0 where
  pub parts : ℕ
  pub val : Val r parts
  pub either : (s : Bool) → HasValue (round binary32 s a c) s parts D
  pub hi : parts * c * 2 ≤ a * D * 2 + c * 2 ^ b
  pub lo : a * D * 2 ≤ parts * c * 2 + c * 2 ^ b
  pub rel_hi : parts * c * 2 ^ 24 ≤ a * D * 2 ^ 24 + a * D + c * 2 ^ 23
  pub rel_lo : a * D * 2 ^ 24 ≤ parts * c * 2 ^ 24 + a * D + c * 2 ^ 23

-- a step is a 2 ^ 23rd of the number at most, or one D-th
step_of : (n c k : ℕ) → 0 < c → k ≡ size (n / c) - 24 → c * 2 ^ k * 2 ^ 23 ≤ n + c * 2 ^ 23
step_of n c zero C e = one n c (2 ^ 23)
  where
    one : (n c u : ℕ) → c * 1 * u ≤ n + c * u
    one n c u = omega arith
step_of n c (suc k) C e =
    let r : 2 ^ (suc k + 23) ≤ n / c = size_reaches (n / c) (suc k + 23) (omega arith) in
    more n c (2 ^ suc k) (2 ^ 23) (subst (λ (z : ℕ). z * c ≤ n) (pow-add 2 (suc k) 23) ((le-div_iff_mul-le C).0 r))
  where
    more : (n c p u : ℕ) → p * u * c ≤ n → c * p * u ≤ n + c * u
    more n c p u h = omega arith

module _ (a c b : ℕ) (C : 0 < c) (top : b ≤ 240) (h : a * D < 2 ^ (24 + b) * c) where
  dropped : drop 24 (a * D) c ≤ b
  dropped = let s : size (a * D / c) ≤ 24 + b = size-le (a * D / c) (24 + b) ((div-lt_iff_lt-mul C).1 h) in omega arith

  within : Within (grid binary32 a c * c) (a * D) (c * 2 ^ b)
  unfolding D
  within =
      let n = a * 2 ^ 149 in
      let k = drop 24 n c in
      let w : Within (closest n (c * 2 ^ k) * (c * 2 ^ k)) n (c * 2 ^ k) = closest_within n (c * 2 ^ k) (mul-pos C (pow_pos k)) in
      subst (λ (x : ℕ). Within x n (c * 2 ^ b)) (turn (closest n (c * 2 ^ k)) c (2 ^ k))
      (wider (closest n (c * 2 ^ k) * (c * 2 ^ k)) n (c * 2 ^ k) (c * 2 ^ b) (mul-le-mul_left c (pow_mono dropped)) w)
    where
      turn : (x c u : ℕ) → x * (c * u) ≡ x * u * c
      turn x c u = omega arith

  relative : (grid binary32 a c * c * 2 ^ 24 ≤ a * D * 2 ^ 24 + a * D + c * 2 ^ 23) × (a * D * 2 ^ 24 ≤ grid binary32 a c * c * 2 ^ 24 + a * D + c * 2 ^ 23)
  unfolding D
  relative =
      let n = a * 2 ^ 149 in
      let k = drop 24 n c in
      let w : Within (closest n (c * 2 ^ k) * (c * 2 ^ k)) n (c * 2 ^ k) = closest_within n (c * 2 ^ k) (mul-pos C (pow_pos k)) in
      let w' : Within (closest n (c * 2 ^ k) * 2 ^ k * c) n (c * 2 ^ k) = subst (λ (x : ℕ). Within x n (c * 2 ^ k)) (turn (closest n (c * 2 ^ k)) c (2 ^ k)) w in
      go (closest n (c * 2 ^ k) * 2 ^ k * c) n (c * 2 ^ k) c w'.0 w'.1 (step_of n c k C refl)
    where
      turn : (x c u : ℕ) → x * (c * u) ≡ x * u * c
      turn x c u = omega arith

      go : (g n k c : ℕ) → g * 2 ≤ n * 2 + k → n * 2 ≤ g * 2 + k → k * 8388608 ≤ n + c * 8388608 → (g * 16777216 ≤ n * 16777216 + n + c * 8388608) × (n * 16777216 ≤ g * 16777216 + n + c * 8388608)
      go g n k c p q r = (omega arith, omega arith)

  small : grid binary32 a c < overflow binary32
  small =
      lt_of_lt_of_le
      (lt_of_mul-lt-mul_right c
      (go (grid binary32 a c * c) (a * D) (c * 2 ^ b) (2 ^ (24 + b) * c) (2 ^ 264 * c) (2 ^ 265 * c) within.0 h (wide c) (most c) (mul_assoc 2 (2 ^ 264) c)))
      (lit≤ tt)
    where
      wide : (c : ℕ) → c * 2 ^ b ≤ 2 ^ 264 * c
      wide c = let l : b ≤ 264 = omega arith in subst (λ (z : ℕ). z ≤ 2 ^ 264 * c) (mul_comm (2 ^ b) c) (mul-le-mul_right c (pow_mono l))

      most : (c : ℕ) → 2 ^ (24 + b) * c ≤ 2 ^ 264 * c
      most c = let l : 24 + b ≤ 264 = omega arith in mul-le-mul_right c (pow_mono l)

      go : (g n k e d d' : ℕ) → g * 2 ≤ n * 2 + k → n < e → k ≤ d → e ≤ d → d' ≡ 2 * d → g < d'
      go g n k e d d' p q r s f = omega arith

  pub rounds : Near (round binary32 false a c) a c b
  unfolding D
  rounds =
      record {
        parts = grid binary32 a c;
        val = round_val binary32 a c small;
        either = λ (s : Bool). subst (λ (z : Float). HasValue z s (grid binary32 a c) (2 ^ 149))
            (sym (round_is binary32 s a c)) (units_val binary32 s (kept 24 (a * 2 ^ 149) c) (drop 24 (a * 2 ^ 149) c) small);
        hi = within.0;
        lo = within.1;
        rel_hi = relative.0;
        rel_lo = relative.1;
      }

-- ---- the exact results
module _ (x y : Float) (X Y : ℕ) (vx : Val x X) (vy : Val y Y) where
  pub mul_is : mul binary32 x y ≡ round binary32 false (X * Y) (D * D)
  unfolding mul
  mul_is = go x y vx vy
    where
      go : (x y : Float) → Val x X → Val y Y → mul binary32 x y ≡ round binary32 false (X * Y) (D * D)
      go nan y v w = absurd v
      go (inf s) y v w = absurd v
      go (fin s m e) nan v w = absurd w
      go (fin s m e) (inf t) v w = absurd w
      go (fin true m e) (fin t n d) v w = absurd (subst (λ (b : Bool). T b) v.0 tt)
      go (fin false m e) (fin true n d) v w = absurd (subst (λ (b : Bool). T b) w.0 tt)
      go (fin false m e) (fin false n d) v w =
          round_same binary32 false (m * up e * (n * up d)) (down e * down d) (X * Y) (D * D) (mul-pos (down_pos e) (down_pos d)) (mul-pos D-pos D-pos)
          (cross (m * up e) (down e) (n * up d) (down d) D v.1 w.1)
        where
          cross : (a p b q D : ℕ) → a * D ≡ X * p → b * D ≡ Y * q → a * b * (D * D) ≡ X * Y * (p * q)
          cross a p b q D f g = mul-mul-mul_comm a b D D ∙ ap (λ (z : ℕ). z * (b * D)) f ∙ ap (λ (z : ℕ). X * p * z) g ∙ mul-mul-mul_comm X p Y q

  pub add_is : add binary32 x y ≡ round binary32 false (X + Y) D
  unfolding add sum
  add_is = go x y vx vy
    where
      go : (x y : Float) → Val x X → Val y Y → add binary32 x y ≡ round binary32 false (X + Y) D
      go nan y v w = absurd v
      go (inf s) y v w = absurd v
      go (fin s m e) nan v w = absurd w
      go (fin s m e) (inf t) v w = absurd w
      go (fin true m e) (fin t n d) v w = absurd (subst (λ (b : Bool). T b) v.0 tt)
      go (fin false m e) (fin true n d) v w = absurd (subst (λ (b : Bool). T b) w.0 tt)
      go (fin false m e) (fin false n d) v w =
          round_same binary32 false (m * up e * down d + n * up d * down e) (down e * down d) (X + Y) D (mul-pos (down_pos e) (down_pos d)) D-pos
          (cross (m * up e) (down e) (n * up d) (down d) D v.1 w.1)
        where
          cross : (a p b q D : ℕ) → a * D ≡ X * p → b * D ≡ Y * q → (a * q + b * p) * D ≡ (X + Y) * (p * q)
          cross a p b q D f g = omega (arith, ap (λ (z : ℕ). z * q) f, ap (λ (z : ℕ). z * p) g)

  pub sub_is : Y ≤ X → sub binary32 x y ≡ round binary32 false (X - Y) D
  unfolding sub add neg sum
  sub_is h = go x y vx vy
    where
      pick : (a b c : ℕ) → b ≤ a → cond (ltb a b) (round binary32 true (b - a) c) (round binary32 false (a - b) c) ≡ round binary32 false (a - b) c
      pick a b c h = by (ltb a b) (ltb→lt a b)
        where
          by : (t : Bool) → (T t → a < b) → cond t (round binary32 true (b - a) c) (round binary32 false (a - b) c) ≡ round binary32 false (a - b) c
          by true k = absurd (not-le_of_lt (k tt) h)
          by false k = refl

      go : (x y : Float) → Val x X → Val y Y → add binary32 x (neg y) ≡ round binary32 false (X - Y) D
      go nan y v w = absurd v
      go (inf s) y v w = absurd v
      go (fin s m e) nan v w = absurd w
      go (fin s m e) (inf t) v w = absurd w
      go (fin true m e) (fin t n d) v w = absurd (subst (λ (b : Bool). T b) v.0 tt)
      go (fin false m e) (fin true n d) v w = absurd (subst (λ (b : Bool). T b) w.0 tt)
      go (fin false m e) (fin false n d) v w =
          pick (m * up e * down d) (n * up d * down e) (down e * down d) (order (m * up e) (down e) (n * up d) (down d) D D-pos v.1 w.1)
          ∙ round_same binary32 false (m * up e * down d - n * up d * down e) (down e * down d) (X - Y) D (mul-pos (down_pos e) (down_pos d)) D-pos
          (cross (m * up e) (down e) (n * up d) (down d) D v.1 w.1)
        where
          both : (a p b q D : ℕ) → a * D ≡ X * p → b * D ≡ Y * q → (D * (a * q) ≡ p * q * X) × (D * (b * p) ≡ p * q * Y)
          both a p b q D f g = (omega (arith, ap (λ (z : ℕ). z * q) f), omega (arith, ap (λ (z : ℕ). z * p) g))

          order : (a p b q D : ℕ) → 0 < D → a * D ≡ X * p → b * D ≡ Y * q → b * p ≤ a * q
          order a p b q D D0 f g = let t = both a p b q D f g in le_of_mul-le-mul_right {k = D} (omega (arith, t.0, t.1, mul-le-mul_left (p * q) h)) D0

          cross : (a p b q D : ℕ) → a * D ≡ X * p → b * D ≡ Y * q → (a * q - b * p) * D ≡ (X - Y) * (p * q)
          cross a p b q D f g =
              let t = both a p b q D f g in
              mul_comm (a * q - b * p) D ∙ mul-sub D (a * q) (b * p) ∙ ap (λ (z : ℕ). z - D * (b * p)) t.0 ∙ ap (λ (z : ℕ). p * q * X - z) t.1 ∙ sym (mul-sub (p * q) X Y) ∙ mul_comm
              (p * q) (X - Y)

-- ---- the operations: by a step of 2 ^ b, and relative
pub record Op (r : Float) (n b : ℕ) : Type 0 where
  pub parts : ℕ
  pub val : Val r parts
  pub hi : parts * 2 ≤ n * 2 + 2 ^ b
  pub lo : n * 2 ≤ parts * 2 + 2 ^ b

-- of a product or a quotient: n / D
pub record Share (r : Float) (n d b : ℕ) : Type 0 where
  pub parts : ℕ
  pub val : Val r parts
  pub hi : parts * d * 2 ≤ n * 2 + d * 2 ^ b
  pub lo : n * 2 ≤ parts * d * 2 + d * 2 ^ b
  pub rel_hi : parts * d * 2 ^ 24 ≤ n * 2 ^ 24 + n + d * 2 ^ 23
  pub rel_lo : n * 2 ^ 24 ≤ parts * d * 2 ^ 24 + n + d * 2 ^ 23

whole : (r : Float) (n b : ℕ) → Near r n D b → Op r n b
whole r n b v = record { parts = v.parts; val = v.val; hi = le_of_mul-le-mul_right {k = D} (omega (arith, v.hi)) D-pos; lo = le_of_mul-le-mul_right {k = D} (omega (arith, v.lo)) D-pos }

module _ (x y : Float) (X Y b : ℕ) (top : b ≤ 240) (vx : Val x X) (vy : Val y Y) where
  pub times : X * Y < 2 ^ (24 + b) * D → Share (mul binary32 x y) (X * Y) D b
  times h =
      let v : Near (round binary32 false (X * Y) (D * D)) (X * Y) (D * D) b =
      rounds (X * Y) (D * D) b (mul-pos D-pos D-pos) top (subst (λ (z : ℕ). X * Y * D < z) (mul_assoc (2 ^ (24 + b)) D D) (mul-lt-mul_of_pos_right h D-pos)) in
      subst (λ (z : Float). Share z (X * Y) D b) (sym (mul_is x y X Y vx vy))
      (record {
        parts = v.parts;
        val = v.val;
        hi = le_of_mul-le-mul_right {k = D} (omega (arith, v.hi)) D-pos;
        lo = le_of_mul-le-mul_right {k = D} (omega (arith, v.lo)) D-pos;
        rel_hi = le_of_mul-le-mul_right {k = D} (omega (arith, v.rel_hi)) D-pos;
        rel_lo = le_of_mul-le-mul_right {k = D} (omega (arith, v.rel_lo)) D-pos;
      })

  pub plus : X + Y < 2 ^ (24 + b) → Op (add binary32 x y) (X + Y) b
  plus h = subst (λ (z : Float). Op z (X + Y) b) (sym (add_is x y X Y vx vy)) (whole (round binary32 false (X + Y) D) (X + Y) b (rounds (X + Y) D b D-pos top (mul-lt-mul_of_pos_right h D-pos)))

  pub less : Y ≤ X → X < 2 ^ (24 + b) → Op (sub binary32 x y) (X - Y) b
  less l h =
      let k : X - Y < 2 ^ (24 + b) = omega arith in subst (λ (z : Float). Op z (X - Y) b) (sym (sub_is x y X Y vx vy l))
      (whole (round binary32 false (X - Y) D) (X - Y) b (rounds (X - Y) D b D-pos top (mul-lt-mul_of_pos_right k D-pos)))

  -- not x < y
  pub lt_not : Y ≤ X → lt x y ≡ false
  unfolding lt
  lt_not h = go x y vx vy
    where
      falsity : (b : Bool) (a c : ℕ) → (T b → a < c) → c ≤ a → b ≡ false
      falsity true a c k l = absurd (not-le_of_lt (k tt) l)
      falsity false a c k l = refl

      go : (x y : Float) → Val x X → Val y Y → lt x y ≡ false
      go nan y v w = absurd v
      go (inf s) y v w = absurd v
      go (fin s m e) nan v w = absurd w
      go (fin s m e) (inf t) v w = absurd w
      go (fin true m e) (fin t n d) v w = absurd (subst (λ (b : Bool). T b) v.0 tt)
      go (fin false m e) (fin true n d) v w = absurd (subst (λ (b : Bool). T b) w.0 tt)
      go (fin false m e) (fin false n d) v w =
          falsity (ltb (m * up e * down d) (n * up d * down e)) (m * up e * down d) (n * up d * down e) (ltb→lt (m * up e * down d) (n * up d * down e))
          (order (m * up e) (down e) (n * up d) (down d) D D-pos v.1 w.1)
        where
          order : (a p b q D : ℕ) → 0 < D → a * D ≡ X * p → b * D ≡ Y * q → b * p ≤ a * q
          order a p b q D z f g = le_of_mul-le-mul_right {k = D} (omega (arith, ap (λ (k : ℕ). k * q) f, ap (λ (k : ℕ). k * p) g, mul-le-mul_left (p * q) h)) z

  -- x < y
  pub lt-is : X < Y → lt x y ≡ true
  unfolding lt
  lt-is h = go x y vx vy
    where
      truth : (b : Bool) → T b → b ≡ true
      truth true t = refl
      truth false t = absurd t

      go : (x y : Float) → Val x X → Val y Y → lt x y ≡ true
      go nan y v w = absurd v
      go (inf s) y v w = absurd v
      go (fin s m e) nan v w = absurd w
      go (fin s m e) (inf t) v w = absurd w
      go (fin true m e) (fin t n d) v w = absurd (subst (λ (b : Bool). T b) v.0 tt)
      go (fin false m e) (fin true n d) v w = absurd (subst (λ (b : Bool). T b) w.0 tt)
      go (fin false m e) (fin false n d) v w =
          truth (ltb (m * up e * down d) (n * up d * down e)) (lt→ltb (m * up e * down d) (n * up d * down e) (order (m * up e) (down e) (n * up d) (down d) D (down_pos e) (down_pos d) v.1 w.1))
        where
          order : (a p b q D : ℕ) → 0 < p → 0 < q → a * D ≡ X * p → b * D ≡ Y * q → a * q < b * p
          order a p b q D p0 q0 f g =
              lt_of_mul-lt-mul_right D
              (less' (a * q * D) (b * p * D) (p * q * X) (p * q * Y) (omega (arith, ap (λ (z : ℕ). z * q) f)) (omega (arith, ap (λ (z : ℕ). z * p) g)) (mul-lt (p * q) (mul-pos p0 q0)))
            where
              mul-lt : (k : ℕ) → 0 < k → k * X < k * Y
              mul-lt k k0 = subst (λ (z : ℕ). z < k * Y) (mul_comm X k) (subst (λ (z : ℕ). X * k < z) (mul_comm Y k) (mul-lt-mul_of_pos_right h k0))

              less' : (a b c d : ℕ) → a ≡ c → b ≡ d → c < d → a < b
              less' a b c d e f g = omega arith

-- ---- with a sign
pub neg_val : (s : Bool) (x : Float) (X : ℕ) → Val x X → HasValue (cond s (neg x) x) s X D
unfolding neg
neg_val false x X v = v
neg_val true nan X v = absurd v
neg_val true (inf t) X v = absurd v
neg_val true (fin true m e) X v = absurd (subst (λ (b : Bool). T b) v.0 tt)
neg_val true (fin false m e) X v = (refl, v.1)

pub mul-signed : (s : Bool) (x y : Float) (X Y : ℕ) → HasValue x s X D → Val y Y → mul binary32 x y ≡ round binary32 s (X * Y) (D * D)
unfolding mul
mul-signed s nan y X Y v w = absurd v
mul-signed s (inf t) y X Y v w = absurd v
mul-signed s (fin r m e) nan X Y v w = absurd w
mul-signed s (fin r m e) (inf t) X Y v w = absurd w
mul-signed s (fin r m e) (fin true n d) X Y v w = absurd (subst (λ (b : Bool). T b) w.0 tt)
mul-signed s (fin r m e) (fin false n d) X Y v w =
    ap (λ (b : Bool). round binary32 b (m * up e * (n * up d)) (down e * down d)) (plain r ∙ v.0)
    ∙ round_same binary32 s (m * up e * (n * up d)) (down e * down d) (X * Y) (D * D) (mul-pos (down_pos e) (down_pos d)) (mul-pos D-pos D-pos)
    (cross (m * up e) (down e) (n * up d) (down d) D v.1 w.1)
  where
    plain : (b : Bool) → unlike b false ≡ b
    plain true = refl
    plain false = refl

    cross : (a p b q D : ℕ) → a * D ≡ X * p → b * D ≡ Y * q → a * b * (D * D) ≡ X * Y * (p * q)
    cross a p b q D f g = mul-mul-mul_comm a b D D ∙ ap (λ (z : ℕ). z * (b * D)) f ∙ ap (λ (z : ℕ). X * p * z) g ∙ mul-mul-mul_comm X p Y q

-- x - y where y is the larger
pub sub_under : (x y : Float) (X Y : ℕ) → Val x X → Val y Y → X < Y → sub binary32 x y ≡ round binary32 true (Y - X) D
unfolding sub add neg sum
sub_under x y X Y vx vy h = go x y vx vy
  where
    pick : (a b c : ℕ) → a < b → cond (ltb a b) (round binary32 true (b - a) c) (round binary32 false (a - b) c) ≡ round binary32 true (b - a) c
    pick a b c h = by (ltb a b) (lt→ltb a b h)
      where
        by : (t : Bool) → T t → cond t (round binary32 true (b - a) c) (round binary32 false (a - b) c) ≡ round binary32 true (b - a) c
        by true k = refl
        by false k = absurd k

    go : (x y : Float) → Val x X → Val y Y → add binary32 x (neg y) ≡ round binary32 true (Y - X) D
    go nan y v w = absurd v
    go (inf s) y v w = absurd v
    go (fin s m e) nan v w = absurd w
    go (fin s m e) (inf t) v w = absurd w
    go (fin true m e) (fin t n d) v w = absurd (subst (λ (b : Bool). T b) v.0 tt)
    go (fin false m e) (fin true n d) v w = absurd (subst (λ (b : Bool). T b) w.0 tt)
    go (fin false m e) (fin false n d) v w =
        pick (m * up e * down d) (n * up d * down e) (down e * down d) (order (m * up e) (down e) (n * up d) (down d) D (down_pos e) (down_pos d) v.1 w.1)
        ∙ round_same binary32 true (n * up d * down e - m * up e * down d) (down e * down d) (Y - X) D (mul-pos (down_pos e) (down_pos d)) D-pos
        (cross (m * up e) (down e) (n * up d) (down d) D v.1 w.1)
      where
        both : (a p b q D : ℕ) → a * D ≡ X * p → b * D ≡ Y * q → (D * (a * q) ≡ p * q * X) × (D * (b * p) ≡ p * q * Y)
        both a p b q D f g = (omega (arith, ap (λ (z : ℕ). z * q) f), omega (arith, ap (λ (z : ℕ). z * p) g))

        order : (a p b q D : ℕ) → 0 < p → 0 < q → a * D ≡ X * p → b * D ≡ Y * q → a * q < b * p
        order a p b q D p0 q0 f g =
            lt_of_mul-lt-mul_right D
            (less' (a * q * D) (b * p * D) (p * q * X) (p * q * Y) (omega (arith, ap (λ (z : ℕ). z * q) f)) (omega (arith, ap (λ (z : ℕ). z * p) g)) (mul-lt (p * q) (mul-pos p0 q0)))
          where
            mul-lt : (k : ℕ) → 0 < k → k * X < k * Y
            mul-lt k k0 = subst (λ (z : ℕ). z < k * Y) (mul_comm X k) (subst (λ (z : ℕ). X * k < z) (mul_comm Y k) (mul-lt-mul_of_pos_right h k0))

            less' : (a b c d : ℕ) → a ≡ c → b ≡ d → c < d → a < b
            less' a b c d e f g = omega arith

        cross : (a p b q D : ℕ) → a * D ≡ X * p → b * D ≡ Y * q → (b * p - a * q) * D ≡ (Y - X) * (p * q)
        cross a p b q D f g =
            let t = both a p b q D f g in
            mul_comm (b * p - a * q) D ∙ mul-sub D (b * p) (a * q) ∙ ap (λ (z : ℕ). z - D * (a * q)) t.1 ∙ ap (λ (z : ℕ). p * q * Y - z) t.0 ∙ sym (mul-sub (p * q) Y X) ∙ mul_comm (p * q)
            (Y - X)

-- ---- a quotient with a sign
pub div_signed : (s : Bool) (x y : Float) (X Y : ℕ) → HasValue x s X D → Val y Y → 0 < Y → div binary32 x y ≡ round binary32 s X Y
unfolding div
div_signed s nan y X Y v w k = absurd v
div_signed s (inf t) y X Y v w k = absurd v
div_signed s (fin r m e) nan X Y v w k = absurd w
div_signed s (fin r m e) (inf t) X Y v w k = absurd w
div_signed s (fin r m e) (fin true n d) X Y v w k = absurd (subst (λ (b : Bool). T b) w.0 tt)
div_signed s (fin r m e) (fin false n d) X Y v w k =
    ap (λ (c : Bool). cond c (cond (eqb m 0) nan (inf (unlike r false))) (round binary32 (unlike r false) (m * up e * down d) (n * up d * down e))) (not_zero n (up d) n0)
    ∙ ap (λ (b : Bool). round binary32 b (m * up e * down d) (n * up d * down e)) (plain r ∙ v.0)
    ∙ round_same binary32 s (m * up e * down d) (n * up d * down e) X Y (mul-pos n0 (down_pos e)) k (cross (m * up e) (down e) (n * up d) (down d) D v.1 w.1 D-pos)
  where
    plain : (b : Bool) → unlike b false ≡ b
    plain true = refl
    plain false = refl

    n0 : 0 < n * up d
    n0 = some (n * up d) (down d) D w.1 (down_pos d)
      where
        some : (b q D : ℕ) → b * D ≡ Y * q → 0 < q → 0 < b
        some b q D f p = first b D (subst (λ (z : ℕ). 0 < z) (sym f) (mul-pos k p))
          where
            first : (b D : ℕ) → 0 < b * D → 0 < b
            first zero D k = absurd (none D k)
              where
                none : (D : ℕ) → 0 < 0 * D → ⊥
                none D k = omega arith
            first (suc b) D k = omega arith

    not_zero : (n u : ℕ) → 0 < n * u → eqb n 0 ≡ false
    not_zero n u k = go (eqb n 0) refl
      where
        none : (n u : ℕ) → 0 < n * u → n ≡ 0 → ⊥
        none n u h e = omega (arith, h, ap (λ (z : ℕ). z * u) e)

        go : (b : Bool) → eqb n 0 ≡ b → eqb n 0 ≡ false
        go true e = absurd (none n u k (eqb→eq n 0 (yes e)))
        go false e = e

    cross : (a p b q D : ℕ) → a * D ≡ X * p → b * D ≡ Y * q → 0 < D → a * q * Y ≡ X * (b * p)
    cross a p b q D f g z = eq_of_mul-eq-mul_right D z (a * q * Y) (X * (b * p)) (omega (arith, ap (λ (k : ℕ). k * (q * Y)) f, ap (λ (k : ℕ). X * p * k) g))
