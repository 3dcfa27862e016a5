-- What the rule works out of a size from 2 ^ -12 up to 26: its quarters, the rest, and the two polynomials, each well above 0 and
-- below 2. Assumes nothing.
use Rattle.std.proofs.Common.{◌≡◌, ℕ, ◌+◌, ◌*◌, ◌/◌, ◌%◌, ◌<◌, ◌≤◌, Bool, true, false, T, ℤ, sym, refl, ap, subst, le_trans, mul-le-mul_right, mul_comm, lt_of_mul-lt-mul_right, mul-pos, le_of_mul-le-mul_right, arith, lit<, lit≤}
use lib.Ieee.{Float, fin, binary32, binary64, up, down, lt, fits, mul, sub, to_bits}
use lib.Ieee.Fits.{down_pos}
use Rattle.floats.proofs.Powers.{shallow}
use Rattle.angle.specs.Meaning.{D, H, whole}
use Rattle.angle.specs.Sine as Rule
use Rattle.angle.specs.Sine.{many, counted_of, rest_of, sized_of, sine_from, cosine_from}
use Rattle.angle.proofs.Terms.{under, sin_at, cos_at}
use Rattle.angle.proofs.Placing.{Beside, H-pos}
use Rattle.angle.proofs.sine.Units.{step, kept, which}
use Rattle.angle.proofs.sine.Turns.{Turned, turned_of}
use Rattle.angle.proofs.sine.Rest.{Found, found}
use Rattle.angle.proofs.sine.Doubles.{Near, E, E_pos, tiny, E-tiny, Val}
use Rattle.angle.proofs.sine.Powers.{D-pos, first, none, yD}
use Rattle.angle.proofs.sine.Coefficients.{lift, E-lift}
use Rattle.angle.proofs.sine.Poly.{Sined, sined, Cosined, cosined}
use Rattle.angle.proofs.sine.Left.{whole_parts, val_of, Rest, rest_of_lem, Aside}

-- p is F, in E-ths, and c in 10 ^ 9 apart at most; it has an f32 with all its digits, below 2
pub record Answer (x : Float) (F c : ℕ) : Type 0 where
  pub p : ℕ
  pub is : Val x p
  pub near : Near (p * whole * 1000000000) (F * E * 1000000000) (c * (E * whole))
  pub low : tiny ≤ p
  pub few : p < 2 * E

abbrev pub r_of : Float → Float
r_of X = sized_of (rest_of X)

-- x is X in D-ths
pub record Steps (X : Float) (x : ℕ) : Type 0 where
  pub j : ℕ
  pub bits : to_bits binary64 (counted_of X) % 4 ≡ j % 4
  pub at : Found x j
  pub minus : lt (rest_of X) Rule.zero ≡ at.b
  pub sine : Answer (sine_from (r_of X) (mul binary64 (r_of X) (r_of X))) (sin_at at.y) 661
  pub cosine : Answer (cosine_from (mul binary64 (r_of X) (r_of X))) (cos_at at.y) 150

abbrev pub x_of : ℕ → ℤ → ℕ
x_of m e = m * up e * D / down e

pub exactly : (s : Bool) (m : ℕ) (e : ℤ) → T (fits binary32 (fin s m e)) → x_of m e * down e ≡ m * up e * D
unfolding D
exactly s m e f = whole_parts m e (shallow binary32 s m e f)

pub lift_pos : 0 < lift
unfolding lift
lift_pos = lit< tt

D-H : 3 * D ≤ 2 * H
unfolding D H
D-H = lit≤ tt

whole_pos : 0 < whole
unfolding whole
whole_pos = lit< tt

below_two : (p F c : ℕ) → F ≤ whole → c ≤ 661 → Near (p * whole * 1000000000) (F * E * 1000000000) (c * (E * whole)) → p < 2 * E
below_two p F c h k n = lt_of_mul-lt-mul_right whole (go p F whole E n.hi (mul-le-mul_right E h) (mul-le-mul_right (E * whole) k) (mul-pos E_pos whole_pos))
  where
    go : (p F w e : ℕ) → p * w * 1000000000 ≤ F * e * 1000000000 + c * (e * w) → F * e ≤ w * e → c * (e * w) ≤ 661 * (e * w) → 0 < e * w → p * w < 2 * e * w
    go p F w e a b c d = omega arith

tiny_step : step * lift ≡ 4 * tiny
unfolding step lift tiny
tiny_step = refl

module _ (m : ℕ) (e : ℤ) (f : T (fits binary32 (fin false m e))) (few : m * up e ≤ 26 * down e) (low : 1 * 1 * down e ≤ m * up e * 4096) where
  abbrev x : ℕ
  x = x_of m e

  x-few : x ≤ 26 * D
  x-few = kept (m * up e) (down e) (down_pos e) few

  large : D ≤ x * 4096
  large = le_of_mul-le-mul_right {k = down e} (go x (m * up e) (down e) (exactly false m e f) low) (down_pos e)
    where
      go : (x a d : ℕ) → x * d ≡ a * D → 1 * 1 * d ≤ a * 4096 → D * d ≤ x * 4096 * d
      go x a d i h = omega (arith, mul-le-mul_right D h)

  abbrev X : Float
  X = fin false m e

  X-few : x * lift ≤ 26 * E
  X-few = subst (λ (z : ℕ). x * lift ≤ 26 * z) (sym E-lift) (go x lift D x-few)
    where
      go : (x l d : ℕ) → x ≤ 26 * d → x * l ≤ 26 * (d * l)
      go x l d h = omega (arith, mul-le-mul_right l h)

  X-is : Val X (x * lift)
  X-is = val_of m e (shallow binary32 false m e f)

  turn : Turned X (x * lift)
  turn = turned_of X (x * lift) X-is X-few

  abbrev j : ℕ
  j = turn.j

  at : Found x j
  at = found x j x-few large (less turn.hi, more turn.lo) (which false m e f few)
    where
      less : 2 * (j * (H * lift)) ≤ 2 * (x * lift) + H * lift + 8 * tiny → 2 * (j * H) ≤ 2 * x + H + 2 * step
      less h = le_of_mul-le-mul_right {k = lift} (go H lift step tiny tiny_step h) lift_pos
        where
          go : (h l p t : ℕ) → p * l ≡ 4 * t → 2 * (j * (h * l)) ≤ 2 * (x * l) + h * l + 8 * t → 2 * (j * h) * l ≤ (2 * x + h + 2 * p) * l
          go h l p t e k = omega arith

      more : 2 * (x * lift) ≤ 2 * (j * (H * lift)) + H * lift + 8 * tiny → 2 * x ≤ 2 * (j * H) + H + 2 * step
      more h = le_of_mul-le-mul_right {k = lift} (go H lift step tiny tiny_step h) lift_pos
        where
          go : (h l p t : ℕ) → p * l ≡ 4 * t → 2 * (x * l) ≤ 2 * (j * (h * l)) + h * l + 8 * t → 2 * x * l ≤ (2 * (j * h) + h + 2 * p) * l
          go h l p t e k = omega arith

  abbrev y : ℕ
  y = at.y

  aside : (b : Bool) (y : ℕ) → Beside b x j y → Aside b (x * lift) (j * (H * lift)) (y * lift)
  aside true y h = go x H lift h
    where
      go : (x h l : ℕ) → y + x ≡ j * h → y * l + x * l ≡ j * (h * l)
      go x h l e = omega (arith, ap (λ (z : ℕ). z * l) e)
  aside false y h = go x H lift h
    where
      go : (x h l : ℕ) → y + j * h ≡ x → y * l + j * (h * l) ≡ x * l
      go x h l e = omega (arith, ap (λ (z : ℕ). z * l) e)

  far : 32 * tiny ≤ y * lift
  far = go y lift step tiny tiny_step (mul-le-mul_right lift at.far)
    where
      go : (y l p t : ℕ) → p * l ≡ 4 * t → 8 * p * l ≤ y * l → 32 * t ≤ y * l
      go y l p t e h = omega arith

  farther : 5 * tiny < y * lift
  farther = go (y * lift) tiny far (unfold tiny in lit< tt)
    where
      go : (y t : ℕ) → 32 * t ≤ y → 0 < t → 5 * t < y
      go y t h o = omega arith

  few_j : j ≤ 20
  few_j = tight (le_of_mul-le-mul_right {k = H} (go at.b at.beside) H-pos)
    where
      tight : j ≤ 18 → j ≤ 20
      tight h = omega arith

      go : (b : Bool) → Beside b x j y → j * H ≤ 18 * H
      go true h = omega (arith, x-few, at.half, D-H)
      go false h = omega (arith, x-few, D-H)

  left : Rest (rest_of X) at.b (y * lift)
  unfolding rest_of
  left = rest_of_lem X (sub binary64 (counted_of X) many) (x * lift) j (y * lift) at.b X-is X-few turn.is few_j (aside at.b y at.beside) farther

  S : Sined y at.half (r_of X) left.a left.fit left.is left.near
  S = sined y at.half (r_of X) left.a left.fit left.is left.near

  C : Cosined y at.half (r_of X) left.a left.fit left.is left.near
  C = cosined y at.half (r_of X) left.a left.fit left.is left.near

  y-few : y ≤ D
  y-few = yD y at.half

  sin_few : sin_at y ≤ whole
  sin_few =
      le_trans (under y y-few 9 1)
      (le_of_mul-le-mul_right {k = D} (subst (λ (z : ℕ). z ≤ whole * D) (sym (first y)) (subst (λ (z : ℕ). y * whole ≤ z) (mul_comm D whole) (mul-le-mul_right whole y-few))) D-pos)

  cos_few : cos_at y ≤ whole
  cos_few = subst (λ (z : ℕ). cos_at y ≤ z) (none y) (under y y-few 9 0)

  sin_low : (a p z t : ℕ) → 32 * t ≤ z → z ≤ a + 5 * t → 5 * a ≤ 6 * p + 18 * t → t ≤ p
  sin_low a p z t h k l = omega arith

  cos_low : (p e t : ℕ) → e ≤ 4 * p → e ≡ 0x1_0000_0000_0000 * t → t ≤ p
  cos_low p e t h k = omega arith

  pub steps : Steps X x
  steps = record {
    j = j;
    bits = turn.bits;
    at = at;
    minus = left.minus;
    sine = record {
      p = S.p;
      is = S.is;
      near = S.near;
      low = sin_low left.a S.p (y * lift) tiny far left.near.lo S.low;
      few = below_two S.p (sin_at y) 661 sin_few (lit≤ tt) S.near;
    };
    cosine = record {
      p = C.p;
      is = C.is;
      near = C.near;
      low = cos_low C.p E tiny C.low E-tiny;
      few = below_two C.p (cos_at y) 150 cos_few (lit≤ tt) C.near;
    };
  }
