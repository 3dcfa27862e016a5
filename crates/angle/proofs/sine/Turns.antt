-- The sum with `many` is rounded to a whole number, and its last digits are the quarters': its bits, and the number itself once
-- `many` is taken off again. Assumes nothing.
use Rattle.std.proofs.Common.{◌≡◌, ℕ, ◌+◌, ◌-◌, ◌*◌, ◌%◌, ◌^◌, ◌<◌, ◌≤◌, Bool, true, false, cond, ◌&&◌, ltb, sym, refl, ap, ◌∙◌, subst, true≢false, mul-le-mul_right, mul-pos, mul_right_comm, le_of_mul-le-mul_right, arith, lit<, lit≤, pow_pos, le-ltb}
use native.Mathlib.Nat.{eq_of_mul-eq-mul_right}
use lib.Ieee.{Float, nan, inf, fin, binary64, up, down, round, sum, add, sub, mul, neg, of_bits, to_bits}
use lib.Ieee.Fits.{down_pos}
use lib.Ieee.Exact.{HasValue}
use lib.Ieee.Back.{round_whole}
use lib.Ieee.Scale.{round_same}
use Rattle.angle.specs.Meaning.{H}
use Rattle.angle.specs.Sine.{per_radian, many, counted_of}
use Rattle.floats.proofs.Closest.{Within}
use Rattle.floats.proofs.Ones.{q, near, at_least, at_most, value, bits_is}
use Rattle.angle.proofs.sine.Doubles.{E, tiny, E_pos, Val, Product, product_of}
use Rattle.angle.proofs.sine.Coefficients.{lift}

-- ---- the sum: j is the whole number nearest to p, in E-ths
pub record Turn (x : Float) (p : ℕ) : Type 0 where
  pub j : ℕ
  pub bits : to_bits binary64 (add binary64 x many) % 4 ≡ j % 4
  pub is : Val (sub binary64 (add binary64 x many) many) (j * E)
  pub hi : 2 * (j * E) ≤ 2 * p + E
  pub lo : 2 * p ≤ 2 * (j * E) + E

-- `many` taken off: n / d is q
abbrev taken : Bool → ℕ → ℕ → Float
taken z a d = cond z (round binary64 true (3 * 2 ^ 51 * d - a * 1) (d * 1)) (round binary64 (false && ltb (3 * 2 ^ 51 * d) (a * 1)) (a * 1 - 3 * 2 ^ 51 * d) (d * 1))

off_many : (y : Float) (q j : ℕ) → HasValue y false (q * 2 ^ 1074) (2 ^ 1074) → q ≡ j + 3 * 2 ^ 51 → j ≤ 2 ^ 53 → HasValue (sub binary64 y many) false j 1
unfolding sub add neg sum of_bits
off_many nan q j v e l = absurd v
off_many (inf s) q j v e l = absurd v
off_many (fin true n o) q j v e l = absurd (true≢false v.0)
off_many (fin false n o) q j v e l =
    let a = n * up o in
    let d = down o in
    let i : a ≡ q * d = eq_of_mul-eq-mul_right (2 ^ 1074) (pow_pos 1074) a (q * d) (v.1 ∙ mul_right_comm q (2 ^ 1074) d) in
    subst (λ (z : Bool). HasValue (taken z a d) false j 1) (sym (le-ltb (a * 1) (3 * 2 ^ 51 * d) (under a d i)))
    (subst (λ (z : Float). HasValue z false j 1) (sym (round_same binary64 false (a * 1 - 3 * 2 ^ 51 * d) (d * 1) j 1 (one d (down_pos o)) (lit< tt) (left a d i))) (round_whole binary64 false j l))
  where
    one : (d : ℕ) → 0 < d → 0 < d * 1
    one d h = omega arith

    under : (a d : ℕ) → a ≡ q * d → 3 * 2 ^ 51 * d ≤ a * 1
    under a d i = omega (arith, ap (λ (z : ℕ). z * d) e)

    left : (a d : ℕ) → a ≡ q * d → (a * 1 - 3 * 2 ^ 51 * d) * 1 ≡ j * (d * 1)
    left a d i = omega (arith, ap (λ (z : ℕ). z * d) e)

scale : (x : Float) (j : ℕ) → HasValue x false j 1 → Val x (j * E)
unfolding E
scale nan j v = absurd v
scale (inf s) j v = absurd v
scale (fin s m e) j v = (v.0, go (m * up e) (down e) (2 ^ 1074) v.1)
  where
    go : (a d r : ℕ) → a * 1 ≡ j * d → a * r ≡ j * r * d
    go a d r f = omega (arith, ap (λ (z : ℕ). z * r) f)

-- a / d is p E-ths
module _ (a d p : ℕ) (dp : 0 < d) (v : a * E ≡ p * d) (few : p ≤ 32 * E) where
  abbrev num : ℕ
  num = a * 1 + 3 * 2 ^ 51 * d

  abbrev den : ℕ
  den = d * 1

  den_pos : 0 < den
  den_pos = omega arith

  a-few : a ≤ 32 * d
  a-few = le_of_mul-le-mul_right {k = E} (go E v few) E_pos
    where
      go : (e : ℕ) → a * e ≡ p * d → p ≤ 32 * e → a * e ≤ 32 * d * e
      go e v h = omega (arith, mul-le-mul_right d h)

  lo : 2 ^ 52 * den ≤ num
  lo = omega arith

  hi : num + den ≤ 2 ^ 53 * den
  hi = omega (arith, a-few, dp)

  sum_q : ℕ
  sum_q = q num den den_pos lo hi

  sum_near : Within (sum_q * den) num den
  unfolding sum_q
  sum_near = near num den den_pos lo hi

  full : 3 * 2 ^ 51 ≤ sum_q
  full = half (le_of_mul-le-mul_right {k = d} (omega (arith, sum_near.1)) dp)
    where
      half : 2 * (3 * 2 ^ 51) ≤ 2 * sum_q + 1 → 3 * 2 ^ 51 ≤ sum_q
      half h = omega arith

  abbrev count : ℕ
  count = sum_q - 3 * 2 ^ 51

  back : sum_q ≡ count + 3 * 2 ^ 51
  back = omega (arith, full)

  hi_p : 2 * (count * E) ≤ 2 * p + E
  hi_p = le_of_mul-le-mul_right {k = d} (go count sum_q E v back (mul-le-mul_right E sum_near.0)) dp
    where
      go : (j q e : ℕ) → a * e ≡ p * d → q ≡ j + 3 * 2 ^ 51 → q * den * 2 * e ≤ (num * 2 + den) * e → 2 * (j * e) * d ≤ (2 * p + e) * d
      go j q e v b h = omega (arith, ap (λ (z : ℕ). z * (d * e)) b)

  lo_p : 2 * p ≤ 2 * (count * E) + E
  lo_p = le_of_mul-le-mul_right {k = d} (go count sum_q E v back (mul-le-mul_right E sum_near.1)) dp
    where
      go : (j q e : ℕ) → a * e ≡ p * d → q ≡ j + 3 * 2 ^ 51 → num * 2 * e ≤ (q * den * 2 + den) * e → 2 * p * d ≤ (2 * (j * e) + e) * d
      go j q e v b h = omega (arith, ap (λ (z : ℕ). z * (d * e)) b)

  count-few : count ≤ 2 ^ 53
  unfolding sum_q
  count-few = let h = at_most num den den_pos lo hi in omega arith

  summed : Val (round binary64 false num den) (sum_q * 2 ^ 1074)
  unfolding sum_q
  summed = value num den den_pos lo hi

  its_bits : to_bits binary64 (round binary64 false num den) % 4 ≡ count % 4
  its_bits =
      ap (λ (z : ℕ). z % 4) (bits_is (round binary64 false num den) sum_q summed (unfold sum_q in at_least num den den_pos lo hi) (unfold sum_q in at_most num den den_pos lo hi))
      ∙ last sum_q back
    where
      last : (q : ℕ) → q ≡ count + 3 * 2 ^ 51 → (1074 * 2 ^ 52 + q) % 4 ≡ count % 4
      last q e = omega arith

pub turn_of : (x : Float) (p : ℕ) → Val x p → p ≤ 32 * E → Turn x p
unfolding add of_bits
turn_of nan p v l = absurd v
turn_of (inf s) p v l = absurd v
turn_of (fin true n o) p v l = absurd (true≢false v.0)
turn_of (fin false n o) p v l =
    let i : n * up o * E ≡ p * down o = unfold E in v.1 in
    let y = round binary64 false (num (n * up o) (down o) p (down_pos o) i l) (den (n * up o) (down o) p (down_pos o) i l) in
    record {
      j = count (n * up o) (down o) p (down_pos o) i l;
      bits = its_bits (n * up o) (down o) p (down_pos o) i l;
      is =
          scale (sub binary64 y many) (count (n * up o) (down o) p (down_pos o) i l)
          (off_many y (sum_q (n * up o) (down o) p (down_pos o) i l) (count (n * up o) (down o) p (down_pos o) i l) (summed (n * up o) (down o) p (down_pos o) i l)
          (back (n * up o) (down o) p (down_pos o) i l) (count-few (n * up o) (down o) p (down_pos o) i l));
      hi = hi_p (n * up o) (down o) p (down_pos o) i l;
      lo = lo_p (n * up o) (down o) p (down_pos o) i l;
    }

-- ---- the product with the quarters in a radian
unfoldable per : ℕ
per = 0x145F306DC9C883 * 2 ^ 1021

v-per : Val per_radian per
unfolding of_bits per
v-per = (refl, refl)

per_few : 10 * per ≤ 7 * E
unfolding per E
per_few = lit≤ tt

-- it is the inverse of a right angle, nearly
per_over : 16 * (per * (H * lift)) ≤ 16 * (E * E) + tiny * E
unfolding per H lift E tiny
per_over = lit≤ tt

per_under : 16 * (E * E) ≤ 16 * (per * (H * lift)) + tiny * E
unfolding per H lift E tiny
per_under = lit≤ tt

H-few : 10 * (H * lift) ≤ 16 * E
unfolding H lift E
H-few = lit≤ tt

-- x is nearer to j right angles than to any others, but for a little
pub record Turned (x : Float) (X : ℕ) : Type 0 where
  pub j : ℕ
  pub bits : to_bits binary64 (counted_of x) % 4 ≡ j % 4
  pub is : Val (sub binary64 (counted_of x) many) (j * E)
  pub hi : 2 * (j * (H * lift)) ≤ 2 * X + H * lift + 8 * tiny
  pub lo : 2 * X ≤ 2 * (j * (H * lift)) + H * lift + 8 * tiny

module _ (x : Float) (X : ℕ) (v : Val x X) (l : X ≤ 26 * E) where
  P : Product x per_radian X per
  P = product_of x per_radian X per v v-per (go E l per_few E_pos)
    where
      go : (e : ℕ) → X ≤ 26 * e → 10 * per ≤ 7 * e → 0 < e → X * per < 64 * (e * e)
      go e h k o = omega (arith, mul-le-mul_right per h, mul-le-mul_right e k, mul-pos o o)

  p-few : P.p ≤ 32 * E
  p-few = le_of_mul-le-mul_right {k = E} (go E P.p tiny P.near.hi l per_few (unfold E tiny in lit≤ tt)) E_pos
    where
      go : (e p t : ℕ) → p * e ≤ X * per + t * e → X ≤ 26 * e → 10 * per ≤ 7 * e → t ≤ e → p * e ≤ 32 * e * e
      go e p t n h k s = omega (arith, mul-le-mul_right per h, mul-le-mul_right e k, mul-le-mul_right e s)

  W : Turn (mul binary64 x per_radian) P.p
  W = turn_of (mul binary64 x per_radian) P.p P.is p-few

  E2-pos : 0 < E * E
  E2-pos = mul-pos E_pos E_pos

  up' : (j p e t c h : ℕ) → 2 * (j * e) ≤ 2 * p + e → p * e ≤ X * c + t * e → 16 * (c * h) ≤ 16 * (e * e) + t * e → X ≤ 26 * e → 10 * h ≤ 16 * e
      → 2 * (j * h) * (e * e) ≤ (2 * X + h + 8 * t) * (e * e)
  up' j p e t c h a b k l m = omega (arith, mul-le-mul_right (e * h) a, mul-le-mul_right h b, mul-le-mul_right X k, mul-le-mul_right (t * e) l, mul-le-mul_right (t * e) m)

  down' : (j p e t c h : ℕ) → 2 * p ≤ 2 * (j * e) + e → X * c ≤ p * e + t * e → 16 * (e * e) ≤ 16 * (c * h) + t * e → X ≤ 26 * e → 10 * h ≤ 16 * e
      → 2 * X * (e * e) ≤ (2 * (j * h) + h + 8 * t) * (e * e)
  down' j p e t c h a b k l m = omega (arith, mul-le-mul_right (e * h) a, mul-le-mul_right h b, mul-le-mul_right X k, mul-le-mul_right (t * e) l, mul-le-mul_right (t * e) m)

  pub turned_of : Turned x X
  unfolding counted_of
  turned_of = record {
    j = W.j;
    bits = W.bits;
    is = W.is;
    hi = le_of_mul-le-mul_right {k = E * E} (up' W.j P.p E tiny per (H * lift) W.hi P.near.hi per_over l H-few) E2-pos;
    lo = le_of_mul-le-mul_right {k = E * E} (down' W.j P.p E tiny per (H * lift) W.lo P.near.lo per_under l H-few) E2-pos;
  }
