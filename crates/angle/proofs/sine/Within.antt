-- The rule's sine and cosine of an angle up to 26 lie within 2 ^ -20 of what is meant: the polynomials are near the terms, the
-- f32 is near the polynomials, and both are placed alike. Assumes nothing.
use Rattle.std.proofs.Common.{◌≡◌, ℕ, zero, suc, ◌+◌, ◌-◌, ◌*◌, ◌/◌, ◌%◌, ◌^◌, ◌<◌, ◌≤◌, Bool, true, false, cond, not, T, ℤ, pos, negsuc, ◌-ℤ◌, ◌*ℤ◌, neg_ℤ, nat_abs, sym, refl, ap, ◌∙◌, subst, le_trans, le_of_lt, mul-le-mul_right, mul_comm, mul-le-mul, mul-le-mul_left, le_of_mul-le-mul_right, arith, lit<, lit≤}
use lib.IntN.{neg_ℤ-neg_ℤ, neg_ℤ-+ℤ}
use lib.Ieee.{Float, nan, inf, fin, binary32, binary64, up, down, neg, lt, le, eq, fits, add, sub, mul, round, of_bits, to_bits}
use lib.Ieee.Fits.{down_pos}
use lib.Ieee.Scale.{finite}
use Rattle.angle.specs.Meaning.{D, H, whole, signed, parts, mod4, placed, sine, cosine, UpTo26, Close}
use Rattle.angle.specs.Sine.{least, size_of, counted_of, off_of, rest_of, sized_of, tiny_of, sine_from, sine_on, cosine_from, cosine_on, narrow_of}
use Rattle.angle.specs.Sine.{sine_at, cosine_at, sine_of_size, cosine_of_size, sine_of, cosine_of}
use Rattle.angle.proofs.Signs.{opposite, product, apart, mod4-minus}
use Rattle.angle.proofs.Terms.{one, sum, one-next, under, sin_at, cos_at}
use Rattle.angle.proofs.Placing.{Beside, sine-is, cosine-is}
use Rattle.angle.proofs.Rounded.{Is, is}
use Rattle.angle.proofs.sine.Units.{size_is, inside}
use Rattle.angle.proofs.sine.Doubles.{Near, E}
use Rattle.angle.proofs.sine.Powers.{D-pos, Q-pos, first, none, cut}
use Rattle.angle.proofs.sine.Coefficients.{lift, E-lift}
use Rattle.angle.proofs.sine.Narrowed.{Narrowed, narrowed, fine, E-fine}
use Rattle.angle.proofs.sine.Held.{plain_fits, not_tiny, is_tiny, tiny_size, size_of_lem, sign_of}
use Rattle.angle.proofs.sine.Steps.{Answer, r_of, Steps, x_of, exactly, lift_pos, steps}

-- ---- an answer that is near F is close to it
close_at : (y : Float) (g F : ℕ) → Is y false g → g * whole * 2 ^ 20 ≤ F * D * 2 ^ 20 + D * whole → F * D * 2 ^ 20 ≤ g * whole * 2 ^ 20 + D * whole → Close y (pos F)
close_at y g F i a b = record {
  number = i.number;
  near = subst (λ (z : ℤ). nat_abs (z *ℤ pos whole -ℤ pos F *ℤ pos D) * 2 ^ 20 ≤ D * whole) (sym i.parts_are) (apart false (g * whole) (F * D) (2 ^ 20) (D * whole) a b);
}

close : (y : Float) (p F c : ℕ) → c ≤ 661 → Narrowed y p → Near (p * whole * 1000000000) (F * E * 1000000000) (c * (E * whole)) → Close y (pos F)
close y p F c k m n =
    let g = m.g in
    close_at y g F (is y false g m.is)
    (last (g * whole) (F * D) (D * whole) (le_of_mul-le-mul_right {k = lift} (up' g whole F fine lift E n.hi m.near.hi E-fine E-lift (mul-le-mul_right (E * whole) k)) lift_pos))
    (last (F * D) (g * whole) (D * whole) (le_of_mul-le-mul_right {k = lift} (down' g whole F fine lift E n.lo m.near.lo E-fine E-lift (mul-le-mul_right (E * whole) k)) lift_pos))
  where
    last : (a b w : ℕ) → a * 1000000000 ≤ b * 1000000000 + 781 * w → a * 2 ^ 20 ≤ b * 2 ^ 20 + w
    last a b w h = omega arith

    up' : (g w F f l e : ℕ) → p * w * 1000000000 ≤ F * e * 1000000000 + c * (e * w) → g * l ≤ p + f → e ≡ 0x80_0000 * f → e ≡ D * l → c * (e * w) ≤ 661 * (e * w)
        → g * w * 1000000000 * l ≤ (F * D * 1000000000 + 781 * (D * w)) * l
    up' g w F f l e a b h i k = omega (arith, mul-le-mul_right w b, ap (λ (z : ℕ). z * w) h, ap (λ (z : ℕ). z * w) i, ap (λ (z : ℕ). F * z) i)

    down' : (g w F f l e : ℕ) → F * e * 1000000000 ≤ p * w * 1000000000 + c * (e * w) → p ≤ g * l + f → e ≡ 0x80_0000 * f → e ≡ D * l → c * (e * w) ≤ 661 * (e * w)
        → F * D * 1000000000 * l ≤ (g * w * 1000000000 + 781 * (D * w)) * l
    down' g w F f l e a b h i k = omega (arith, mul-le-mul_right w b, ap (λ (z : ℕ). z * w) h, ap (λ (z : ℕ). z * w) i, ap (λ (z : ℕ). F * z) i)

-- ---- by quarters
times_minus : (a : ℤ) (w : ℕ) → neg_ℤ a *ℤ pos w ≡ neg_ℤ (a *ℤ pos w)
times_minus (pos n) w = product true false n w
times_minus (negsuc n) w = sym (neg_ℤ-neg_ℤ (pos (suc n * w))) ∙ ap neg_ℤ (sym (product true false (suc n) w))

size-minus : (a : ℤ) → nat_abs (neg_ℤ a) ≡ nat_abs a
size-minus (pos zero) = refl
size-minus (pos (suc n)) = refl
size-minus (negsuc n) = refl

parts-minus : (y : Float) → parts (neg y) ≡ neg_ℤ (parts y)
unfolding parts neg
parts-minus nan = refl
parts-minus (inf s) = refl
parts-minus (fin s m e) = sym (opposite s (m * up e * D / down e))

still : (y : Float) → T (finite y) → T (finite (neg y))
unfolding neg
still nan h = h
still (inf s) h = h
still (fin s m e) h = tt

turned : {y : Float} {f : ℤ} → Close y f → Close (neg y) (neg_ℤ f)
turned {y} {f} c = record {
  number = still y c.number;
  near = subst (λ (z : ℕ). z * 2 ^ 20 ≤ D * whole) (sym same) c.near;
}
  where
    same : nat_abs (parts (neg y) *ℤ pos whole -ℤ neg_ℤ f *ℤ pos D) ≡ nat_abs (parts y *ℤ pos whole -ℤ f *ℤ pos D)
    same =
        ap (λ (z : ℤ). nat_abs (z *ℤ pos whole -ℤ neg_ℤ f *ℤ pos D)) (parts-minus y)
        ∙ ap (λ (z : ℤ). nat_abs (z -ℤ neg_ℤ f *ℤ pos D)) (times_minus (parts y) whole)
        ∙ ap (λ (z : ℤ). nat_abs (neg_ℤ (parts y *ℤ pos whole) -ℤ z)) (times_minus f D)
        ∙ ap nat_abs (sym (neg_ℤ-+ℤ (parts y *ℤ pos whole) (neg_ℤ (f *ℤ pos D))))
        ∙ size-minus (parts y *ℤ pos whole -ℤ f *ℤ pos D)

by_quarter : (r : ℕ) {S C : Float} {σ γ : ℤ} → Close S σ → Close C γ → Close (placed neg r S C) (placed neg_ℤ r σ γ)
unfolding placed
by_quarter zero a b = a
by_quarter (suc zero) a b = b
by_quarter (suc (suc zero)) a b = turned a
by_quarter (suc (suc (suc r))) a b = turned b

-- ---- a tiny angle
half-few : D < H
unfolding D H
half-few = lit< tt

module _ (x : ℕ) (l : x * 4096 ≤ D) where
  tiny_half : 2 * x < H
  tiny_half = omega (arith, half-few)

  xD : x ≤ D
  xD = omega (arith, l)

  squares : x * x * 16777216 ≤ D * D
  squares = go (mul-le-mul l l)
    where
      go : x * 4096 * (x * 4096) ≤ D * D → x * x * 16777216 ≤ D * D
      go h = omega (arith, h)

  first-few : one 1 x ≤ whole
  first-few = le_of_mul-le-mul_right {k = D} (subst (λ (z : ℕ). z ≤ whole * D) (sym (first x)) (subst (λ (z : ℕ). x * whole ≤ z) (mul_comm D whole) (mul-le-mul_right whole xD))) D-pos

  next-few : (T T' d : ℕ) → T ≤ whole → 0 < d → T' * (d * (D * D)) ≡ T * (x * x) → T' * 16777216 ≤ whole
  next-few T T' d h o e = le_of_mul-le-mul_right {k = D * D} (go (D * D) (x * x) whole e h squares) Q-pos
    where
      go : (q y w : ℕ) → T' * (d * q) ≡ T * y → T ≤ w → y * 16777216 ≤ q → T' * 16777216 * q ≤ w * q
      go q y w e h k = omega (arith, e, mul-le-mul_right (y * 16777216) h, mul-le-mul_left w k, mul-le-mul_right (T' * q) o)

  tiny_sine : (y : Float) → Is y false x → Close y (pos (sin_at x))
  tiny_sine y i =
      let r : sum 8 3 x * 16777216 ≤ whole = le_trans (mul-le-mul_right 16777216 (under x xD 8 3)) (next-few (one 1 x) (one 3 x) 6 first-few (lit< tt) (one-next 1 x (lit< tt))) in
      let s = cut x tiny_half 8 1 (lit≤ tt) in
      close_at y x (sin_at x) i (up' (sin_at x) (sum 8 3 x) (one 1 x) whole s r (first x)) (down' (sin_at x) (sum 8 3 x) (one 1 x) whole s (first x))
    where
      up' : (S R T w : ℕ) → S + R ≡ T → R * 16777216 ≤ w → T * D ≡ x * w → x * w * 2 ^ 20 ≤ S * D * 2 ^ 20 + D * w
      up' S R T w e h f = omega (arith, ap (λ (z : ℕ). z * D) e, mul-le-mul_right D h)

      down' : (S R T w : ℕ) → S + R ≡ T → T * D ≡ x * w → S * D * 2 ^ 20 ≤ x * w * 2 ^ 20 + D * w
      down' S R T w e f = omega (arith, ap (λ (z : ℕ). z * D) e)

  tiny_cosine : (y : Float) → Is y false D → Close y (pos (cos_at x))
  tiny_cosine y i =
      let r : sum 8 2 x * 16777216 ≤ whole = le_trans (mul-le-mul_right 16777216 (under x xD 8 2)) (next-few (one 0 x) (one 2 x) 2 (omega (arith, none x)) (lit< tt) (one-next 0 x (lit< tt))) in
      let s = cut x tiny_half 8 0 (lit≤ tt) in
      close_at y D (cos_at x) i (up' (cos_at x) (sum 8 2 x) (one 0 x) whole s r (none x)) (down' (cos_at x) (sum 8 2 x) (one 0 x) whole s (none x))
    where
      up' : (S R T w : ℕ) → S + R ≡ T → R * 16777216 ≤ w → T ≡ w → D * w * 2 ^ 20 ≤ S * D * 2 ^ 20 + D * w
      up' S R T w e h f = omega (arith, ap (λ (z : ℕ). z * D) e, ap (λ (z : ℕ). z * D) f, mul-le-mul_right D h)

      down' : (S R T w : ℕ) → S + R ≡ T → T ≡ w → S * D * 2 ^ 20 ≤ D * w * 2 ^ 20 + D * w
      down' S R T w e f = omega (arith, ap (λ (z : ℕ). z * D) e, ap (λ (z : ℕ). z * D) f)

-- a minus goes through the placing: r is j mod 4
side : Bool → Bool → Bool
side s b = cond b (not s) s

odd : (r : ℕ) → r < 4 → (b : Bool) (S C : ℕ) → placed neg_ℤ ((4 - r) % 4) (signed (side true b) S) (pos C) ≡ neg_ℤ (placed neg_ℤ r (signed (side false b) S) (pos C))
unfolding placed side
odd zero h true S C = sym (neg_ℤ-neg_ℤ (pos S))
odd zero h false S C = refl
odd (suc zero) h b S C = refl
odd (suc (suc zero)) h true S C = sym (ap neg_ℤ (neg_ℤ-neg_ℤ (pos S)))
odd (suc (suc zero)) h false S C = refl
odd (suc (suc (suc zero))) h b S C = sym (neg_ℤ-neg_ℤ (pos C))
odd (suc (suc (suc (suc r)))) h b S C = absurd (no r h)
  where
    no : (r : ℕ) → suc (suc (suc (suc r))) < 4 → ⊥
    no r h = omega arith

even : (r : ℕ) → r < 4 → (b : Bool) (S C : ℕ) → placed neg_ℤ (((4 - r) % 4 + 1) % 4) (signed (side true b) S) (pos C) ≡ placed neg_ℤ ((r + 1) % 4) (signed (side false b) S) (pos C)
unfolding placed side
even zero h b S C = refl
even (suc zero) h true S C = sym (neg_ℤ-neg_ℤ (pos S))
even (suc zero) h false S C = refl
even (suc (suc zero)) h b S C = refl
even (suc (suc (suc zero))) h true S C = refl
even (suc (suc (suc zero))) h false S C = neg_ℤ-neg_ℤ (pos S)
even (suc (suc (suc (suc r)))) h b S C = absurd (no r h)
  where
    no : (r : ℕ) → suc (suc (suc (suc r))) < 4 → ⊥
    no r h = omega arith

-- ---- an angle that is not tiny
module _ (s : Bool) (m : ℕ) (e : ℤ) (f : T (fits binary32 (fin s m e))) (u : UpTo26 (fin s m e)) (big : tiny_of (fin s m e) ≡ false) where
  abbrev x : ℕ
  x = x_of m e

  abbrev X : Float
  X = fin false m e

  few : m * up e ≤ 26 * down e
  few = inside s m e f (subst (λ (z : ℕ). z ≤ 26 * D) (size_is s m e) u.size)

  over : 1 * 1 * down e < m * up e * 4096
  over = not_tiny m e s big

  at : Steps X x
  at = steps m e (plain_fits s m e f) few (le_of_lt over)

  abbrev j : ℕ
  j = at.j

  abbrev y : ℕ
  y = at.at.y

  abbrev left : Bool
  left = at.at.b

  abbrev r : Float
  r = r_of X

  abbrev answer : Float
  answer = narrow_of (sine_from r (mul binary64 r r))

  near-to : (z : Float) (F c : ℕ) → c ≤ 661 → Answer z F c → Close (narrow_of z) (pos F)
  near-to z F c k a = close (narrow_of z) a.p F c k (narrowed a.p a.few a.low z a.is) a.near

  sin_close : Close answer (pos (sin_at y))
  sin_close = near-to (sine_from r (mul binary64 r r)) (sin_at y) 661 (lit≤ tt) at.sine

  cc : Close (cosine_at (rest_of X)) (pos (cos_at y))
  unfolding cosine_at
  cc = near-to (cosine_from (mul binary64 r r)) (cos_at y) 150 (lit≤ tt) at.cosine

  cs : Close (sine_at (rest_of X)) (signed (side false left) (sin_at y))
  unfolding sine_at side
  cs = subst (λ (g : Bool). Close (cond g (neg answer) answer) (signed (side false left) (sin_at y))) (sym at.minus) (go left)
    where
      go : (b : Bool) → Close (cond b (neg answer) answer) (signed (side false b) (sin_at y))
      go false = sin_close
      go true = turned sin_close

  -- the size's answers, and the sign
  abbrev σ : ℤ
  σ = placed neg_ℤ (j % 4) (signed (side false left) (sin_at y)) (pos (cos_at y))

  abbrev γ : ℤ
  γ = placed neg_ℤ ((j % 4 + 1) % 4) (signed (side false left) (sin_at y)) (pos (cos_at y))

  size-sine : Close (sine_of_size X) σ
  unfolding sine_of_size
  size-sine = subst (λ (k : ℕ). Close (sine_of_size X) (placed neg_ℤ k (signed (side false left) (sin_at y)) (pos (cos_at y)))) at.bits (by_quarter (to_bits binary64 (counted_of X) % 4) cs cc)

  size-cosine : Close (cosine_of_size X) γ
  unfolding cosine_of_size
  size-cosine =
      subst (λ (k : ℕ). Close (cosine_of_size X) (placed neg_ℤ ((k + 1) % 4) (signed (side false left) (sin_at y)) (pos (cos_at y)))) at.bits
      (by_quarter ((to_bits binary64 (counted_of X) % 4 + 1) % 4) cs cc)

  few-quarters : j % 4 < 4
  few-quarters = omega arith

  sine-at : (s : Bool) → sine (signed s x) ≡ cond s (neg_ℤ σ) σ
  unfolding mod4 side
  sine-at false = sine-is false left x j y at.at.half at.at.beside
  sine-at true =
      sine-is true left x j y at.at.half at.at.beside
      ∙ ap (λ (k : ℕ). placed neg_ℤ k (signed (side true left) (sin_at y)) (pos (cos_at y))) (mod4-minus j)
      ∙ odd (j % 4) few-quarters left (sin_at y) (cos_at y)

  cosine-at : (s : Bool) → cosine (signed s x) ≡ γ
  unfolding mod4 side
  cosine-at false = cosine-is false left x j y at.at.half at.at.beside
  cosine-at true =
      cosine-is true left x j y at.at.half at.at.beside
      ∙ ap (λ (k : ℕ). placed neg_ℤ ((k + 1) % 4) (signed (side true left) (sin_at y)) (pos (cos_at y))) (mod4-minus j)
      ∙ even (j % 4) few-quarters left (sin_at y) (cos_at y)

  abbrev t : Float
  t = fin s m e

  sized : size_of t ≡ X
  sized = size_of_lem m e s few over

  by_sign : (s : Bool) → Close (cond s (neg (sine_of_size X)) (sine_of_size X)) (cond s (neg_ℤ σ) σ)
  by_sign false = size-sine
  by_sign true = turned size-sine

  large_sine : Close (sine_of t) (sine (parts t))
  unfolding sine_of parts
  large_sine =
      subst (λ (b : Bool). Close (cond b t (cond (lt t (of_bits binary32 0)) (neg (sine_of_size (size_of t))) (sine_of_size (size_of t)))) (sine (signed s x))) (sym big)
      (subst (λ (b : Bool). Close (cond b (neg (sine_of_size (size_of t))) (sine_of_size (size_of t))) (sine (signed s x))) (sym (sign_of m e s over))
      (subst (λ (z : Float). Close (cond s (neg (sine_of_size z)) (sine_of_size z)) (sine (signed s x))) (sym sized)
      (subst (λ (z : ℤ). Close (cond s (neg (sine_of_size X)) (sine_of_size X)) z) (sym (sine-at s)) (by_sign s))))

  large_cosine : Close (cosine_of t) (cosine (parts t))
  unfolding cosine_of parts
  large_cosine = subst (λ (z : Float). Close (cosine_of_size z) (cosine (signed s x))) (sym sized) (subst (λ (z : ℤ). Close (cosine_of_size X) z) (sym (cosine-at s)) size-cosine)

-- ---- a tiny angle's answers
cosine-least : cosine_of_size least ≡ of_bits binary32 0x3F80_0000
unfolding cosine_of_size counted_of le lt eq add round to_bits rest_of sine_at cosine_at sine_from cosine_from off_of sized_of sine_on cosine_on narrow_of placed mul sub neg of_bits
cosine-least = refl

zero_turn : (s : Bool) → mod4 (signed s 0) ≡ 0
unfolding mod4
zero_turn true = refl
zero_turn false = refl

module _ (s : Bool) (m : ℕ) (e : ℤ) (f : T (fits binary32 (fin s m e))) (small : tiny_of (fin s m e) ≡ true) where
  abbrev x' : ℕ
  x' = x_of m e

  l : x' * 4096 ≤ D
  l = le_of_mul-le-mul_right {k = down e} (go x' (m * up e) (down e) (exactly s m e f) (is_tiny m e s small)) (down_pos e)
    where
      go : (x a d : ℕ) → x * d ≡ a * D → a * 4096 ≤ 1 * 1 * d → x * 4096 * d ≤ D * d
      go x a d i h = omega (arith, mul-le-mul_right D h)

  itself : Is (fin false m e) false x'
  unfolding parts
  itself = record { number = tt; parts_are = refl }

  one-is : Is (of_bits binary32 0x3F80_0000) false D
  unfolding of_bits D
  one-is = is (of_bits binary32 0x3F80_0000) false (2 ^ 149) (refl, refl)

  at_sign : (s : Bool) → Close (fin s m e) (signed s (sin_at x'))
  unfolding neg
  at_sign false = tiny_sine x' l (fin false m e) itself
  at_sign true = turned (tiny_sine x' l (fin false m e) itself)

  beside : Beside false x' 0 x'
  beside = omega arith

  small-sine : Close (sine_of (fin s m e)) (sine (parts (fin s m e)))
  unfolding sine_of parts placed
  small-sine =
      let w = sine_of_size (size_of (fin s m e)) in
      subst (λ (b : Bool). Close (cond b (fin s m e) (cond (lt (fin s m e) (of_bits binary32 0)) (neg w) w)) (sine (signed s x'))) (sym small)
      (subst (λ (z : ℤ). Close (fin s m e) z) (sym (sine-is s false x' 0 x' (tiny_half x' l) beside))
      (subst (λ (k : ℕ). Close (fin s m e) (placed neg_ℤ k (signed s (sin_at x')) (pos (cos_at x')))) (sym (zero_turn s)) (at_sign s)))

  small-cosine : Close (cosine_of (fin s m e)) (cosine (parts (fin s m e)))
  unfolding cosine_of parts placed
  small-cosine =
      subst (λ (z : Float). Close z (cosine (signed s x'))) (sym (ap cosine_of_size (tiny_size m e s (is_tiny m e s small)) ∙ cosine-least))
      (subst (λ (z : ℤ). Close (of_bits binary32 0x3F80_0000) z) (sym (cosine-is s false x' 0 x' (tiny_half x' l) beside))
      (subst (λ (k : ℕ). Close (of_bits binary32 0x3F80_0000) (placed neg_ℤ ((k + 1) % 4) (signed s (sin_at x')) (pos (cos_at x')))) (sym (zero_turn s))
      (tiny_cosine x' l (of_bits binary32 0x3F80_0000) one-is)))

-- ---- the two theorems
pub sine_close : (t : Float) → T (fits binary32 t) → UpTo26 t → Close (sine_of t) (sine (parts t))
sine_close nan f u = absurd u.number
sine_close (inf s) f u = absurd u.number
sine_close (fin s m e) f u = go (tiny_of (fin s m e)) refl
  where
    go : (b : Bool) → tiny_of (fin s m e) ≡ b → Close (sine_of (fin s m e)) (sine (parts (fin s m e)))
    go true i = small-sine s m e f i
    go false i = large_sine s m e f u i

pub cosine_close : (t : Float) → T (fits binary32 t) → UpTo26 t → Close (cosine_of t) (cosine (parts t))
cosine_close nan f u = absurd u.number
cosine_close (inf s) f u = absurd u.number
cosine_close (fin s m e) f u = go (tiny_of (fin s m e)) refl
  where
    go : (b : Bool) → tiny_of (fin s m e) ≡ b → Close (cosine_of (fin s m e)) (cosine (parts (fin s m e)))
    go true i = small-cosine s m e f i
    go false i = large_cosine s m e f u i
