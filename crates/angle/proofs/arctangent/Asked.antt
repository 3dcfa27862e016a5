-- The rule's answer is what 01 asks for: off the axes and the diagonals by the angle of the ratio, on them by the answer itself. Assumes nothing.
use Rattle.std.proofs.Common.{◌≡◌, ℕ, ◌+◌, ◌-◌, ◌*◌, ◌^◌, ◌<◌, ◌≤◌, Bool, true, false, cond, T, ℤ, pos, sym, refl, ap, ◌∙◌, subst, ⊎_elim, mul-le-mul_right, mul-le-mul_left, mul-lt-mul_of_pos_right, mul-pos, arith, lit<, lit≤}
use native.Mathlib.Decide.{dec_lt}
use lib.Ieee.{Float, nan, inf, fin, up, down, of_bits, round, mul, lt}
use Rattle.floats.specs.Degrees.{radians_of}
use Rattle.floats.specs.Size.{abs_of, sign_of, plus_zero}
use Rattle.angle.specs.Meaning.{D, H, whole, coef, signed, parts, sine, cosine, Along}
use Rattle.angle.specs.Arctangent.{halves_of, is_halves, arctangent_of, Domain, Arctangent}
use Rattle.angle.proofs.Terms.{sin_at, cos_at, sum}
use Rattle.angle.proofs.arctangent.Placed.{part, part_pos, Good, flat, meets_1, meets_2, meets_3, meets_4, meets_5}
use Rattle.angle.proofs.arctangent.Halves.{halves-few, exact, D-is, parts_are, right_is}
use Rattle.angle.proofs.arctangent.Ops.{Val, lt-is, lt_not}
use Rattle.angle.proofs.arctangent.Exactly.{axis_right, axis_left, axis_up, diagonal_right, diagonal_left}
use Rattle.angle.proofs.arctangent.Sides.{Low, High, by, low, high}
use Rattle.angle.proofs.arctangent.Degrees.{InTurn, in_turn, InEighth, eighth_of}
use Rattle.angle.proofs.arctangent.First.{first-low}
use Rattle.angle.proofs.arctangent.Steep.{steep-high}
use Rattle.angle.proofs.arctangent.Between.{between}

-- ---- the products of 0, 45, 90, 135 and 180 degrees with the constant, in D-ths
unfoldable t45 : ℕ
t45 = 13176795 * 2 ^ 125

unfoldable t90 : ℕ
t90 = 13176795 * 2 ^ 126

unfoldable t135 : ℕ
t135 = 9882596 * 2 ^ 127

unfoldable t180 : ℕ
t180 = 13176795 * 2 ^ 127

p0 : (s : Bool) → parts (radians_of (fin s 0 (pos 0))) ≡ signed s 0
unfolding radians_of parts mul round of_bits D
p0 true = refl
p0 false = refl

p45 : (s : Bool) → parts (radians_of (fin s 45 (pos 0))) ≡ signed s t45
unfolding radians_of parts mul round of_bits D t45
p45 true = refl
p45 false = refl

p90 : (s : Bool) → parts (radians_of (fin s 45 (pos 1))) ≡ signed s t90
unfolding radians_of parts mul round of_bits D t90
p90 true = refl
p90 false = refl

p135 : (s : Bool) → parts (radians_of (fin s 135 (pos 0))) ≡ signed s t135
unfolding radians_of parts mul round of_bits D t135
p135 true = refl
p135 false = refl

p180 : (s : Bool) → parts (radians_of (fin s 45 (pos 2))) ≡ signed s t180
unfolding radians_of parts mul round of_bits D t180
p180 true = refl
p180 false = refl

-- ---- the axes and the diagonals: a few closed numbers
axis_good : (v y : ℕ) → 0 < v → 262144 * sin_at y ≤ whole → 0 < cos_at y → Good 0 v y
axis_good v y p h c = omega (arith, mul-le-mul_left v h, mul-pos p c)

diagonal_good : (u y : ℕ) → 0 < u → 262144 * sin_at y ≤ 262144 * cos_at y + whole → 262144 * cos_at y ≤ 262144 * sin_at y + whole → 0 < cos_at y → Good u u y
diagonal_good u y p h k c = omega (arith, mul-le-mul_left u h, mul-le-mul_left u k, mul-pos p c)

unfoldable y90 : ℕ
unfolding H t90
y90 = t90 - H

unfoldable y180 : ℕ
unfolding H t180
y180 = t180 - 2 * H

unfoldable y45 : ℕ
unfolding H t45
y45 = H - t45

unfoldable y135 : ℕ
unfolding H t135
y135 = 2 * H - t135

at_0 : 0 + 0 * H ≡ 0
unfolding H
at_0 = refl

at_90 : y90 + 1 * H ≡ t90
unfolding y90
at_90 = refl

at_180 : y180 + 2 * H ≡ t180
unfolding y180
at_180 = refl

at_45 : y45 + t45 ≡ 1 * H
unfolding y45
at_45 = refl

at_135 : y135 + t135 ≡ 2 * H
unfolding y135
at_135 = refl

record Axis (y : ℕ) : Type 0 where
  half : 2 * y < H
  small : 262144 * sin_at y ≤ whole
  ahead : 0 < cos_at y

record Diagonal (y : ℕ) : Type 0 where
  half : 2 * y < H
  over : 262144 * sin_at y ≤ 262144 * cos_at y + whole
  beneath : 262144 * cos_at y ≤ 262144 * sin_at y + whole
  ahead : 0 < cos_at y

axis_0 : Axis 0
unfolding H whole sum coef D
axis_0 = record { half = lit< tt; small = lit≤ tt; ahead = lit< tt }

axis_90 : Axis y90
unfolding H whole sum coef D y90
axis_90 = record { half = lit< tt; small = lit≤ tt; ahead = lit< tt }

axis_180 : Axis y180
unfolding H whole sum coef D y180
axis_180 = record { half = lit< tt; small = lit≤ tt; ahead = lit< tt }

diagonal_45 : Diagonal y45
unfolding H whole sum coef D y45
diagonal_45 = record { half = lit< tt; over = lit≤ tt; beneath = lit≤ tt; ahead = lit< tt }

diagonal_135 : Diagonal y135
unfolding H whole sum coef D y135
diagonal_135 = record { half = lit< tt; over = lit≤ tt; beneath = lit≤ tt; ahead = lit< tt }

abbrev Answer : Bool → Bool → ℕ → ℕ → ℕ → Type 0
Answer s l u v t = Along (signed s (u * part)) (signed l (v * part)) (sine (signed s t)) (cosine (signed s t))

axis_1 : (s : Bool) (v : ℕ) → 0 < v → Answer s false 0 v 0
axis_1 s v p = meets_1 s 0 v 0 0 axis_0.half at_0 (axis_good v 0 p axis_0.small axis_0.ahead)

axis_2 : (s l : Bool) (u : ℕ) → 0 < u → Answer s l u 0 t90
axis_2 s false u p =
    subst (λ (z : ℤ). Along (signed s (u * part)) z (sine (signed s t90)) (cosine (signed s t90))) (flat true false)
    (meets_3 s u 0 t90 y90 axis_90.half at_90 (axis_good u y90 p axis_90.small axis_90.ahead))
axis_2 s true u p = meets_3 s u 0 t90 y90 axis_90.half at_90 (axis_good u y90 p axis_90.small axis_90.ahead)

axis_3 : (s : Bool) (v : ℕ) → 0 < v → Answer s true 0 v t180
axis_3 s v p = meets_5 s v t180 y180 axis_180.half at_180 (axis_good v y180 p axis_180.small axis_180.ahead)

diagonal_1 : (s : Bool) (u : ℕ) → 0 < u → Answer s false u u t45
diagonal_1 s u p = meets_2 s u u t45 y45 diagonal_45.half at_45 (diagonal_good u y45 p diagonal_45.over diagonal_45.beneath diagonal_45.ahead)

diagonal_2 : (s : Bool) (u : ℕ) → 0 < u → Answer s true u u t135
diagonal_2 s u p = meets_4 s u u t135 y135 diagonal_135.half at_135 (diagonal_good u y135 p diagonal_135.over diagonal_135.beneath diagonal_135.ahead)

-- ---- the eighths there
in_0 : (s : Bool) → InEighth s 0 (fin s 0 (pos 0))
in_0 s = record { parts = 0; val = (refl, unfold D in refl); low = unfold D in lit≤ tt; high = unfold D in lit≤ tt }

in_45 : (s : Bool) → InEighth s 0 (fin s 45 (pos 0))
in_45 s = record { parts = 45 * D; val = (refl, unfold D in refl); low = unfold D in lit≤ tt; high = unfold D in lit≤ tt }

in_90 : (s : Bool) → InEighth s 1 (fin s 45 (pos 1))
in_90 s = record { parts = 90 * D; val = (refl, unfold D in refl); low = unfold D in lit≤ tt; high = unfold D in lit≤ tt }

past_90 : (s : Bool) → InEighth s 2 (fin s 45 (pos 1))
past_90 s = record { parts = 90 * D; val = (refl, unfold D in refl); low = unfold D in lit≤ tt; high = unfold D in lit≤ tt }

in_135 : (s : Bool) → InEighth s 3 (fin s 135 (pos 0))
in_135 s = record { parts = 135 * D; val = (refl, unfold D in refl); low = unfold D in lit≤ tt; high = unfold D in lit≤ tt }

in_180 : (s : Bool) → InEighth s 3 (fin s 45 (pos 2))
in_180 s = record { parts = 180 * D; val = (refl, unfold D in refl); low = unfold D in lit≤ tt; high = unfold D in lit≤ tt }

-- ---- all of it
abbrev Meets : Float → Float → ℕ → Type 0
Meets y x e = Along (parts y) (parts x) (sine (parts (radians_of (arctangent_of y x)))) (cosine (parts (radians_of (arctangent_of y x)))) × InEighth (sign_of y) e (arctangent_of y x)

-- the sizes of multiples of a half compare as their counts
abs_val : (x : Float) → T (is_halves x) → Val (abs_of x) (halves_of x * part)
unfolding is_halves abs_of
abs_val nan h = absurd h
abs_val (inf s) h = absurd h
abs_val (fin s m e) h = (refl, go (m * up e) (halves_of (fin s m e)) (down e) D (exact s m e (unfold is_halves in h)) D-is)
  where
    go : (n k d D : ℕ) → n * 2 ≡ k * d → D ≡ 2 * part → n * D ≡ k * part * d
    go n k d D f g = omega (arith, ap (λ (z : ℕ). z * part) f, ap (λ (z : ℕ). n * z) g)

is-steep : (y x : Float) → T (is_halves y) → T (is_halves x) → halves_of x < halves_of y → lt (abs_of x) (abs_of y) ≡ true
is-steep y x hy hx l = lt-is (abs_of x) (abs_of y) (halves_of x * part) (halves_of y * part) 124 (lit≤ tt) (abs_val x hx) (abs_val y hy) (mul-lt-mul_of_pos_right l part_pos)

is-flat : (y x : Float) → T (is_halves y) → T (is_halves x) → halves_of y ≤ halves_of x → lt (abs_of x) (abs_of y) ≡ false
is-flat y x hy hx l = lt_not (abs_of x) (abs_of y) (halves_of x * part) (halves_of y * part) 124 (lit≤ tt) (abs_val x hx) (abs_val y hy) (mul-le-mul_right part l)

eighth_is : (y x : Float) (l t : Bool) → lt x plus_zero ≡ l → lt (abs_of x) (abs_of y) ≡ t → cond l (cond t 2 3) (cond t 1 0) ≡ eighth_of y x
eighth_is y x l t e f = sym (rw (e, f) refl)

module _ (y x : Float) (d : Domain y x) where
  abbrev u : ℕ
  u = halves_of y

  abbrev v : ℕ
  v = halves_of x

  abbrev s : Bool
  s = sign_of y

  hy : T (is_halves y)
  hy = d.halves.up

  hx : T (is_halves x)
  hx = d.halves.right

  -- the answer is a, whose product is t
  exactly : (l : Bool) (a : Float) (t u' v' : ℕ) → lt x plus_zero ≡ l → u ≡ u' → v ≡ v' → arctangent_of y x ≡ a → parts (radians_of a) ≡ signed s t → Answer s l u' v' t → (e : ℕ)
      → InEighth s e a → e ≡ eighth_of y x → Meets y x (eighth_of y x)
  exactly l a t u' v' e eu ev f p k n i g = (
    by (parts y) (parts x) (parts (radians_of (arctangent_of y x))) (signed s (u' * part)) (signed l (v' * part)) (signed s t)
        (parts_are y hy ∙ ap (λ (z : ℕ). signed s (z * part)) eu) (right_is x hx ∙ ap (λ (b : Bool). signed b (v * part)) e ∙ ap (λ (z : ℕ). signed l (z * part)) ev)
        (ap (λ (z : Float). parts (radians_of z)) f ∙ p) k,
    subst (λ (z : ℕ). InEighth s z (arctangent_of y x)) g (subst (λ (z : Float). InEighth s n z) (sym f) i),
  )

  flat-is : u ≡ 0 → Meets y x (eighth_of y x)
  flat-is e = go (lt x plus_zero) refl
    where
      v0 : 0 < v
      v0 = some u v d.some e
        where
          some : (u v : ℕ) → 0 < u + v → u ≡ 0 → 0 < v
          some u v h e = omega arith

      flat : lt (abs_of x) (abs_of y) ≡ false
      flat = is-flat y x hy hx (least u v e)
        where
          least : (u v : ℕ) → u ≡ 0 → u ≤ v
          least u v e = omega arith

      go : (l : Bool) → lt x plus_zero ≡ l → Meets y x (eighth_of y x)
      go false l = exactly false (fin s 0 (pos 0)) 0 0 v l e refl (axis_right y x d e l) (p0 s) (axis_1 s v v0) 0 (in_0 s) (eighth_is y x false false l flat)
      go true l = exactly true (fin s 45 (pos 2)) t180 0 v l e refl (axis_left y x d e l) (p180 s) (axis_3 s v v0) 3 (in_180 s) (eighth_is y x true false l flat)

  steep-is : v ≡ 0 → Meets y x (eighth_of y x)
  steep-is e = go (lt x plus_zero) refl
    where
      u0 : 0 < u
      u0 = some u v d.some e
        where
          some : (u v : ℕ) → 0 < u + v → v ≡ 0 → 0 < u
          some u v h e = omega arith

      steep : lt (abs_of x) (abs_of y) ≡ true
      steep = is-steep y x hy hx (subst (λ (z : ℕ). z < u) (sym e) u0)

      go : (l : Bool) → lt x plus_zero ≡ l → Meets y x (eighth_of y x)
      go false l = exactly false (fin s 45 (pos 1)) t90 u 0 l refl e (axis_up y x d e) (p90 s) (axis_2 s false u u0) 1 (in_90 s) (eighth_is y x false true l steep)
      go true l = exactly true (fin s 45 (pos 1)) t90 u 0 l refl e (axis_up y x d e) (p90 s) (axis_2 s true u u0) 2 (past_90 s) (eighth_is y x true true l steep)

  even_is : u ≡ v → 0 < v → Meets y x (eighth_of y x)
  even_is e v0 = go (lt x plus_zero) refl
    where
      flat : lt (abs_of x) (abs_of y) ≡ false
      flat = is-flat y x hy hx (same u v e)
        where
          same : (u v : ℕ) → u ≡ v → u ≤ v
          same u v e = omega arith

      go : (l : Bool) → lt x plus_zero ≡ l → Meets y x (eighth_of y x)
      go false l = exactly false (fin s 45 (pos 0)) t45 v v l e refl (diagonal_right y x d e l) (p45 s) (diagonal_1 s v v0) 0 (in_45 s) (eighth_is y x false false l flat)
      go true l = exactly true (fin s 135 (pos 0)) t135 v v l e refl (diagonal_left y x d e l) (p135 s) (diagonal_2 s v v0) 3 (in_135 s) (eighth_is y x true false l flat)

  slanted_is : 0 < u → 0 < v → (u ≡ v → ⊥) → Meets y x (eighth_of y x)
  slanted_is u0 v0 n = go (dec_lt (16 * u) (7 * v)) (dec_lt (16 * u) (39 * v))
    where
      at_low : Low u v → Meets y x (eighth_of y x)
      at_low w = subst (λ (e : ℕ). Meets y x e) (eighth_is y x (lt x plus_zero) false refl (is-flat y x hy hx w.flat)) (low y x hy hx u0 v0 w)

      at_high : High u v → Meets y x (eighth_of y x)
      at_high w = subst (λ (e : ℕ). Meets y x e) (eighth_is y x (lt x plus_zero) true refl (is-steep y x hy hx w.steep)) (high y x hy hx u0 v0 w)

      go : Dec (16 * u < 7 * v) → Dec (16 * u < 39 * v) → Meets y x (eighth_of y x)
      go (yes a) b = at_low (first-low u v u0 (halves-few x) a)
      go (no a) (no b) = at_high (steep-high u v v0 (halves-few y) (omega arith))
      go (no a) (yes b) = ⊎_elim at_low at_high (between u v v0 (halves-few x) (halves-few y) (omega arith) b n)

  all : Meets y x (eighth_of y x)
  all = go (dec_lt 0 u) (dec_lt 0 v) (dec_lt u v) (dec_lt v u)
    where
      none : (n : ℕ) → (0 < n → ⊥) → n ≡ 0
      none n h = omega arith

      same : (m n : ℕ) → (m < n → ⊥) → (n < m → ⊥) → m ≡ n
      same m n h k = omega arith

      less : (m n : ℕ) → m < n → m ≡ n → ⊥
      less m n h e = omega arith

      more : (m n : ℕ) → n < m → m ≡ n → ⊥
      more m n h e = omega arith

      go : Dec (0 < u) → Dec (0 < v) → Dec (u < v) → Dec (v < u) → Meets y x (eighth_of y x)
      go (no a) b c e = flat-is (none u a)
      go (yes a) (no b) c e = steep-is (none v b)
      go (yes a) (yes b) (no c) (no e) = even_is (same u v c e) b
      go (yes a) (yes b) (yes c) e = slanted_is a b (less u v c)
      go (yes a) (yes b) (no c) (yes e) = slanted_is a b (more u v e)

  -- the eighth of a turn that the answer lies in
  pub in_eighth : InEighth s (eighth_of y x) (arctangent_of y x)
  in_eighth = all.1

  pub in_turns : InTurn (arctangent_of y x)
  in_turns =
      in_turn (arctangent_of y x) s in_eighth.parts
      (go (lt x plus_zero) (lt (abs_of x) (abs_of y)) in_eighth.parts D in_eighth.high) in_eighth.val
    where
      go : (l t : Bool) (r k : ℕ) → r ≤ 45 * (cond l (cond t 2 3) (cond t 1 0) + 1) * k → r ≤ 180 * k
      go true true r k h = omega arith
      go true false r k h = omega arith
      go false true r k h = omega arith
      go false false r k h = omega arith

  pub asked : Arctangent y x (arctangent_of y x)
  asked = record {
    low = in_turns.0;
    high = in_turns.1;
    along = all.0;
    axis_right = axis_right y x d;
    axis_left = axis_left y x d;
    axis_up = axis_up y x d;
    diagonal_right = diagonal_right y x d;
    diagonal_left = diagonal_left y x d;
  }
