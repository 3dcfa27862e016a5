-- A fraction a / d, moved from zero by a part in 2 ^ 40, rounded to an f64 and added to 3 * 2 ^ 51 + 2 ^ 31: the sum's bits end in
-- a / d rounded, halves away from zero. Assumes nothing.
use Rattle.std.proofs.Common.{◌≡◌, ℕ, zero, suc, ◌+◌, ◌-◌, ◌*◌, ◌/◌, ◌^◌, ◌<◌, ◌≤◌, Bool, false, T, ◌⊎◌, ℤ, pos, negsuc, sym, refl, ap, ◌∙◌, subst, inl, inr, le_trans, lt_of_lt_of_le, lt_irrefl, mul-le-mul_right, mul_comm, lt_of_mul-lt-mul_right, mul-le-mul_left, mul-lt-mul_of_pos_right, mul-pos, pow-suc, le-div_iff_mul-le, mul-one, div-mul-le_self, arith, lit<, lit≤, pow_pos, pow-add}
use native.Mathlib.Nat.{eq_of_mul-eq-mul_right}
use native.Mathlib.Nat.{lt-div-mul-add}
use lib.Ieee.{Float, nan, inf, fin, binary32, binary64, up, down, size, round, fits}
use lib.Ieee.Fits.{round_is}
use lib.Ieee.Digits.{size_reaches}
use lib.Ieee.Exact.{HasValue, units_val, round_exact}
use lib.Ieee.Nearest.{closest}
use lib.Ieee.Order.{drop, kept}
use lib.Ieee.Scale.{grid, overflow, normal_of_fraction}
use Rattle.floats.proofs.Closest.{Within, closest_within}
use Rattle.floats.proofs.Powers.{few}

-- ---- the f64 nearest to n / c of the smallest values, which has all its digits, is within a part in 2 ^ 53
module _ (a c : ℕ) (C : 0 < c) (normal : 2 ^ 52 * c ≤ a * 2 ^ 1074) where
  abbrev n : ℕ
  n = a * 2 ^ 1074

  abbrev k : ℕ
  k = drop 53 n c

  abbrev u : ℕ
  u = c * 2 ^ k

  full : 52 + k < size (n / c)
  full = go (size (n / c)) (normal_of_fraction binary64 a c C normal)
    where
      go : (z : ℕ) → 53 ≤ z → 52 + (z - 53) < z
      go z h = omega arith

  unit_few : 2 ^ 52 * u ≤ n
  unit_few = subst (λ (x : ℕ). x ≤ n) (ap (λ (x : ℕ). x * c) (pow-add 2 52 k) ∙ turn (2 ^ k) c) ((le-div_iff_mul-le C).0 (size_reaches (n / c) (52 + k) full))
    where
      turn : (p c : ℕ) → 2 ^ 52 * p * c ≡ 2 ^ 52 * (c * p)
      turn p c = omega arith

  within : Within (grid binary64 a c * c) n u
  within = subst (λ (x : ℕ). Within x n u) (turn (closest n u) c (2 ^ k)) (closest_within n u (mul-pos C (pow_pos k)))
    where
      turn : (x c p : ℕ) → x * (c * p) ≡ x * p * c
      turn x c p = omega arith

  pub grid_hi : 2 ^ 53 * (grid binary64 a c * c) ≤ 2 ^ 53 * n + n
  grid_hi = go (grid binary64 a c * c) n u within.0 unit_few
    where
      go : (g n u : ℕ) → g * 2 ≤ n * 2 + u → 2 ^ 52 * u ≤ n → 2 ^ 53 * g ≤ 2 ^ 53 * n + n
      go g n u h i = omega arith

  pub grid_lo : 2 ^ 53 * n ≤ 2 ^ 53 * (grid binary64 a c * c) + n
  grid_lo = go (grid binary64 a c * c) n u within.1 unit_few
    where
      go : (g n u : ℕ) → n * 2 ≤ g * 2 + u → 2 ^ 52 * u ≤ n → 2 ^ 53 * n ≤ 2 ^ 53 * g + n
      go g n u h i = omega arith

pub grid_val : (s : Bool) (a c : ℕ) → grid binary64 a c < overflow binary64 → HasValue (round binary64 s a c) s (grid binary64 a c) (2 ^ 1074)
grid_val s a c h =
    subst (λ (z : Float). HasValue z s (grid binary64 a c) (2 ^ 1074)) (sym (round_is binary64 s a c))
    (units_val binary64 s (kept 53 (a * 2 ^ 1074) c) (drop 53 (a * 2 ^ 1074) c) h)

-- ---- a / d rounded
abbrev pub rounds : ℕ → ℕ → ℕ
rounds a d = (2 * a + d) / (2 * d)

-- what an f32 below 2 ^ 31 can be: whole, or of few digits
abbrev pub Kind : ℕ → ℕ → Type 0
Kind a d = ((d ≡ 1) × (a < 2 ^ 31)) ⊎ ((h : ℕ) × (d ≡ 2 * h) × (a < 2 ^ 24))

pub kind : (s : Bool) (m : ℕ) (e : ℤ) → T (fits binary32 (fin s m e)) → m * up e < 2 ^ 31 * down e → Kind (m * up e) (down e)
kind s m (pos i) f l = inl (refl, omega arith)
kind s m (negsuc i) f l = inr (2 ^ i, pow-suc 2 i ∙ mul_comm (2 ^ i) 2, omega (arith, few binary32 s m (negsuc i) f))

module _ (a d : ℕ) (dp : 0 < d) where
  abbrev R : ℕ
  R = rounds a d

  R-lo : R * (2 * d) ≤ 2 * a + d
  R-lo = div-mul-le_self (2 * a + d) (2 * d)

  R-hi : 2 * a + d < R * (2 * d) + 2 * d
  R-hi = lt-div-mul-add {a = 2 * a + d} (omega arith)

  pub few_rounds : Kind a d → R < 2 ^ 31
  few_rounds (inl (e, l)) = lt_of_mul-lt-mul_right 2 (go R d e R-lo)
    where
      go : (r d : ℕ) → d ≡ 1 → r * (2 * d) ≤ 2 * a + d → r * 2 < 2 ^ 31 * 2
      go r d e h = omega (arith, ap (λ (z : ℕ). r * z) e)
  few_rounds (inr (h, e, l)) = lt_of_mul-lt-mul_right d (go R d h e dp R-lo)
    where
      go : (r d h : ℕ) → d ≡ 2 * h → 0 < d → r * (2 * d) ≤ 2 * a + d → r * d < 2 ^ 31 * d
      go r d h e p i = omega arith

  -- g / U lies a little further from zero than a / d
  module _ (g U : ℕ) (UP : 0 < U) (more : 0 < a → a * U < g * d) (less : 2 ^ 33 * (g * d) ≤ 2 ^ 33 * (a * U) + a * U) where
    pub low-side : (b : ℕ) → a ≡ b → 2 * (R * U) < 2 * g + U
    low-side zero e = go R (R-none R R-lo)
      where
        R-none : (r : ℕ) → r * (2 * d) ≤ 2 * a + d → r ≡ 0
        R-none zero h = refl
        R-none (suc r) h = absurd (no r)
          where
            no : (r : ℕ) → ⊥
            no r = omega arith

        go : (r : ℕ) → r ≡ 0 → 2 * (r * U) < 2 * g + U
        go r f = omega (arith, ap (λ (z : ℕ). z * U) f)
    low-side (suc b) e = lt_of_mul-lt-mul_right d (go R (more (omega arith)) (mul-le-mul_right U R-lo))
      where
        go : (r : ℕ) → a * U < g * d → r * (2 * d) * U ≤ (2 * a + d) * U → 2 * (r * U) * d < (2 * g + U) * d
        go r h i = omega arith

    pub high-side : Kind a d → 2 * g < 2 * (R * U) + U
    high-side (inl (e, l)) = go R d e R-hi R-lo less
      where
        last : (g y : ℕ) → y < 2 ^ 31 * U → 2 ^ 33 * g ≤ 2 ^ 33 * y + y → 2 * g < 2 * y + U
        last g y h i = omega arith

        go : (r d : ℕ) → d ≡ 1 → 2 * a + d < r * (2 * d) + 2 * d → r * (2 * d) ≤ 2 * a + d → 2 ^ 33 * (g * d) ≤ 2 ^ 33 * (a * U) + a * U → 2 * g < 2 * (r * U) + U
        go r d e h i j =
            let same : r ≡ a = omega (arith, ap (λ (z : ℕ). r * z) e) in
            last g (r * U) (subst (λ (z : ℕ). z * U < 2 ^ 31 * U) (sym same) (mul-lt-mul_of_pos_right l UP))
            (subst (λ (z : ℕ). 2 ^ 33 * g ≤ 2 ^ 33 * (z * U) + z * U) (sym same) (subst (λ (z : ℕ). 2 ^ 33 * z ≤ 2 ^ 33 * (a * U) + a * U) (ap (λ (z : ℕ). g * z) e ∙ mul-one g) j))
    high-side (inr (h, e, l)) = lt_of_mul-lt-mul_right h (go R d e (mul-le-mul_right U (over R d e R-hi)) (mul-le-mul_right U l) less (mul-pos UP (half d h e dp)))
      where
        half : (d h : ℕ) → d ≡ 2 * h → 0 < d → 0 < h
        half d h e p = omega arith

        over : (r d : ℕ) → d ≡ 2 * h → 2 * a + d < r * (2 * d) + 2 * d → a + 1 ≤ (2 * r + 1) * h
        over r d e i = omega (arith, ap (λ (z : ℕ). r * z) e)

        last : (A Y w G : ℕ) → A + U ≤ 2 * Y + w → A ≤ 2 ^ 24 * U → 2 ^ 33 * (2 * G) ≤ 2 ^ 33 * A + A → 2 * G < 2 * Y + w
        last A Y w G i j k' = omega arith

        go : (r d : ℕ) → d ≡ 2 * h → (a + 1) * U ≤ (2 * r + 1) * h * U → suc a * U ≤ 2 ^ 24 * U → 2 ^ 33 * (g * d) ≤ 2 ^ 33 * (a * U) + a * U → 0 < U * h
            → 2 * g * h < (2 * (r * U) + U) * h
        go r d e i j k' p = turn (last (a * U) (r * U * h) (U * h) (g * h) (omega arith) (omega arith) (omega (arith, ap (λ (z : ℕ). g * z) e)))
          where
            turn : 2 * (g * h) < 2 * (r * U * h) + U * h → 2 * g * h < (2 * (r * U) + U) * h
            turn x = omega arith

-- ---- the product
-- 1 and a part in 2 ^ 40
abbrev pub nudge : Float
nudge = fin false 0x100_0000_0001 (negsuc 39)

-- y has the sign s, and lies between the halves around a / d rounded
pub record Nudge (y : Float) (s : Bool) (a d : ℕ) : Type 0 where
  pub g : ℕ
  pub is : HasValue y s g (2 ^ 1074)
  pub lo : 2 * (rounds a d * 2 ^ 1074) < 2 * g + 2 ^ 1074
  pub hi : 2 * g < 2 * (rounds a d * 2 ^ 1074) + 2 ^ 1074

-- A and G are a / d and g / U, times d * U
few-parts : (A : ℕ) → 0x100_0000_0001 * A ≤ 2 ^ 44 * A
few-parts A = omega arith

half-below : (N C A : ℕ) → 2 ^ 53 * N ≤ 2 ^ 53 * C + N → N ≤ 2 ^ 44 * A → 2 * N ≤ 2 * C + A
half-below N C A h i = omega arith

just_above : (N C A : ℕ) → 2 ^ 53 * C ≤ 2 ^ 53 * N + N → N ≤ 2 ^ 44 * A → C ≤ N + A
just_above N C A h i = omega arith

farther_by : (A G : ℕ) → 0 < A → 2 * (0x100_0000_0001 * A) ≤ 2 * (0x100_0000_0000 * G) + A → A < G
farther_by A G h i = omega arith

nearer_by : (A G : ℕ) → 0x100_0000_0000 * G ≤ 0x100_0000_0001 * A + A → 2 ^ 33 * G ≤ 2 ^ 33 * A + A
nearer_by A G h = omega arith

bounded_by : (A G W : ℕ) → 2 ^ 33 * G ≤ 2 ^ 33 * A + A → A ≤ 2 ^ 31 * W → 0 < W → G < 2 ^ 33 * W
bounded_by A G W h i j = omega arith

farther : (A G : ℕ) → 0 < A → 2 ^ 53 * (0x100_0000_0001 * A) ≤ 2 ^ 53 * (0x100_0000_0000 * G) + 0x100_0000_0001 * A → A < G
farther A G h i = farther_by A G h (half-below (0x100_0000_0001 * A) (0x100_0000_0000 * G) A i (few-parts A))

nearer : (A G : ℕ) → 2 ^ 53 * (0x100_0000_0000 * G) ≤ 2 ^ 53 * (0x100_0000_0001 * A) + 0x100_0000_0001 * A → 2 ^ 33 * G ≤ 2 ^ 33 * A + A
nearer A G i = nearer_by A G (just_above (0x100_0000_0001 * A) (0x100_0000_0000 * G) A i (few-parts A))

module _ (s : Bool) (a d : ℕ) (dp : 0 < d) (deep : d ≤ 2 ^ 149) (l : a < 2 ^ 31 * d) (z : Kind a d) where
  abbrev num : ℕ
  num = a * (0x100_0000_0001 * 1)

  abbrev den : ℕ
  den = d * 0x100_0000_0000

  den_pos : 0 < den
  den_pos = omega arith

  U_pos : 0 < 2 ^ 1074
  U_pos = pow_pos 1074

  made : (g : ℕ) → HasValue (round binary64 s num den) s g (2 ^ 1074) → (0 < a → a * 2 ^ 1074 < g * d) → 2 ^ 33 * (g * d) ≤ 2 ^ 33 * (a * 2 ^ 1074) + a * 2 ^ 1074
      → Nudge (round binary64 s num den) s a d
  made g v m n = record { g = g; is = v; lo = low-side a d dp g (2 ^ 1074) U_pos m n a refl; hi = high-side a d dp g (2 ^ 1074) U_pos m n z }

  some : 0 < a → Nudge (round binary64 s num den) s a d
  some h =
      made G (grid_val s num den (lt_of_lt_of_le (under (2 ^ 1074) U_pos nears) (lit≤ tt)))
      (λ (t : 0 < a). farther (a * 2 ^ 1074) (G * d) (mul-pos h U_pos) (turn_lo (2 ^ 1074) (grid_lo num den den_pos normal))) nears
    where
      G : ℕ
      G = grid binary64 num den

      small : 2 ^ 52 * (2 ^ 149 * 0x100_0000_0000) ≤ 1 * 2 ^ 1074
      small = lit≤ tt

      one-part : 1 ≤ num
      one-part = omega arith

      normal : 2 ^ 52 * den ≤ num * 2 ^ 1074
      normal = le_trans (mul-le-mul_left (2 ^ 52) (mul-le-mul_right 0x100_0000_0000 deep)) (le_trans small (mul-le-mul_right (2 ^ 1074) one-part))

      turn_lo : (U : ℕ) → 2 ^ 53 * (num * U) ≤ 2 ^ 53 * (G * den) + num * U → 2 ^ 53 * (0x100_0000_0001 * (a * U)) ≤ 2 ^ 53 * (0x100_0000_0000 * (G * d)) + 0x100_0000_0001 * (a * U)
      turn_lo U h = omega arith

      turn_hi : (U : ℕ) → 2 ^ 53 * (G * den) ≤ 2 ^ 53 * (num * U) + num * U → 2 ^ 53 * (0x100_0000_0000 * (G * d)) ≤ 2 ^ 53 * (0x100_0000_0001 * (a * U)) + 0x100_0000_0001 * (a * U)
      turn_hi U h = omega arith

      nears : 2 ^ 33 * (G * d) ≤ 2 ^ 33 * (a * 2 ^ 1074) + a * 2 ^ 1074
      nears = nearer (a * 2 ^ 1074) (G * d) (turn_hi (2 ^ 1074) (grid_hi num den den_pos normal))

      under : (U : ℕ) → 0 < U → 2 ^ 33 * (G * d) ≤ 2 ^ 33 * (a * U) + a * U → G < 2 ^ 33 * U
      under U p h = lt_of_mul-lt-mul_right d (turn (bounded_by (a * U) (G * d) (d * U) h (room (mul-le-mul_right U l)) (mul-pos dp p)))
        where
          turn : G * d < 2 ^ 33 * (d * U) → G * d < 2 ^ 33 * U * d
          turn i = omega arith

          room : suc a * U ≤ 2 ^ 31 * d * U → a * U ≤ 2 ^ 31 * (d * U)
          room i = omega arith

  -- a zero stays one
  none : a ≡ 0 → Nudge (round binary64 s num den) s a d
  none e = made 0 (zero_val (round binary64 s num den) (round_exact binary64 s num den 0 0 den_pos (lit< tt) (lit< tt) (nil (2 ^ 1074)))) (λ (t : 0 < a). no t) (none_less (2 ^ 1074))
    where
      no : 0 < a → a * 2 ^ 1074 < 0 * d
      no t = absurd (lt_irrefl 0 (subst (λ (k : ℕ). 0 < k) e t))

      none_less : (U : ℕ) → 2 ^ 33 * (0 * d) ≤ 2 ^ 33 * (a * U) + a * U
      none_less U = omega arith

      nil : (U : ℕ) → num * U ≡ 0 * 1 * den
      nil U = omega (arith, ap (λ (k : ℕ). k * U) e)

      zero_val : (y : Float) → HasValue y s num den → HasValue y s 0 (2 ^ 1074)
      zero_val nan v = absurd v
      zero_val (inf t) v = absurd v
      zero_val (fin t m o) v = (v.0, go (m * up o) (down o) (2 ^ 1074) (first (m * up o) (down o) v.1))
        where
          first : (b c : ℕ) → b * den ≡ num * c → b * den ≡ 0 * den
          first b c h = omega (arith, ap (λ (k : ℕ). k * c) e)

          plain : (U c : ℕ) → 0 * U ≡ 0 * c
          plain U c = omega arith

          go : (b c U : ℕ) → b * den ≡ 0 * den → b * U ≡ 0 * c
          go b c U h = ap (λ (k : ℕ). k * U) (eq_of_mul-eq-mul_right den den_pos b 0 h) ∙ plain U c

  pub nudged : Nudge (round binary64 s num den) s a d
  nudged = go a refl
    where
      go : (b : ℕ) → a ≡ b → Nudge (round binary64 s num den) s a d
      go zero e = none e
      go (suc b) e = some (omega arith)
