-- The quarters that are taken off are the nearest: no f32 is so near to the middle between two that the roundings could matter, nor so
-- near to a right angle that the rest's sign could. A test computed for each. Assumes nothing.
use Rattle.std.proofs.Common.{◌≡◌, ℕ, zero, suc, ◌+◌, ◌-◌, ◌*◌, ◌/◌, ◌%◌, ◌^◌, ◌<◌, ◌≤◌, Bool, true, false, not, ◌&&◌, T, leb, ◌⊎◌, List, [], ◌∷◌, sym, refl, ap, ◌∙◌, subst, inl, inr, mul-le-mul_right, mul-lt-mul_of_pos_right, div-add-mod', le_of_mul-le-mul_right, arith, lit<, leb→le}
use lib.Dec.{nleb→lt}
use Rattle.angle.specs.Meaning.{D, H}
use Rattle.angle.proofs.Every.{both_left, both_right, every, at}
use Rattle.angle.proofs.Placing.{Beside}
use Rattle.angle.proofs.sine.Units.{step}

-- H is a whole number of 2 ^ -60ths
unfoldable grain : ℕ
grain = 2 ^ 89

grain_pos : 0 < grain
unfolding grain
grain_pos = lit< tt

step_is : step ≡ 16384 * grain
unfolding step grain
step_is = refl

abbrev h_grains : ℕ
h_grains = 0x1921_FB54_442D_1846

H-is : H ≡ h_grains * grain
unfolding H grain
H-is = refl

-- ---- twice an f32 from a half on is a multiple of 2 ^ 37 grains, and i + 1 right angles are 2 ^ 18 or more from each
clear : ℕ → ℕ → Bool
clear i z = let v = suc i * h_grains % 0x20_0000_0000 in leb 0x4_0000 v && leb v 0x1F_FFFC_0000

zeros : ℕ → List ℕ
zeros zero = []
zeros (suc n) = 0 ∷ zeros n

all_clear : T (every clear 0 (zeros 35))
unfolding clear zeros
all_clear = tt

abbrev Apart : ℕ → ℕ → Type 0
Apart c i = (c * 0x20_0000_0000 + 0x4_0000 ≤ suc i * h_grains) ⊎ (suc i * h_grains + 0x4_0000 ≤ c * 0x20_0000_0000)

gap : (c i : ℕ) → i < 35 → Apart c i
unfolding clear zeros
gap c i l =
    let n = suc i * h_grains in
    let v = n % 0x20_0000_0000 in
    let t = at clear (zeros 35) all_clear i l in
    go (n / 0x20_0000_0000) v n (div-add-mod' n 0x20_0000_0000) (leb→le 0x4_0000 v (both_left (leb 0x4_0000 v) (leb v 0x1F_FFFC_0000) t))
    (leb→le v 0x1F_FFFC_0000 (both_right (leb 0x4_0000 v) (leb v 0x1F_FFFC_0000) t))
  where
    go : (u v n : ℕ) → u * 0x20_0000_0000 + v ≡ n → 0x4_0000 ≤ v → v ≤ 0x1F_FFFC_0000 → (c * 0x20_0000_0000 + 0x4_0000 ≤ n) ⊎ (n + 0x4_0000 ≤ c * 0x20_0000_0000)
    go u v n e a b = side (leb c u) (leb→le c u) (nleb→lt c u)
      where
        side : (d : Bool) → (T d → c ≤ u) → (T (not d) → u < c) → (c * 0x20_0000_0000 + 0x4_0000 ≤ n) ⊎ (n + 0x4_0000 ≤ c * 0x20_0000_0000)
        side true f g = let h = f tt in inl (omega arith)
        side false f g = let h = g tt in inr (omega arith)

-- ---- y is what is left of x by j right angles, or by which they are more
pub record Found (x j : ℕ) : Type 0 where
  pub y : ℕ
  pub b : Bool
  pub beside : Beside b x j y
  pub half : 2 * y < H
  pub far : 8 * step ≤ y

-- in grains: x is X of them
module _ (X j Y : ℕ) (h : 2 * Y < h_grains) (f : 0x2_0000 ≤ Y) where
  half-y : 2 * (Y * grain) < H
  half-y = subst (λ (z : ℕ). 2 * (Y * grain) < z) (sym H-is) (omega (arith, mul-lt-mul_of_pos_right h grain_pos))

  far-y : 8 * step ≤ Y * grain
  far-y = subst (λ (z : ℕ). 8 * z ≤ Y * grain) (sym step_is) (omega (arith, mul-le-mul_right grain f))

  past : Y + j * h_grains ≡ X → Found (X * grain) j
  past e = record {
    y = Y * grain;
    b = false;
    beside = subst (λ (z : ℕ). Y * grain + j * z ≡ X * grain) (sym H-is) (omega (arith, ap (λ (z : ℕ). z * grain) e));
    half = half-y;
    far = far-y;
  }

  before : Y + X ≡ j * h_grains → Found (X * grain) j
  before e = record {
    y = Y * grain;
    b = true;
    beside = subst (λ (z : ℕ). Y * grain + X * grain ≡ j * z) (sym H-is) (omega (arith, ap (λ (z : ℕ). z * grain) e));
    half = half-y;
    far = far-y;
  }

abbrev Few : ℕ → ℕ → Type 0
Few X j = (2 * (j * h_grains) ≤ 2 * X + h_grains + 0x8000) × (2 * X ≤ 2 * (j * h_grains) + h_grains + 0x8000)

-- from a half on
on_grid : (c j : ℕ) → j ≤ 17 → 0x2_0000 ≤ c * 0x10_0000_0000 → Few (c * 0x10_0000_0000) j → Found (c * 0x10_0000_0000 * grain) j
on_grid c zero l o (a, b) = go (gap c 0 (lit< tt))
  where
    go : Apart c 0 → Found (c * 0x10_0000_0000 * grain) 0
    go (inl h) = past (c * 0x10_0000_0000) 0 (c * 0x10_0000_0000) (omega arith) o (omega arith)
    go (inr h) = absurd (no c b h)
      where
        no : (c : ℕ) → 2 * (c * 0x10_0000_0000) ≤ 2 * (0 * h_grains) + h_grains + 0x8000 → 1 * h_grains + 0x4_0000 ≤ c * 0x20_0000_0000 → ⊥
        no c b h = omega arith
on_grid c (suc i) l o (a, b) = go (gap c (2 * i) (omega arith)) (gap c (2 * i + 1) (omega arith)) (gap c (2 * i + 2) (omega arith))
  where
    go : Apart c (2 * i) → Apart c (2 * i + 1) → Apart c (2 * i + 2) → Found (c * 0x10_0000_0000 * grain) (suc i)
    go (inl h) m t = absurd (no h a)
      where
        no : c * 0x20_0000_0000 + 0x4_0000 ≤ suc (2 * i) * h_grains → 2 * (suc i * h_grains) ≤ 2 * (c * 0x10_0000_0000) + h_grains + 0x8000 → ⊥
        no h a = omega arith
    go (inr h) m (inr t) = absurd (no t b)
      where
        no : suc (2 * i + 2) * h_grains + 0x4_0000 ≤ c * 0x20_0000_0000 → 2 * (c * 0x10_0000_0000) ≤ 2 * (suc i * h_grains) + h_grains + 0x8000 → ⊥
        no t b = omega arith
    go (inr h) (inl m) (inl t) = before (c * 0x10_0000_0000) (suc i) (suc i * h_grains - c * 0x10_0000_0000) (omega arith) (omega arith) (omega arith)
    go (inr h) (inr m) (inl t) = past (c * 0x10_0000_0000) (suc i) (c * 0x10_0000_0000 - suc i * h_grains) (omega arith) (omega arith) (omega arith)

-- ---- the angle x, in D-ths
abbrev Around : ℕ → ℕ → Type 0
Around x j = (2 * (j * H) ≤ 2 * x + H + 2 * step) × (2 * x ≤ 2 * (j * H) + H + 2 * step)

around_grains : (x j : ℕ) → Around x j → (2 * (j * (h_grains * grain)) ≤ 2 * x + h_grains * grain + 2 * (16384 * grain)) × (2 * x ≤ 2 * (j * (h_grains * grain)) + h_grains * grain + 2 * (16384 * grain))
around_grains x j a =
    subst (λ (z : ℕ). (2 * (j * (h_grains * grain)) ≤ 2 * x + h_grains * grain + 2 * z) × (2 * x ≤ 2 * (j * (h_grains * grain)) + h_grains * grain + 2 * z)) step_is
    (subst (λ (z : ℕ). (2 * (j * z) ≤ 2 * x + z + 2 * step) × (2 * x ≤ 2 * (j * z) + z + 2 * step)) H-is a)

D-grains : D ≡ 0x1000_0000_0000_0000 * grain
unfolding D grain
D-grains = refl

-- below a half no quarter is taken off
below_half : (x g : ℕ) → x < 2 ^ 45 * (16384 * g) → 2 * x < h_grains * g
below_half x g h = omega arith

some_way : (x g : ℕ) → 0x1000_0000_0000_0000 * g ≤ x * 4096 → 8 * (16384 * g) ≤ x
some_way x g h = omega arith

no_quarter : (x i g : ℕ) → 2 * (suc i * (h_grains * g)) ≤ 2 * x + h_grains * g + 2 * (16384 * g) → x < 2 ^ 45 * (16384 * g) → 0 < g → ⊥
no_quarter x i g k h p = omega arith

module _ (x j : ℕ) (l : x ≤ 26 * D) (big : D ≤ x * 4096) (a : Around x j) where
  abbrev g : ℕ
  g = grain

  few_j : j ≤ 17
  few_j = tight (lt_of (around_grains x j a).0 (subst (λ (z : ℕ). x ≤ 26 * z) D-grains l))
    where
      lt_of : 2 * (j * (h_grains * grain)) ≤ 2 * x + h_grains * grain + 2 * (16384 * grain) → x ≤ 26 * (0x1000_0000_0000_0000 * grain) → 2 * (j * h_grains) ≤ 52 * 0x1000_0000_0000_0000 + h_grains + 32768
      lt_of h k = le_of_mul-le-mul_right {k = grain} (omega arith) grain_pos

      tight : 2 * (j * h_grains) ≤ 52 * 0x1000_0000_0000_0000 + h_grains + 32768 → j ≤ 17
      tight h = omega arith

  low : x < 2 ^ 45 * step → Found x j
  low h = go j (around_grains x j a).0 (subst (λ (z : ℕ). x < 2 ^ 45 * z) step_is h)
    where
      go : (j : ℕ) → 2 * (j * (h_grains * grain)) ≤ 2 * x + h_grains * grain + 2 * (16384 * grain) → x < 2 ^ 45 * (16384 * grain) → Found x j
      go zero k h = record {
        y = x;
        b = false;
        beside = omega arith;
        half = subst (λ (z : ℕ). 2 * x < z) (sym H-is) (below_half x grain h);
        far = subst (λ (z : ℕ). 8 * z ≤ x) (sym step_is) (some_way x grain (subst (λ (z : ℕ). z ≤ x * 4096) D-grains big));
      }
      go (suc i) k h = absurd (no_quarter x i grain k h grain_pos)

  high : (c : ℕ) → x ≡ c * 2 ^ 22 * step → Found x j
  high c e =
      subst (λ (z : ℕ). Found z j) (sym whole)
      (on_grid c j few_j (le_of_mul-le-mul_right {k = grain} (enough grain (subst (λ (z : ℕ). z ≤ x * 4096) D-grains big) whole) grain_pos)
      (le_of_mul-le-mul_right {k = grain} (up' grain (around_grains x j a).0 whole) grain_pos, le_of_mul-le-mul_right {k = grain} (down' grain (around_grains x j a).1 whole) grain_pos))
    where
      whole : x ≡ c * 0x10_0000_0000 * grain
      whole = e ∙ ap (λ (z : ℕ). c * 2 ^ 22 * z) step_is ∙ omega arith

      enough : (g : ℕ) → 0x1000_0000_0000_0000 * g ≤ x * 4096 → x ≡ c * 0x10_0000_0000 * g → 0x2_0000 * g ≤ c * 0x10_0000_0000 * g
      enough g h e = omega arith

      up' : (g : ℕ) → 2 * (j * (h_grains * g)) ≤ 2 * x + h_grains * g + 2 * (16384 * g) → x ≡ c * 0x10_0000_0000 * g → 2 * (j * h_grains) * g ≤ (2 * (c * 0x10_0000_0000) + h_grains + 0x8000) * g
      up' g h e = omega arith

      down' : (g : ℕ) → 2 * x ≤ 2 * (j * (h_grains * g)) + h_grains * g + 2 * (16384 * g) → x ≡ c * 0x10_0000_0000 * g → 2 * (c * 0x10_0000_0000) * g ≤ (2 * (j * h_grains) + h_grains + 0x8000) * g
      down' g h e = omega arith

  pub found : ((c : ℕ) × (x ≡ c * 2 ^ 22 * step)) ⊎ (x < 2 ^ 45 * step) → Found x j
  found (inl (c, e)) = high c e
  found (inr h) = low h
