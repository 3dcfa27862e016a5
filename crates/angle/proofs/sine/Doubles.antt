-- Products, sums and differences of f64 below 64 in size, in E-ths: each rounds by `tiny` at most, which is 2 ^ -48.
-- Assumes nothing.
use Rattle.std.proofs.Common.{◌≡◌, ℕ, ◌+◌, ◌-◌, ◌*◌, ◌/◌, ◌%◌, ◌^◌, ◌<◌, ◌≤◌, Bool, true, false, cond, not, ◌&&◌, T, ltb, leb, ℤ, pos, sym, refl, ap, subst, true≢false, le_trans, lt_of_lt_of_le, le_of_lt, mul-le-mul_right, mul_assoc, mul_comm, div-lt_iff_lt-mul, lt_of_mul-lt-mul_right, mul-le-mul_left, mul-lt-mul_of_pos_right, mul-pos, one-mul, lt_of_not-le, le-div_iff_mul-le, sub-add_cancel, not-le_of_lt, div-mul-le_self, le_of_mul-le-mul_right, arith, lit<, lit≤, leb→le, pow_pos, pow_mono, le-ltb, lt-ltb}
use Prim.Native.Nat.{compare}
use lib.Dec.{nleb→lt}
use lib.Ieee.{Float, nan, inf, fin, binary64, up, down, size, round, sum, mul, add, sub, neg, lt, eq, le, fits}
use lib.Ieee.Fits.{down_pos, round_is}
use lib.Ieee.Digits.{size-le, size-lt, size_reaches}
use lib.Ieee.Exact.{HasValue, units_val}
use lib.Ieee.Nearest.{closest, nearest-ge}
use lib.Ieee.Order.{drop, kept, round_mono}
use lib.Ieee.Scale.{grid, overflow}
use Rattle.floats.proofs.Range.{le_yes}
use Rattle.floats.proofs.Powers.{times_pow}
use Rattle.floats.proofs.Closest.{Within, closest_within, wider}

-- a and b are e apart at most
pub record Near (a b e : ℕ) : Type 0 where
  pub hi : a ≤ b + e
  pub lo : b ≤ a + e

-- what stands for 1
unfoldable pub E : ℕ
E = 2 ^ 1074

unfoldable pub tiny : ℕ
tiny = 2 ^ 1026

pub E-tiny : E ≡ 0x1_0000_0000_0000 * tiny
unfolding E tiny
E-tiny = refl

pub E_pos : 0 < E
unfolding E
E_pos = lit< tt

-- x is g E-ths, with the sign s
abbrev pub Signed : Float → Bool → ℕ → Type 0
Signed x s g = HasValue x s g (2 ^ 1074)

abbrev pub Val : Float → ℕ → Type 0
Val x g = Signed x false g

-- ---- one rounding
dropped : (n c : ℕ) → 0 < c → n < 2 ^ 1080 * c → drop 53 n c ≤ 1027
dropped n c C h = let s : size (n / c) ≤ 1080 = size-le (n / c) 1080 ((div-lt_iff_lt-mul C).1 h) in omega arith

within : (a c : ℕ) → 0 < c → a * 2 ^ 1074 < 2 ^ 1080 * c → Within (grid binary64 a c * c) (a * 2 ^ 1074) (c * 2 ^ 1027)
within a c C h =
    let n = a * 2 ^ 1074 in
    let k = drop 53 n c in
    let w : Within (closest n (c * 2 ^ k) * (c * 2 ^ k)) n (c * 2 ^ k) = closest_within n (c * 2 ^ k) (mul-pos C (pow_pos k)) in
    subst (λ (x : ℕ). Within x n (c * 2 ^ 1027)) (turn (closest n (c * 2 ^ k)) c (2 ^ k))
    (wider (closest n (c * 2 ^ k) * (c * 2 ^ k)) n (c * 2 ^ k) (c * 2 ^ 1027) (mul-le-mul_left c (pow_mono (dropped n c C h))) w)
  where
    turn : (x c u : ℕ) → x * (c * u) ≡ x * u * c
    turn x c u = omega arith

low_grid : (a c : ℕ) → 0 < c → a * 2 ^ 1074 < 2 ^ 1080 * c → grid binary64 a c < overflow binary64
low_grid a c C h =
    lt_of_lt_of_le
    (lt_of_mul-lt-mul_right c
    (go (grid binary64 a c * c) (a * 2 ^ 1074) (c * 2 ^ 1027) (2 ^ 1080 * c) (2 ^ 1082 * c) (within a c C h).0 h (wide c) (four c)))
    (lit≤ tt)
  where
    wide : (c : ℕ) → c * 2 ^ 1027 ≤ 2 ^ 1080 * c
    wide c = subst (λ (z : ℕ). z ≤ 2 ^ 1080 * c) (mul_comm (2 ^ 1027) c) (mul-le-mul_right c (lit≤ tt))

    four : (c : ℕ) → 2 ^ 1082 * c ≡ 4 * (2 ^ 1080 * c)
    four c = mul_assoc 4 (2 ^ 1080) c

    go : (g n k b d : ℕ) → g * 2 ≤ n * 2 + k → n < b → k ≤ b → d ≡ 4 * b → g < d
    go g n k b d p q r e = omega arith

-- y has the sign s and is n / c E-ths, rounded
pub record Rounds (y : Float) (s : Bool) (n c : ℕ) : Type 0 where
  pub p : ℕ
  pub is : Signed y s p
  pub hi : p * c ≤ n + tiny * c
  pub lo : n ≤ p * c + tiny * c
  pub some : c ≤ n → 0 < p

-- what is one E-th or more does not vanish
stays : (a c : ℕ) → 0 < c → c ≤ a * 2 ^ 1074 → 0 < grid binary64 a c
stays a c C h =
    let n = a * 2 ^ 1074 in
    let v = n / c in
    let o : 1 ≤ v = (le-div_iff_mul-le C).1 (subst (λ (z : ℕ). z ≤ n) (sym (one-mul c)) h) in
    let k = size v - 53 in
    let u : 2 ^ k ≤ v = size_reaches v k (few (size v) (full v o)) in
    let i : 1 ≤ n / (c * 2 ^ k) = (le-div_iff_mul-le (mul-pos C (pow_pos k))).1 (le_trans (turn c (2 ^ k) v u) (div-mul-le_self n c)) in
    mul-pos (lt_of_lt_of_le i (nearest-ge (n / (c * 2 ^ k)) (compare (n % (c * 2 ^ k) * 2) (c * 2 ^ k)))) (pow_pos k)
  where
    few : (z : ℕ) → 0 < z → z - 53 < z
    few z h = omega arith

    full : (v : ℕ) → 1 ≤ v → 0 < size v
    full v h = lt_of_not-le (λ (g : size v ≤ 0). not-le_of_lt (lt_of_lt_of_le (size-lt v) (pow_mono g)) h)

    turn : (c u v : ℕ) → u ≤ v → 1 * (c * u) ≤ v * c
    turn c u v h = omega (arith, mul-le-mul_right c h)

pub rounds : (s : Bool) (a c : ℕ) → 0 < c → a * E < 64 * E * c → Rounds (round binary64 s a c) s (a * E) c
unfolding E tiny
rounds s a c C h =
    let w : Within (grid binary64 a c * c) (a * 2 ^ 1074) (c * (2 * 2 ^ 1026)) = within a c C h in
    record {
      p = grid binary64 a c;
      is =
          subst (λ (z : Float). HasValue z s (grid binary64 a c) (2 ^ 1074)) (sym (round_is binary64 s a c))
          (units_val binary64 s (kept 53 (a * 2 ^ 1074) c) (drop 53 (a * 2 ^ 1074) c) (low_grid a c C h));
      hi = halve (grid binary64 a c * c) (a * 2 ^ 1074) (2 ^ 1026) w.0;
      lo = halve (a * 2 ^ 1074) (grid binary64 a c * c) (2 ^ 1026) w.1;
      some = stays a c C;
    }
  where
    halve : (x y t : ℕ) → x * 2 ≤ y * 2 + c * (2 * t) → x ≤ y + t * c
    halve x y t h = omega arith

-- ---- a product
pub record Product (x y : Float) (g h : ℕ) : Type 0 where
  pub p : ℕ
  pub is : Val (mul binary64 x y) p
  pub near : Near (p * E) (g * h) (tiny * E)

module _ (A c g h : ℕ) (C : 0 < c) (e : A * E * E ≡ g * h * c) (l : g * h < 64 * (E * E)) where
  below : A * E < 64 * E * c
  below = lt_of_mul-lt-mul_right E (subst (λ (z : ℕ). z < 64 * E * c * E) (sym e) (go E l))
    where
      go : (d : ℕ) → g * h < 64 * (d * d) → g * h * c < 64 * d * c * d
      go d h = omega (arith, mul-lt-mul_of_pos_right h C)

  near_product : {y : Float} (r : Rounds y false (A * E) c) → Near (r.p * E) (g * h) (tiny * E)
  near_product r = record {
    hi = le_of_mul-le-mul_right {k = c} (up E tiny r.p (A * E) e r.hi) C;
    lo = le_of_mul-le-mul_right {k = c} (down' E tiny r.p (A * E) e r.lo) C;
  }
    where
      up : (d t p n : ℕ) → n * d ≡ g * h * c → p * c ≤ n + t * c → p * d * c ≤ (g * h + t * d) * c
      up d t p n e w = omega (arith, mul-le-mul_right d w)

      down' : (d t p n : ℕ) → n * d ≡ g * h * c → n ≤ p * c + t * c → g * h * c ≤ (p * d + t * d) * c
      down' d t p n e w = omega (arith, mul-le-mul_right d w)

pub product_of : (x y : Float) (g h : ℕ) → Val x g → Val y h → g * h < 64 * (E * E) → Product x y g h
unfolding mul
product_of nan y g h v w l = absurd v
product_of (inf s) y g h v w l = absurd v
product_of (fin s m e) nan g h v w l = absurd w
product_of (fin s m e) (inf t) g h v w l = absurd w
product_of (fin true m e) (fin t n o) g h v w l = absurd (true≢false v.0)
product_of (fin false m e) (fin true n o) g h v w l = absurd (true≢false w.0)
product_of (fin false m e) (fin false n o) g h v w l =
    let A = m * up e * (n * up o) in
    let c = down e * down o in
    let C = mul-pos (down_pos e) (down_pos o) in
    let k : A * E * E ≡ g * h * c = unfold E in cross (m * up e) (down e) (n * up o) (down o) (2 ^ 1074) v.1 w.1 in
    let r = rounds false A c C (below A c g h C k l) in
    record { p = r.p; is = r.is; near = near_product A c g h C k l r }
  where
    cross : (a d b f r : ℕ) → a * r ≡ g * d → b * r ≡ h * f → a * b * r * r ≡ g * h * (d * f)
    cross a d b f r p q = omega (arith, ap (λ (z : ℕ). z * (b * r)) p, ap (λ (z : ℕ). g * d * z) q)

-- ---- sums and differences, of a / c and b / c, which are g and h E-ths
module _ (a b c g h : ℕ) (C : 0 < c) (e : a * E ≡ g * c) (f : b * E ≡ h * c) (l : g + h < 64 * E) where
  both : (s : Bool) → (r : Rounds (round binary64 s (a + b) c) s ((a + b) * E) c) × Near r.p (g + h) tiny
  both s =
      let r = rounds s (a + b) c C (omega (arith, mul-lt-mul_of_pos_right l C)) in
      (r, record { hi = le_of_mul-le-mul_right {k = c} (omega (arith, r.hi)) C; lo = le_of_mul-le-mul_right {k = c} (omega (arith, r.lo)) C })

  order : h ≤ g → b ≤ a
  order k = le_of_mul-le-mul_right {k = E} (omega (arith, mul-le-mul_right c k)) E_pos

  less : (s : Bool) → h ≤ g → (r : Rounds (round binary64 s (a - b) c) s ((a - b) * E) c) × Near (r.p + h) g tiny
  less s k =
      let q : a - b + b ≡ a = sub-add_cancel (order k) in
      let i : (a - b) * E + h * c ≡ g * c = omega (arith, ap (λ (z : ℕ). z * E) q) in
      let r = rounds s (a - b) c C (omega (arith, mul-lt-mul_of_pos_right l C)) in
      (r, record { hi = le_of_mul-le-mul_right {k = c} (omega (arith, r.hi)) C; lo = le_of_mul-le-mul_right {k = c} (omega (arith, r.lo)) C })

cross_one : (g a d f r : ℕ) → a * r ≡ g * d → a * f * r ≡ g * (d * f)
cross_one g a d f r p = omega (arith, ap (λ (z : ℕ). z * f) p)

cross_two : (h b f d r : ℕ) → b * r ≡ h * f → b * d * r ≡ h * (d * f)
cross_two h b f d r p = omega (arith, ap (λ (z : ℕ). z * d) p)

pub record Sum (x y : Float) (g h : ℕ) : Type 0 where
  pub p : ℕ
  pub is : Val (add binary64 x y) p
  pub near : Near p (g + h) tiny

pub sum_of : (x y : Float) (g h : ℕ) → Val x g → Val y h → g + h < 64 * E → Sum x y g h
unfolding add sum
sum_of nan y g h v w l = absurd v
sum_of (inf s) y g h v w l = absurd v
sum_of (fin s m e) nan g h v w l = absurd w
sum_of (fin s m e) (inf t) g h v w l = absurd w
sum_of (fin true m e) (fin t n o) g h v w l = absurd (true≢false v.0)
sum_of (fin false m e) (fin true n o) g h v w l = absurd (true≢false w.0)
sum_of (fin false m e) (fin false n o) g h v w l =
    let r =
    both (m * up e * down o) (n * up o * down e) (down e * down o) g h (mul-pos (down_pos e) (down_pos o)) (unfold E in cross_one g (m * up e) (down e) (down o) (2 ^ 1074) v.1)
    (unfold E in cross_two h (n * up o) (down o) (down e) (2 ^ 1074) w.1) l false in
    record { p = r.0.p; is = r.0.is; near = r.1 }

-- d is a - b, with its sign, by e at most
abbrev pub Apart : Bool → ℕ → ℕ → ℕ → ℕ → Type 0
Apart false g a b e = Near (g + b) a e
Apart true g a b e = Near (g + a) b e

pub record Diff (d : Float) (a b e : ℕ) : Type 0 where
  pub s : Bool
  pub g : ℕ
  pub is : Signed d s g
  pub some : T s → 0 < g
  pub apart : Apart s g a b e

-- one number less, which is not negative
module _ (m n : ℕ) (e o : ℤ) (g h : ℕ) (v : m * up e * 2 ^ 1074 ≡ g * down e) (w : n * up o * 2 ^ 1074 ≡ h * down o) (l : g + h < 64 * E) where
  abbrev A : ℕ
  A = m * up e * down o

  abbrev B : ℕ
  B = n * up o * down e

  abbrev c : ℕ
  c = down e * down o

  C : 0 < c
  C = mul-pos (down_pos e) (down_pos o)

  vA : A * E ≡ g * c
  unfolding E
  vA = cross_one g (m * up e) (down e) (down o) (2 ^ 1074) v

  vB : B * E ≡ h * c
  unfolding E
  vB = cross_two h (n * up o) (down o) (down e) (2 ^ 1074) w

  -- h is no more than g
  over : h ≤ g → (p : ℕ) × Signed (sum binary64 false A true B c) false p × Near (p + h) g tiny
  unfolding sum
  over k =
      let r = less A B c g h C vA vB l false k in (
        r.0.p,
        subst (λ (z : Bool). Signed (cond z (round binary64 true (B - A) c) (round binary64 (false && ltb B A) (A - B) c)) false r.0.p) (sym (le-ltb A B (order A B c g h C vA vB l k))) r.0.is,
        r.1,
      )

  strict : g < h → A < B
  strict k = lt_of_mul-lt-mul_right E (omega (arith, vA, vB, mul-lt-mul_of_pos_right k C))

  one_more : (a b : ℕ) → a * E ≡ g * c → b * E ≡ h * c → g < h → c ≤ (b - a) * E
  one_more a b e f k =
      let q : b - a + a ≡ b = sub-add_cancel (le_of_lt (lt_of_mul-lt-mul_right E (omega (arith, e, f, mul-lt-mul_of_pos_right k C)))) in omega (arith, ap (λ (z : ℕ). z * E) q, mul-le-mul_right c k)

  swap : h + g < 64 * E
  swap = omega (arith, l)

  under : g < h → (p : ℕ) × Signed (sum binary64 false A true B c) true p × Near (p + g) h tiny × (0 < p)
  unfolding sum
  under k =
      let r = less B A c h g C vB vA swap true (le_of_lt k) in (
        r.0.p,
        subst (λ (z : Bool). Signed (cond z (round binary64 true (B - A) c) (round binary64 (false && ltb B A) (A - B) c)) true r.0.p) (sym (lt-ltb A B (strict k))) r.0.is,
        r.1,
        r.0.some (one_more A B vA vB k),
      )

  beyond : 0 < g → (p : ℕ) × Signed (sum binary64 true A true B c) true p × Near p (g + h) tiny × (0 < p)
  unfolding sum
  beyond k = let r = both A B c g h C vA vB l true in (r.0.p, r.0.is, r.1, r.0.some (omega (arith, vA, mul-le-mul_right c k)))

pub record Difference (x y : Float) (g h : ℕ) : Type 0 where
  pub p : ℕ
  pub is : Val (sub binary64 x y) p
  pub near : Near (p + h) g tiny

pub difference_of : (x y : Float) (g h : ℕ) → Val x g → Val y h → h ≤ g → g + h < 64 * E → Difference x y g h
unfolding sub add neg
difference_of nan y g h v w k l = absurd v
difference_of (inf s) y g h v w k l = absurd v
difference_of (fin s m e) nan g h v w k l = absurd w
difference_of (fin s m e) (inf t) g h v w k l = absurd w
difference_of (fin true m e) (fin t n o) g h v w k l = absurd (true≢false v.0)
difference_of (fin false m e) (fin true n o) g h v w k l = absurd (true≢false w.0)
difference_of (fin false m e) (fin false n o) g h v w k l =
    let r = over m n e o g h v.1 w.1 l k in record { p = r.0; is = r.1; near = r.2 }

pub less_of_lem : (x y : Float) (a b h f : ℕ) (d : Diff x a b f) → Val y h → d.g + h < 64 * E → Diff (sub binary64 x y) a (b + h) (f + tiny)
unfolding sub add neg
less_of_lem nan y a b h f d w l = absurd d.is
less_of_lem (inf s) y a b h f d w l = absurd d.is
less_of_lem (fin s m e) nan a b h f d w l = absurd w
less_of_lem (fin s m e) (inf t) a b h f d w l = absurd w
less_of_lem (fin s m e) (fin true n o) a b h f d w l = absurd (true≢false w.0)
less_of_lem (fin s m e) (fin false n o) a b h f d w l = go s d.s d.is.0 d.some d.apart
  where
    g : ℕ
    g = d.g

    up' : (p : ℕ) → Near (p + h) d.g tiny → Near (d.g + b) a f → Near (p + (b + h)) a (f + tiny)
    up' p i j = record { hi = omega (arith, i.hi, j.hi); lo = omega (arith, i.lo, j.lo) }

    down' : (p : ℕ) → Near (p + d.g) h tiny → Near (d.g + b) a f → Near (p + a) (b + h) (f + tiny)
    down' p i j = record { hi = omega (arith, i.hi, j.lo, i.lo, j.hi); lo = omega (arith, i.lo, j.hi, i.hi, j.lo) }

    on : (p : ℕ) → Near p (d.g + h) tiny → Near (d.g + a) b f → Near (p + a) (b + h) (f + tiny)
    on p i j = record { hi = omega (arith, i.hi, j.hi); lo = omega (arith, i.lo, j.lo) }

    sides : (c : Bool) → (T c → h ≤ d.g) → (T (not c) → d.g < h) → Near (d.g + b) a f → Diff (sum binary64 false (m * up e * down o) true (n * up o * down e) (down e * down o)) a (b + h) (f + tiny)
    sides true i j k = let r = over m n e o d.g h d.is.1 w.1 l (i tt) in record { s = false; g = r.0; is = r.1; some = λ (t : T false). absurd t; apart = up' r.0 r.2 k }
    sides false i j k = let r = under m n e o d.g h d.is.1 w.1 l (j tt) in record { s = true; g = r.0; is = r.1; some = λ (t : T true). r.3; apart = down' r.0 r.2 k }

    go : (s t : Bool) → s ≡ t → (T t → 0 < d.g) → Apart t d.g a b f → Diff (sum binary64 s (m * up e * down o) true (n * up o * down e) (down e * down o)) a (b + h) (f + tiny)
    go false false q i k = sides (leb h d.g) (leb→le h d.g) (nleb→lt h d.g) k
    go true true q i k = let r = beyond m n e o d.g h d.is.1 w.1 l (i tt) in record { s = true; g = r.0; is = r.1; some = λ (t : T true). r.3; apart = on r.0 r.2 k }
    go true false q i k = absurd (true≢false q)
    go false true q i k = absurd (true≢false (sym q))

-- ---- a factor up to 1 makes a product no larger
le-value : (x y : Float) (p n c : ℕ) → 0 < c → Val x p → HasValue y false n c → T (le x y) → p * c ≤ n * 2 ^ 1074
unfolding le lt eq
le-value nan y p n c C v w t = absurd v
le-value (inf s) y p n c C v w t = absurd v
le-value (fin s m e) nan p n c C v w t = absurd w
le-value (fin s m e) (inf z) p n c C v w t = absurd w
le-value (fin true m e) (fin z k o) p n c C v w t = absurd (true≢false v.0)
le-value (fin false m e) (fin true k o) p n c C v w t = absurd (true≢false w.0)
le-value (fin false m e) (fin false k o) p n c C v w t =
    le_of_mul-le-mul_right {k = down e * down o} (go (m * up e) (down e) (k * up o) (down o) (2 ^ 1074) v.1 w.1 (le_yes (m * up e * down o) (k * up o * down e) t))
    (mul-pos (down_pos e) (down_pos o))
  where
    go : (a d b f r : ℕ) → a * r ≡ p * d → b * c ≡ n * f → a * f ≤ b * d → p * c * (d * f) ≤ n * r * (d * f)
    go a d b f r x y h = omega (arith, mul-le-mul_right (r * c) h, ap (λ (z : ℕ). z * (c * f)) x, ap (λ (z : ℕ). z * (r * d)) y)

pub no_larger : (x y : Float) (g h p : ℕ) → T (fits binary64 x) → Val x g → Val y h → g ≤ E → h ≤ E → Val (mul binary64 x y) p → p ≤ g
unfolding E
no_larger nan y g h p f v w gD hD u = absurd v
no_larger (inf s) y g h p f v w gD hD u = absurd v
no_larger (fin s m e) nan g h p f v w gD hD u = absurd w
no_larger (fin s m e) (inf t) g h p f v w gD hD u = absurd w
no_larger (fin true m e) (fin t n o) g h p f v w gD hD u = absurd (true≢false v.0)
no_larger (fin false m e) (fin true n o) g h p f v w gD hD u = absurd (true≢false w.0)
no_larger (fin false m e) (fin false n o) g h p f v w gD hD u =
    le_of_mul-le-mul_right {k = down e}
    (last (m * up e) (down e) (2 ^ 1074) v.1
    (le-value (mul binary64 (fin false m e) (fin false n o)) (mul binary64 (fin false m e) (fin false 1 (pos 0))) p (m * up e * (1 * 1)) (down e * 1) (mul-pos (down_pos e) (lit< tt)) u
    (times_pow binary64 0 false m e f (size' (m * up e) (down e) (down_pos e) v.1) (lit≤ tt)) mono)) (down_pos e)
  where
    small : n * up o ≤ down o
    small =
        le_of_mul-le-mul_right {k = 2 ^ 1074}
        (subst (λ (z : ℕ). z ≤ down o * 2 ^ 1074) (sym w.1) (subst (λ (z : ℕ). h * down o ≤ z) (mul_comm (2 ^ 1074) (down o)) (mul-le-mul_right (down o) hD))) (pow_pos 1074)

    mono : T (le (mul binary64 (fin false m e) (fin false n o)) (mul binary64 (fin false m e) (fin false 1 (pos 0))))
    mono =
        unfold mul in round_mono binary64 (m * up e * (n * up o)) (down e * down o) (m * up e * (1 * 1)) (down e * 1) (mul-pos (down_pos e) (down_pos o)) (mul-pos (down_pos e) (lit< tt))
        (go (m * up e) (down e) (n * up o) (down o) small)
      where
        go : (a d b f : ℕ) → b ≤ f → a * b * (d * 1) ≤ a * (1 * 1) * (d * f)
        go a d b f h = omega (arith, mul-le-mul_right (a * d) h)

    size' : (a d : ℕ) → 0 < d → a * 2 ^ 1074 ≡ g * d → a < 2 ^ 63 * d
    size' a d dp x =
        few (le_of_mul-le-mul_right {k = 2 ^ 1074} (subst (λ (z : ℕ). z ≤ d * 2 ^ 1074) (sym x) (subst (λ (z : ℕ). g * d ≤ z) (mul_comm (2 ^ 1074) d) (mul-le-mul_right d gD))) (pow_pos 1074))
      where
        few : a ≤ d → a < 2 ^ 63 * d
        few h = omega arith

    last : (a d r : ℕ) → a * r ≡ g * d → p * (d * 1) ≤ a * (1 * 1) * r → p * d ≤ g * d
    last a d r x h = omega arith
