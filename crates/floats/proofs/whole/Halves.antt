-- Halves go up, in any format: twice the size is exact, and that number, cut, and one more, halved, is the nearest
-- whole number. Assumes nothing.
use Rattle.std.proofs.Common.{◌≡◌, ℕ, suc, ◌+◌, ◌*◌, ◌/◌, ◌^◌, ◌<◌, ◌≤◌, min, true, false, not, ◌&&◌, T, eqb, ℤ, pos, sym, refl, ap, ◌∙◌, subst, mul-le-mul_right, mul_comm, div-lt_iff_lt-mul, mul-pos, le-div_iff_mul-le, mul-one, arith, lit<, eqb→eq, ltb→lt, nltb→le, pow_pos, pow_mono}
use native.Mathlib.Nat.{div-div-eq-div-mul, add-div_right}
use lib.Ieee.{Float, nan, inf, fin, Format, emax, up, down, mul, neg, lt, eq, le, fits, to_unsigned}
use lib.Ieee.Fits.{down_pos, neg-fits, and_l, and_r}
use Rattle.std.proofs.num.Truncating.{minus_one, two_to}
use Rattle.floats.specs.Whole.{round_size}
use Rattle.floats.specs.Size.{plus_zero}
use Rattle.floats.proofs.Range.{le_yes, le_no, le_yes', le_no', not_zero, none, no_more, no_less}
use Rattle.floats.proofs.Powers.{times_pow, Whole, whole}

-- (2 a + d) / 2 d
halved : (a d : ℕ) → 0 < d → (2 * a + d) / (2 * d) ≡ (a * (1 * 2 ^ 1) / (d * 1) + 1) / 2
halved a d D =
    ap (λ (x : ℕ). (2 * a + d) / x) (mul_comm 2 d)
    ∙ sym (div-div-eq-div-mul (2 * a + d) d 2)
    ∙ ap (λ (x : ℕ). x / 2) (add-div_right (2 * a) D ∙ ap (λ (x : ℕ). x + 1) (ap (λ (x : ℕ). x / d) (mul_comm 2 a) ∙ ap (λ (x : ℕ). a * 2 / x) (sym (mul-one d))))

-- twice x, cut
abbrev pub Doubled : Format → ℕ → Float → Float → Type 0
Doubled f c x y = T (lt minus_one y) × T (lt y (two_to 64)) × (to_unsigned 64 y < 2 * c) × ((to_unsigned 64 y + 1) / 2 ≡ round_size c x)

module _ (f : Format) (w : ℕ) (k : w ≤ 62) (big : 64 ≤ suc (emax f)) where
  core : (m : ℕ) (e : ℤ) → T (fits f (fin false m e)) → m * up e * 1 < 1 * 2 ^ w * down e → Doubled f (2 ^ w) (fin false m e) (mul f (fin false m e) (two_to 1))
  unfolding round_size
  core m e t h =
      let n = m * up e in
      let d = down e in
      let D = down_pos e in
      let C = 2 ^ w in
      let P : C ≤ 2 ^ 62 = pow_mono k in
      let PD : C * d ≤ 2 ^ 62 * d = mul-le-mul_right d P in
      let y = mul f (fin false m e) (two_to 1) in
      let z : Whole y (n * (1 * 2 ^ 1)) (d * 1) =
      whole y (n * (1 * 2 ^ 1)) (d * 1) (mul-pos D (lit< tt)) (omega arith) (times_pow f 1 false m e t (omega arith) big) in
      let q = n * (1 * 2 ^ 1) / (d * 1) in
      let Q : q < 2 * C = (div-lt_iff_lt-mul (mul-pos D (lit< tt))).1 (omega arith) in
      (z.0, z.1, subst (λ (x : ℕ). x < 2 * C) (sym z.2) Q, ap (λ (x : ℕ). (x + 1) / 2) z.2 ∙ uncut q C Q ∙ ap (λ (x : ℕ). min x C) (sym (halved n d D)))
    where
      uncut : (q C : ℕ) → q < 2 * C → (q + 1) / 2 ≡ min ((q + 1) / 2) C
      uncut q C h = omega arith

  pub above_zero : (x : Float) → T (fits f x) → T (lt plus_zero x) → T (not (le (two_to w) x)) → Doubled f (2 ^ w) x (mul f x (two_to 1))
  unfolding lt eq le
  above_zero nan t a b = absurd a
  above_zero (inf true) t a b = absurd a
  above_zero (inf false) t a b = absurd b
  above_zero (fin true m e) t a b = absurd a
  above_zero (fin false m e) t a b = core m e t (le_no (1 * 2 ^ w * down e) (m * up e * 1) b)

  pub below-zero : (x : Float) → T (fits f x) → T (lt x plus_zero) → T (not (le x (fin true 1 (pos w)))) → Doubled f (2 ^ w) x (mul f (neg x) (two_to 1))
  unfolding lt eq le neg round_size
  below-zero nan t a b = absurd a
  below-zero (inf true) t a b = absurd b
  below-zero (inf false) t a b = absurd a
  below-zero (fin false m e) t a b = absurd (none (m * up e * 1) (down e) (ltb→lt (m * up e * 1) (0 * 1 * down e) a))
  below-zero (fin true m e) t a b = core m e (neg-fits f (fin true m e) t) (le_no' (m * up e * 1) (1 * 2 ^ w * down e) b)

pub nothing : (n d c : ℕ) → 0 < d → n ≡ 0 → 0 ≡ min ((2 * n + d) / (2 * d)) c
nothing n d c D z = go ((2 * n + d) / (2 * d)) ((div-lt_iff_lt-mul (mul-pos {m = 2} (lit< tt) D)).1 (omega arith))
  where
    go : (x : ℕ) → x < 1 → 0 ≡ min x c
    go x h = omega arith

-- from 2 ^ w on
topped : (n d c w : ℕ) → 0 < d → 1 * 2 ^ w * d ≤ n * 1 → 2 ^ w ≡ c → c ≡ min ((2 * n + d) / (2 * d)) c
topped n d c w D h q = go ((2 * n + d) / (2 * d)) ((le-div_iff_mul-le (mul-pos {m = 2} (lit< tt) D)).1 (big (subst (λ (x : ℕ). 1 * x * d ≤ n * 1) q h)))
  where
    big : 1 * c * d ≤ n * 1 → c * (2 * d) ≤ 2 * n + d
    big g = omega arith

    go : (x : ℕ) → c ≤ x → c ≡ min x c
    go x g = omega arith

pub over-top : (c w : ℕ) (x : Float) → 2 ^ w ≡ c → T (le (two_to w) x) → c ≡ round_size c x
unfolding lt eq le round_size
over-top c w nan q h = absurd h
over-top c w (inf true) q h = absurd h
over-top c w (inf false) q h = refl
over-top c w (fin true m e) q h = absurd (not_zero (1 * 2 ^ w * down e) (eqb (1 * 2 ^ w * down e) (m * up e * 1)) (mul-pos (mul-pos (lit< tt) (pow_pos w)) (down_pos e)) h)
over-top c w (fin false m e) q h = topped (m * up e) (down e) c w (down_pos e) (le_yes (1 * 2 ^ w * down e) (m * up e * 1) h) q

pub no_size : (a b : ℕ) → 0 < b → T (eqb a b && eqb a 0) → ⊥
no_size a b p t = go (eqb→eq a b (and_l (eqb a b) (eqb a 0) t)) (eqb→eq a 0 (and_r (eqb a b) (eqb a 0) t))
  where
    go : a ≡ b → a ≡ 0 → ⊥
    go x y = omega arith

pub under_bottom : (c w : ℕ) (x : Float) → 2 ^ w ≡ c → T (le x (fin true 1 (pos w))) → c ≡ round_size c x
unfolding lt eq le round_size
under_bottom c w nan q h = absurd h
under_bottom c w (inf true) q h = refl
under_bottom c w (inf false) q h = absurd h
under_bottom c w (fin false m e) q h = absurd (no_size (m * up e * 1) (1 * 2 ^ w * down e) (mul-pos (mul-pos (lit< tt) (pow_pos w)) (down_pos e)) h)
under_bottom c w (fin true m e) q h = topped (m * up e) (down e) c w (down_pos e) (le_yes' (m * up e * 1) (1 * 2 ^ w * down e) h) q

-- neither above zero nor below it: a zero or a NaN
pub none_there : (c : ℕ) (x : Float) → T (not (lt plus_zero x)) → T (not (lt x plus_zero)) → 0 ≡ round_size c x
unfolding lt round_size
none_there c nan a b = refl
none_there c (inf true) a b = absurd b
none_there c (inf false) a b = absurd a
none_there c (fin true m e) a b = nothing (m * up e) (down e) c (down_pos e) (no_less (m * up e) (down e) (nltb→le 0 (m * up e * 1 + 0 * 1 * down e) b))
none_there c (fin false m e) a b = nothing (m * up e) (down e) c (down_pos e) (no_more (m * up e) (down e) (nltb→le (0 * 1 * down e) (m * up e * 1) a))
