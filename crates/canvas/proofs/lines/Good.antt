-- Bresenham's err, while a columns and c rows are left: a step on the longer side is always made, one on the other side only
-- where it is not yet walked, and at the end both are.
use Rattle.std.proofs.Common.{◌≡◌, ℕ, suc, ◌+◌, ◌-◌, ◌*◌, ◌<◌, ◌≤◌, true, false, cond, ltb, leb, ap, ◌∙◌, mul-le-mul_right, suc-mul, mul_comm, zero-mul, arith, ltb-false, lt-ltb, le-leb}
use native.Mathlib.Decide.{dec_le, dec_lt}
use borrow.Author.Tests.{lt-leb}
use Rattle.canvas.specs.Trail.{Good, dot, shallow, steep}

-- a bound on the multiples is one on the numbers
mul-lt : (j d x : ℕ) → j * x < d * x + x → j ≤ d
mul-lt j d x h = go (dec_le j d)
  where
    go : Dec (j ≤ d) → j ≤ d
    go (yes p) = p
    go (no p) = let q : suc d * x ≤ j * x = mul-le-mul_right x (omega arith) in absurd (omega (arith, suc-mul d x))

pub good_start : (dx dy : ℕ) → Good dx dy dx dy (dx + dy)
good_start dx dy = go (dec_le dy dx) (dec_lt 0 dx)
  where
    go : Dec (dy ≤ dx) → Dec (0 < dx) → Good dx dy dx dy (dx + dy)
    go (yes p) (yes q) = shallow p q (omega (arith, mul_comm dx dy)) (omega arith) (omega arith)
    go (yes p) (no q) = dot (omega arith) (omega arith) (omega arith) (omega arith)
    go (no p) q = steep (omega arith) (omega (arith, mul_comm dx dy)) (omega arith) (omega arith)

-- where nothing is left of the longer side, nothing is left of the other
pub good-end : {dx dy a c e : ℕ} → Good dx dy a c e → cond (leb dy dx) a c ≡ 0 → (a ≡ 0) × (c ≡ 0)
good-end {dx} {dy} {a} {c} {e} (dot p q r s) z = (r, s)
good-end {dx} {dy} {a} {c} {e} (shallow p q k l m) z =
    let z' : a ≡ 0 = rw (le-leb dy dx p) at z in
    let n : a * dy ≡ 0 = ap (λ (j : ℕ). j * dy) z' ∙ zero-mul dy in
    let h : c ≤ 0 = mul-lt c 0 dx (omega (arith, zero-mul dx)) in
    (z', omega arith)
good-end {dx} {dy} {a} {c} {e} (steep p k l m) z =
    let z' : c ≡ 0 = rw (lt-leb dy dx p) at z in
    let n : c * dx ≡ 0 = ap (λ (j : ℕ). j * dx) z' ∙ zero-mul dx in
    let h : a ≤ 0 = mul-lt a 0 dy (omega (arith, zero-mul dy)) in
    (omega arith, z')

-- where both are walked, nothing is left of the longer side
pub end-good : (dx dy a c : ℕ) → a ≡ 0 → c ≡ 0 → cond (leb dy dx) a c ≡ 0
end-good dx dy a c h k = go (dec_le dy dx)
  where
    go : Dec (dy ≤ dx) → cond (leb dy dx) a c ≡ 0
    go (yes p) = rw (le-leb dy dx p) h
    go (no p) = rw (lt-leb dy dx (omega arith)) k

pub good-small : {dx dy a c e : ℕ} → Good dx dy a c e → 0 < cond (leb dy dx) a c → dx < 4294967296 → dy < 4294967296 → e < 68719476736
good-small {dx} {dy} {a} {c} {e} (dot p q r s) z g h = let z' : cond (leb dy dx) a c ≡ 0 = end-good dx dy a c r s in absurd (omega arith)
good-small (shallow p q k l m) z g h = omega arith
good-small (steep p k l m) z g h = omega arith

one_more : (i d : ℕ) → 0 < i → i * d ≡ (i - 1) * d + d
one_more i d h = ap (λ (k : ℕ). k * d) (let e : i ≡ suc (i - 1) = omega arith in e) ∙ suc-mul (i - 1) d

-- a step is made across or along, and where it is made there is way left for it
pub record Stepped (dx dy a c e : ℕ) : Type 0 where
  pub some : ltb (3 * dy) (2 * e) ≡ false → ltb (2 * e) (dx + 4 * dy) ≡ true
  pub room-x : 3 * dy < 2 * e → 0 < a
  pub room-y : 2 * e < dx + 4 * dy → 0 < c
  pub enough : 3 * dy < 2 * e → dy ≤ e
  pub both_steps : 3 * dy < 2 * e → 2 * e < dx + 4 * dy → Good dx dy (a - 1) (c - 1) (e + dx - dy)
  pub x-steps : 3 * dy < 2 * e → dx + 4 * dy ≤ 2 * e → Good dx dy (a - 1) c (e - dy)
  pub y-steps : 2 * e ≤ 3 * dy → 2 * e < dx + 4 * dy → Good dx dy a (c - 1) (e + dx)
  -- the longer side falls
  pub falls_x : dy ≤ dx → 3 * dy < 2 * e
  pub falls_y : dx < dy → 2 * e < dx + 4 * dy

module _ (dx dy a c e : ℕ) where
  left-x : dy ≤ dx → 0 < dx → 0 < a → e + c * dx ≡ dx + dy + a * dy → 2 * e < dx + 4 * dy → 0 < c
  left-x p q z k h = go (dec_lt 0 c)
    where
      go : Dec (0 < c) → 0 < c
      go (yes g) = g
      go (no g) =
          let n : c * dx ≡ 0 = ap (λ (j : ℕ). j * dx) (let u : c ≡ 0 = omega arith in u) ∙ zero-mul dx in
          absurd (omega (arith, one_more a dy z))

  left-y : dx < dy → 0 < c → e + c * dx ≡ dx + dy + a * dy → 3 * dy < 2 * e → 0 < a
  left-y p z k h = go (dec_lt 0 a)
    where
      go : Dec (0 < a) → 0 < a
      go (yes g) = g
      go (no g) =
          let n : a * dy ≡ 0 = ap (λ (j : ℕ). j * dy) (let u : a ≡ 0 = omega arith in u) ∙ zero-mul dy in
          absurd (omega (arith, one_more c dx z))

  pub good-step : Good dx dy a c e → 0 < cond (leb dy dx) a c → Stepped dx dy a c e
  good-step (dot p q r s) z = let z' : cond (leb dy dx) a c ≡ 0 = end-good dx dy a c r s in absurd (omega arith)
  good-step (shallow p q k l m) z =
      let z' : 0 < a = rw (le-leb dy dx p) at z in
      record {
        some = λ f. absurd (let g = ltb-false (3 * dy) (2 * e) f in omega arith);
        room-x = λ h. z';
        room-y = λ h. left-x p q z' k h;
        enough = λ h. omega arith;
        both_steps = λ h g. let y = left-x p q z' k g in shallow p q (omega (arith, one_more a dy z', one_more c dx y)) (omega arith) (omega arith);
        x-steps = λ h g. shallow p q (omega (arith, one_more a dy z')) (omega arith) (omega arith);
        y-steps = λ h g. absurd (omega arith);
        falls_x = λ h. l;
        falls_y = λ h. absurd (omega arith);
      }
  good-step (steep p k l m) z =
      let z' : 0 < c = rw (lt-leb dy dx p) at z in
      record {
        some = λ f. lt-ltb (2 * e) (dx + 4 * dy) m;
        room-x = λ h. left-y p z' k h;
        room-y = λ h. z';
        enough = λ h. omega arith;
        both_steps = λ h g. let x = left-y p z' k h in steep p (omega (arith, one_more a dy x, one_more c dx z')) (omega arith) (omega arith);
        x-steps = λ h g. absurd (omega arith);
        y-steps = λ h g. steep p (omega (arith, one_more c dx z')) (omega arith) (omega arith);
        falls_x = λ h. absurd (omega arith);
        falls_y = λ h. m;
      }
