-- A nudged f32 added to 3 * 2 ^ 51 + 2 ^ 31: the sum's bits end in 2 ^ 31 more than the number rounded. Assumes nothing.
use Rattle.std.proofs.Common.{◌≡◌, ℕ, zero, suc, ◌+◌, ◌-◌, ◌*◌, ◌%◌, ◌^◌, ◌<◌, ◌≤◌, min, Bool, true, false, cond, not, ◌&&◌, T, eqb, ltb, ℤ, pos, negsuc, ◌+ℤ◌, ◌-ℤ◌, neg_ℤ, sym, refl, ap, ◌∙◌, subst, true≢false, mul-le-mul_right, lt_of_mul-lt-mul_right, le_of_mul-le-mul_right, arith, ltb→lt, w32, w64, SFits, to_z, lt-ltb}
use lib.IntN.{neg_ℤ-neg_ℤ, neg_ℤ-+ℤ, +ℤ_comm, +ℤ-neg_ℤ_cancel}
use lib.Ieee.{Float, nan, inf, fin, binary32, binary64, up, down, round, add, mul, le, lt, eq, to_bits, fits, is_nan}
use lib.Ieee.Fits.{down_pos, and_i, fits_widens}
use lib.Ieee.Exact.{HasValue}
use mir.ValLaws.{to_z_pos}
use Rattle.std.proofs.num.Truncating.{two_to}
use Rattle.floats.specs.Size.{plus_zero}
use Rattle.floats.specs.Whole.{round_size, round_as, lifted}
use Rattle.floats.proofs.Closest.{Within}
use Rattle.floats.proofs.Ones.{is_number}
use Rattle.floats.proofs.Ones.{q, near, at_least, at_most, value, bits_is}
use Rattle.floats.proofs.Powers.{like, shallow}
use Rattle.floats.proofs.Range.{le_no, le_no', not_zero}
use Rattle.floats.proofs.whole.Halves.{over-top, under_bottom, no_size}
use Rattle.floats.proofs.whole.Nudged.{rounds, Kind, kind, few_rounds, nudge, Nudge, nudged}

abbrev pub big : Float
big = fin false 0x30_0001 (pos 31)

-- ---- a / d is g / U, which lies between the halves around R; B is added, or it is taken off B
module _ (a d g R U B : ℕ) (dp : 0 < d) (v : a * U ≡ g * d) (lo : 2 * (R * U) < 2 * g + U) (hi : 2 * g < 2 * (R * U) + U) where
  up_hi : (q num : ℕ) → num ≡ a + B * d → q * d * 2 ≤ num * 2 + d → q < B + R + 1
  up_hi q num e h = lt_of_mul-lt-mul_right U (last (le_of_mul-le-mul_right {k = d} (omega (arith, mul-le-mul_right U h, ap (λ (z : ℕ). z * U) e, v)) dp))
    where
      last : 2 * (q * U) ≤ 2 * g + 2 * (B * U) + U → q * U < (B + R + 1) * U
      last i = omega arith

  up_lo : (q num : ℕ) → num ≡ a + B * d → num * 2 ≤ q * d * 2 + d → B + R < q + 1
  up_lo q num e h = lt_of_mul-lt-mul_right U (last (le_of_mul-le-mul_right {k = d} (omega (arith, mul-le-mul_right U h, ap (λ (z : ℕ). z * U) e, v)) dp))
    where
      last : 2 * g + 2 * (B * U) ≤ 2 * (q * U) + U → (B + R) * U < (q + 1) * U
      last i = omega arith

  pub up_is : (q num : ℕ) → num ≡ a + B * d → Within (q * d) num d → q ≡ B + R
  up_is q num e w = let x = up_hi q num e w.0 in let y = up_lo q num e w.1 in omega arith

  down_hi : (q num : ℕ) → num + a ≡ B * d → q * d * 2 ≤ num * 2 + d → q + R < B + 1
  down_hi q num e h = lt_of_mul-lt-mul_right U (last (le_of_mul-le-mul_right {k = d} (omega (arith, mul-le-mul_right U h, ap (λ (z : ℕ). z * U) e, v)) dp))
    where
      last : 2 * (q * U) + 2 * g ≤ 2 * (B * U) + U → (q + R) * U < (B + 1) * U
      last i = omega arith

  down_lo : (q num : ℕ) → num + a ≡ B * d → num * 2 ≤ q * d * 2 + d → B < q + R + 1
  down_lo q num e h = lt_of_mul-lt-mul_right U (last (le_of_mul-le-mul_right {k = d} (omega (arith, mul-le-mul_right U h, ap (λ (z : ℕ). z * U) e, v)) dp))
    where
      last : 2 * (B * U) ≤ 2 * (q * U) + 2 * g + U → B * U < (q + R + 1) * U
      last i = omega arith

  pub down_is : (q num : ℕ) → num + a ≡ B * d → Within (q * d) num d → q + R ≡ B
  down_is q num e w = let x = down_hi q num e w.0 in let y = down_lo q num e w.1 in omega arith

  pub few : R < 2 ^ 31 → a < 2 ^ 32 * d
  few h = lt_of_mul-lt-mul_right U (go (mul-le-mul_right U h))
    where
      go : suc R * U ≤ 2 ^ 31 * U → a * U < 2 ^ 32 * d * U
      go i = go' (below i)
        where
          below : suc R * U ≤ 2 ^ 31 * U → g < 2 ^ 32 * U
          below i = omega arith

          go' : g < 2 ^ 32 * U → a * U < 2 ^ 32 * d * U
          go' j = omega (arith, mul-le-mul_right d j, dp)

-- ---- the sum's bits
pub record Shown (y : Float) (n : ℕ) : Type 0 where
  pub bits : to_bits binary64 y % 0x1_0000_0000 ≡ n
  pub number : T (not (is_nan y))

module _ (num d : ℕ) (dp : 0 < d) (lo : 2 ^ 52 * (d * 1) ≤ num) (hi : num + d * 1 ≤ 2 ^ 53 * (d * 1)) where
  den_pos : 0 < d * 1
  den_pos = omega arith

  abbrev y : Float
  y = round binary64 false num (d * 1)

  abbrev Q : ℕ
  Q = q num (d * 1) den_pos lo hi

  close : Within (Q * d) num d
  close = subst (λ (z : ℕ). Within (Q * z) num z) (one d) (near num (d * 1) den_pos lo hi)
    where
      one : (d : ℕ) → d * 1 ≡ d
      one d = omega arith

  shows : (n : ℕ) → (1074 * 2 ^ 52 + Q) % 0x1_0000_0000 ≡ n → Shown y n
  shows n e =
      let v = value num (d * 1) den_pos lo hi in
      record { bits = ap (λ (z : ℕ). z % 0x1_0000_0000) (bits_is y Q v (at_least num (d * 1) den_pos lo hi) (at_most num (d * 1) den_pos lo hi)) ∙ e; number = is_number y (Q * 2 ^ 1074) (2 ^ 1074) v }

abbrev answer : Bool → ℕ → ℕ
answer s R = cond s (0x8000_0000 - R) (0x8000_0000 + R)

summed : (y : Float) (s : Bool) (g R : ℕ) → HasValue y s g (2 ^ 1074) → 2 * (R * 2 ^ 1074) < 2 * g + 2 ^ 1074 → 2 * g < 2 * (R * 2 ^ 1074) + 2 ^ 1074 → R < 2 ^ 31
    → Shown (add binary64 y big) (answer s R)
unfolding add
summed nan s g R v lo hi h = absurd v
summed (inf t) s g R v lo hi h = absurd v
summed (fin true m e) false g R v lo hi h = absurd (true≢false v.0)
summed (fin false m e) true g R v lo hi h = absurd (true≢false (sym v.0))
summed (fin false m e) false g R v lo hi h =
    let a = m * up e in
    let d = down e in
    let dp = down_pos e in
    let l : a < 2 ^ 32 * d = few a d g R (2 ^ 1074) 0 dp v.1 lo hi h in
    let num = a * 1 + 0x30_0001 * 2 ^ 31 * d in
    let b : 2 ^ 52 * (d * 1) ≤ num = omega arith in
    let t : num + d * 1 ≤ 2 ^ 53 * (d * 1) = omega (arith, l, dp) in
    let i : Q num d dp b t ≡ 0x18_0000_8000_0000 + R = up_is a d g R (2 ^ 1074) 0x18_0000_8000_0000 dp v.1 lo hi (Q num d dp b t) num (plain a d) (close num d dp b t) in
    shows num d dp b t (0x8000_0000 + R) (last (Q num d dp b t) i)
  where
    plain : (a d : ℕ) → a * 1 + 0x30_0001 * 2 ^ 31 * d ≡ a + 0x18_0000_8000_0000 * d
    plain a d = omega arith

    last : (z : ℕ) → z ≡ 0x18_0000_8000_0000 + R → (1074 * 2 ^ 52 + z) % 0x1_0000_0000 ≡ 0x8000_0000 + R
    last z i = omega arith
summed (fin true m e) true g R v lo hi h =
    let a = m * up e in
    let d = down e in
    let dp = down_pos e in
    let l : a < 2 ^ 32 * d = few a d g R (2 ^ 1074) 0 dp v.1 lo hi h in
    let num = 0x30_0001 * 2 ^ 31 * d - a * 1 in
    let b : 2 ^ 52 * (d * 1) ≤ num = omega (arith, l) in
    let t : num + d * 1 ≤ 2 ^ 53 * (d * 1) = omega (arith, l, dp) in
    let i : Q num d dp b t + R ≡ 0x18_0000_8000_0000 = down_is a d g R (2 ^ 1074) 0x18_0000_8000_0000 dp v.1 lo hi (Q num d dp b t) num (plain a d l) (close num d dp b t) in
    subst (λ (z : Bool). Shown (cond z (round binary64 false num (d * 1)) (round binary64 (true && ltb (0x30_0001 * 2 ^ 31 * d) (a * 1)) (a * 1 - 0x30_0001 * 2 ^ 31 * d) (d * 1))) (0x8000_0000 - R))
    (sym (lt-ltb (a * 1) (0x30_0001 * 2 ^ 31 * d) (under a d l)))
    (shows num d dp b t (0x8000_0000 - R) (last (Q num d dp b t) i))
  where
    under : (a d : ℕ) → a < 2 ^ 32 * d → a * 1 < 0x30_0001 * 2 ^ 31 * d
    under a d l = omega arith

    plain : (a d : ℕ) → a < 2 ^ 32 * d → 0x30_0001 * 2 ^ 31 * d - a * 1 + a ≡ 0x18_0000_8000_0000 * d
    plain a d l = omega arith

    last : (z : ℕ) → z + R ≡ 0x18_0000_8000_0000 → (1074 * 2 ^ 52 + z) % 0x1_0000_0000 ≡ 0x8000_0000 - R
    last z i = omega arith

-- ---- the float x, below 2 ^ 31 in size
raises : (m : ℕ) (e : ℤ) (s : Bool) → rounds (m * up e) (down e) < 2 ^ 31 → answer s (rounds (m * up e) (down e)) ≡ lifted (round_as 31 (fin s m e))
unfolding round_as round_size lifted
raises m e false h = go (rounds (m * up e) (down e)) h
  where
    go : (r : ℕ) → r < 2 ^ 31 → 0x8000_0000 + r ≡ 0x8000_0000 + min r 0x7fff_ffff
    go r h = omega arith
raises m e true h = minus (rounds (m * up e) (down e)) h ∙ ap (λ (r : ℕ). lifted (neg_ℤ (pos r))) (whole (rounds (m * up e) (down e)) h)
  where
    minus : (r : ℕ) → r < 2 ^ 31 → 0x8000_0000 - r ≡ lifted (neg_ℤ (pos r))
    minus zero h = refl
    minus (suc r) h = omega arith

    whole : (r : ℕ) → r < 2 ^ 31 → r ≡ min r 0x8000_0000
    whole r h = omega arith

module _ (s : Bool) (m : ℕ) (e : ℤ) (f : T (fits binary32 (fin s m e))) (l : m * up e < 2 ^ 31 * down e) where
  K : Kind (m * up e) (down e)
  K = kind s m e f l

  N : Nudge (round binary64 s (m * up e * (0x100_0000_0001 * 1)) (down e * 0x100_0000_0000)) s (m * up e) (down e)
  N = nudged s (m * up e) (down e) (down_pos e) (shallow binary32 s m e f) l K

  at : Shown (add binary64 (mul binary64 (fin s m e) nudge) big) (lifted (round_as 31 (fin s m e)))
  unfolding mul
  at =
      let r = few_rounds (m * up e) (down e) (down_pos e) K in
      let p = round binary64 s (m * up e * (0x100_0000_0001 * 1)) (down e * 0x100_0000_0000) in
      subst (λ (t : Bool). Shown (add binary64 (round binary64 t (m * up e * (0x100_0000_0001 * 1)) (down e * 0x100_0000_0000)) big) (lifted (round_as 31 (fin s m e)))) (sym (like s))
      (subst (Shown (add binary64 p big)) (raises m e s r) (summed p s N.g (rounds (m * up e) (down e)) N.is N.lo N.hi r))

pub shown-at : (x : Float) → T (fits binary32 x) → T (lt (fin true 1 (pos 31)) x) → T (lt x (fin false 1 (pos 31))) → Shown (add binary64 (mul binary64 x nudge) big) (lifted (round_as 31 x))
unfolding lt
shown-at nan f lo hi = absurd lo
shown-at (inf true) f lo hi = absurd lo
shown-at (inf false) f lo hi = absurd hi
shown-at (fin false m e) f lo hi = at false m e f (tidy (m * up e) (down e) (ltb→lt (m * up e * 1) (1 * 2 ^ 31 * down e) hi))
  where
    tidy : (a d : ℕ) → a * 1 < 1 * 2 ^ 31 * d → a < 2 ^ 31 * d
    tidy a d h = omega arith
shown-at (fin true m e) f lo hi = at true m e f (tidy (m * up e) (down e) (ltb→lt (m * up e * 1) (1 * 2 ^ 31 * down e) lo))
  where
    tidy : (a d : ℕ) → a * 1 < 1 * 2 ^ 31 * d → a < 2 ^ 31 * d
    tidy a d h = omega arith

-- ---- every float: what is held of it, and the ends
abbrev pub held_of : Float → Float
held_of x = cond (lt (fin true 1 (pos 31)) x && lt x (fin false 1 (pos 31))) x plus_zero

abbrev Sum : Float → Float
Sum x = add binary64 (mul binary64 x nudge) big

zero-shown : Shown (Sum plus_zero) (lifted (round_as 31 plus_zero))
zero-shown = shown-at plus_zero (unfold fits in tt) (unfold lt in tt) (unfold lt in tt)

pub held-shown : (x : Float) → T (fits binary32 x) → Shown (Sum (held_of x)) (lifted (round_as 31 (held_of x)))
held-shown x f = go (lt (fin true 1 (pos 31)) x) (lt x (fin false 1 (pos 31))) (shown-at x f)
  where
    go : (b c : Bool) → (T b → T c → Shown (Sum x) (lifted (round_as 31 x))) → Shown (Sum (cond (b && c) x plus_zero)) (lifted (round_as 31 (cond (b && c) x plus_zero)))
    go true true h = h tt tt
    go true false h = zero-shown
    go false c h = zero-shown

above : (x : Float) → T (lt (fin true 1 (pos 31)) x) → T (not (is_nan x))
unfolding lt is_nan
above nan h = absurd h
above (inf s) h = tt
above (fin s m e) h = tt

pub held_fits : (x : Float) → T (fits binary32 x) → T (fits binary64 (held_of x) && not (is_nan (held_of x)))
held_fits x f = go (lt (fin true 1 (pos 31)) x) (lt x (fin false 1 (pos 31))) (λ (t : T (lt (fin true 1 (pos 31)) x)). and_i (fits binary64 x) (not (is_nan x)) (fits_widens x f) (above x t))
  where
    go : (b c : Bool) → (T b → T (fits binary64 x && not (is_nan x))) → T (fits binary64 (cond (b && c) x plus_zero) && not (is_nan (cond (b && c) x plus_zero)))
    go true true h = h tt
    go true false h = unfold fits is_nan in tt
    go false c h = unfold fits is_nan in tt

some-top : (d : ℕ) → 0 < d → 0 < 1 * 2 ^ 31 * d
some-top d h = omega arith

pub top-is : (x : Float) → T (le (two_to 31) x) → 0xffff_ffff ≡ lifted (round_as 31 x)
unfolding le lt eq round_as round_size lifted
top-is nan h = absurd h
top-is (inf true) h = absurd h
top-is (inf false) h = refl
top-is (fin true m e) h = absurd (not_zero (1 * 2 ^ 31 * down e) (eqb (1 * 2 ^ 31 * down e) (m * up e * 1)) (some-top (down e) (down_pos e)) h)
top-is (fin false m e) h = go (rounds (m * up e) (down e)) (over-top 0x8000_0000 31 (fin false m e) refl h)
  where
    go : (r : ℕ) → 0x8000_0000 ≡ min r 0x8000_0000 → 0xffff_ffff ≡ 0x8000_0000 + min r 0x7fff_ffff
    go r e = omega arith

pub bottom_is : (x : Float) → T (le x (fin true 1 (pos 31))) → 0 ≡ lifted (round_as 31 x)
unfolding le lt eq round_as round_size lifted
bottom_is nan h = absurd h
bottom_is (inf true) h = refl
bottom_is (inf false) h = absurd h
bottom_is (fin false m e) h = absurd (no_size (m * up e * 1) (1 * 2 ^ 31 * down e) (some-top (down e) (down_pos e)) h)
bottom_is (fin true m e) h = ap (λ (r : ℕ). lifted (neg_ℤ (pos r))) (under_bottom 0x8000_0000 31 (fin true m e) refl h)

-- between the ends a float is held, and a NaN is rounded as 0
pub between : (x : Float) → T (not (le (two_to 31) x)) → T (not (le x (fin true 1 (pos 31)))) → lifted (round_as 31 (held_of x)) ≡ lifted (round_as 31 x)
unfolding le lt eq
between nan a b = unfold round_as round_size in refl
between (inf true) a b = absurd b
between (inf false) a b = absurd a
between (fin false m e) a b =
    let x = fin false m e in
    ap (λ (t : Bool). lifted (round_as 31 (cond (t && lt x (fin false 1 (pos 31))) x plus_zero))) (lt-ltb 0 (1 * 2 ^ 31 * down e + m * up e * 1) (more (m * up e) (down e) (down_pos e)))
    ∙ ap (λ (t : Bool). lifted (round_as 31 (cond t x plus_zero))) (lt-ltb (m * up e * 1) (1 * 2 ^ 31 * down e) (le_no (1 * 2 ^ 31 * down e) (m * up e * 1) a))
  where
    more : (a d : ℕ) → 0 < d → 0 < 1 * 2 ^ 31 * d + a * 1
    more a d h = omega arith
between (fin true m e) a b =
    let x = fin true m e in
    ap (λ (t : Bool). lifted (round_as 31 (cond (t && lt x (fin false 1 (pos 31))) x plus_zero))) (lt-ltb (m * up e * 1) (1 * 2 ^ 31 * down e) (le_no' (m * up e * 1) (1 * 2 ^ 31 * down e) b))
    ∙ ap (λ (t : Bool). lifted (round_as 31 (cond t x plus_zero))) (lt-ltb 0 (m * up e * 1 + 1 * 2 ^ 31 * down e) (more (m * up e) (down e) (down_pos e)))
  where
    more : (a d : ℕ) → 0 < d → 0 < a * 1 + 1 * 2 ^ 31 * d
    more a d h = omega arith

-- ---- and lowered again
turned : (r n k : ℕ) → r + n ≡ k → pos n -ℤ pos k ≡ neg_ℤ (pos r)
turned r n k h =
    ap (λ (z : ℤ). z +ℤ neg_ℤ (pos k)) (sym (neg_ℤ-neg_ℤ (pos n)))
    ∙ +ℤ_comm (neg_ℤ (neg_ℤ (pos n))) (neg_ℤ (pos k))
    ∙ sym (neg_ℤ-+ℤ (pos k) (neg_ℤ (pos n)))
    ∙ ap neg_ℤ (ap (λ (j : ℕ). pos j -ℤ pos n) (sym h) ∙ +ℤ-neg_ℤ_cancel (pos r) (pos n))

pub lowered_is : (z : ℤ) → SFits w32 z → to_z w64 (lifted z) -ℤ pos 0x8000_0000 ≡ z
unfolding lifted
lowered_is (pos n) f =
    ap (λ (z : ℤ). z -ℤ pos 0x8000_0000) (to_z_pos w64 (0x8000_0000 + n) (room n f.sfits) ∙ ap pos (turn n))
    ∙ +ℤ-neg_ℤ_cancel (pos n) (pos 0x8000_0000)
  where
    room : (n : ℕ) → n < 0x8000_0000 → 0x8000_0000 + n < 0x8000_0000_0000_0000
    room n h = omega arith

    turn : (n : ℕ) → 0x8000_0000 + n ≡ n + 0x8000_0000
    turn n = omega arith
lowered_is (negsuc n) f =
    ap (λ (z : ℤ). z -ℤ pos 0x8000_0000) (to_z_pos w64 (0x7fff_ffff - n) (room n))
    ∙ turned (suc n) (0x7fff_ffff - n) 0x8000_0000 (back n f.sfits)
  where
    room : (n : ℕ) → 0x7fff_ffff - n < 0x8000_0000_0000_0000
    room n = omega arith

    back : (n : ℕ) → n < 0x8000_0000 → suc n + (0x7fff_ffff - n) ≡ 0x8000_0000
    back n h = omega arith
