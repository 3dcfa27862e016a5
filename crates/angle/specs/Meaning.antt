-- What the sine and the cosine of an f32 mean, and what is asked of an answer, in the order and the words of 01.
-- Every f32 is a whole number of D-ths, so all of it is said in whole numbers. Definitions only.
use Rattle.std.specs.Prelude.{ℕ, zero, suc, ◌+◌, ◌-◌, ◌*◌, ◌/◌, ◌%◌, ◌^◌, ◌≤◌, Bool, cond, T, ℤ, pos, negsuc, ◌+ℤ◌, ◌-ℤ◌, ◌*ℤ◌, neg_ℤ, ◌<ℤ◌, unsigned_abs, Float}
use Rattle.std.proofs.Math.IntN.{pow}
use Rattle.std.specs.Int.Signed.{shr_z}
use Rattle.std.specs.Float.{nan, inf, fin}
use Rattle.std.specs.Float.Ieee.{up, down}
use Rattle.std.specs.Float.Ieee.Scale.{finite}

unfoldable pub D : ℕ
D = 2 ^ 149

abbrev pub signed : Bool → ℕ → ℤ
signed s n = cond s (neg_ℤ (pos n)) (pos n)

-- t in D-ths.
unfoldable pub parts : Float → ℤ
parts nan = pos 0
parts (inf s) = pos 0
parts (fin s m e) = signed s (m * up e * D / down e)

-- ---- the meaning at t, which is in D-ths

-- "let H be 0x1921FB54442D1846 / 2^60"
unfoldable pub H : ℕ
H = 0x1921FB54442D1846 * 2 ^ 89

-- "k the whole number with t - kH nearest zero (the lower if two)": (2 * t + H - 1) / (2 * H), rounded down.
-- `nearest` (proofs/Nearest): the rest lies above minus half of H, and at half of H at most.
unfoldable pub nearestK : ℤ → ℤ
nearestK t = shr_z (t +ℤ t +ℤ pos (H - 1)) (2 * H)

-- "r that rest"
unfoldable pub rest : ℤ → ℤ
rest t = t -ℤ nearestK t *ℤ pos H

unfoldable pub fact : ℕ → ℕ
fact zero = 1
fact (suc n) = suc n * fact n

-- "as a fraction of whole numbers": what stands for 1, 17! * D ^ 17.
unfoldable pub whole : ℕ
unfolding D fact
whole = fact 17 * D ^ 17

-- r ^ m / m!, for r in D-ths.
unfoldable pub coef : ℕ → ℕ
unfolding D fact
coef m = fact 17 / fact m * D ^ (17 - m)

unfoldable pub term : ℕ → ℤ → ℤ
term m r = pos (coef m) *ℤ pow r m

-- "terms of the power series at r": n of them from the power m on, every second one, their signs alternating.
unfoldable pub terms : ℕ → ℕ → ℤ → ℤ
terms zero m r = pos 0
terms (suc n) m r = term m r -ℤ terms n (suc (suc m)) r

-- "k mod 4"
unfoldable pub mod4 : ℤ → ℕ
mod4 (pos n) = n % 4
mod4 (negsuc n) = 3 - n % 4

-- "placed by k mod 4": the rest's sine and cosine, and the two with a minus, among whole numbers or floats.
unfoldable pub placed : {A : Type 0} → (A → A) → ℕ → A → A → A
placed minus zero s c = s
placed minus (suc zero) s c = c
placed minus (suc (suc zero)) s c = minus s
placed minus (suc (suc (suc n))) s c = minus c

-- "The meaning is the first nine terms of the power series at r, placed by k mod 4"
unfoldable pub sine : ℤ → ℤ
sine t = placed neg_ℤ (mod4 (nearestK t)) (terms 9 1 (rest t)) (terms 9 0 (rest t))

-- The cosine stands a quarter turn on.
unfoldable pub cosine : ℤ → ℤ
cosine t = placed neg_ℤ ((mod4 (nearestK t) + 1) % 4) (terms 9 1 (rest t)) (terms 9 0 (rest t))

-- ---- what is asked

-- "for |t| at most 26"
pub record UpTo26 (t : Float) : Type 0 where
  pub number : T (finite t)
  pub size : unsigned_abs (parts t) ≤ 26 * D

-- "Each f32 answer lies within 2^-20 of that fraction."
pub record Close (y : Float) (f : ℤ) : Type 0 where
  pub number : T (finite y)
  pub near : unsigned_abs (parts y *ℤ pos whole -ℤ f *ℤ pos D) * 2 ^ 20 ≤ D * whole

-- "|right*S - up*C| is at most 2^-18 * (|right|+|up|), and right*C + up*S is positive"
pub record Along (up right S C : ℤ) : Type 0 where
  pub near : unsigned_abs (right *ℤ S -ℤ up *ℤ C) * 2 ^ 18 ≤ (unsigned_abs right + unsigned_abs up) * whole
  pub ahead : pos 0 <ℤ (right *ℤ C +ℤ up *ℤ S)
