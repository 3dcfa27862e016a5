-- The rest is the nearest: it lies above minus half of H, and at half of H at most, so that of two k as near the lower is
-- taken; k is the quotient rounded down, of either sign. Assumes nothing.
use Rattle.std.proofs.Common.{ℕ, zero, suc, ◌+◌, ◌-◌, ◌*◌, ◌/◌, ◌<◌, ◌≤◌, Bool, true, false, not, T, leb, ℤ, pos, negsuc, ◌-ℤ◌, ◌*ℤ◌, sym, ap, ◌∙◌, subst, div-mul-le_self, arith, leb→le}
use native.Mathlib.Nat.{lt-div-mul-add}
use lib.Dec.{nleb→lt}
use Rattle.angle.specs.Meaning.{H, signed, rest}
use Rattle.floats.proofs.Powers.{like}
use Rattle.angle.proofs.Signs.{product, less, short}
use Rattle.angle.proofs.Placing.{H-pos, Around, k-at}

abbrev pub Nearest : ℤ → Type 0
Nearest (pos n) = 2 * n ≤ H
Nearest (negsuc n) = 2 * suc n < H

-- such a k there is
around_one : (s : Bool) (x : ℕ) → (j : ℕ) × Around s x j
around_one false x =
    let n = 2 * x + (H - 1) in
    let two : 0 < 2 * H = omega (arith, H-pos) in
    (n / (2 * H), (omega (arith, div-mul-le_self n (2 * H), H-pos), omega (arith, lt-div-mul-add {a = n} two, H-pos)))
around_one true x =
    let n = 2 * x + H in
    let two : 0 < 2 * H = omega (arith, H-pos) in
    (n / (2 * H), (omega (arith, div-mul-le_self n (2 * H)), omega (arith, lt-div-mul-add {a = n} two)))

plain : (n : ℕ) → 2 * n < H → Nearest (signed true n)
plain zero h = omega arith
plain (suc n) h = h

beside : (s : Bool) (x j : ℕ) → Around s x j → Nearest (signed s x -ℤ signed s (j * H))
beside s x j a = go s (leb (j * H) x) (leb→le (j * H) x) (nleb→lt (j * H) x) a
  where
    go : (s b : Bool) → (T b → j * H ≤ x) → (T (not b) → x < j * H) → Around s x j → Nearest (signed s x -ℤ signed s (j * H))
    go false true f g a = let l : j * H ≤ x = f tt in subst Nearest (sym (less false x (j * H) (x - j * H) (omega arith))) (omega (arith, a.1))
    go true true f g a = let l : j * H ≤ x = f tt in subst Nearest (sym (less true x (j * H) (x - j * H) (omega arith))) (plain (x - j * H) (omega (arith, a.1, H-pos)))
    go false false f g a = let l : x < j * H = g tt in subst Nearest (sym (short false x (j * H) (j * H - x) (omega arith))) (plain (j * H - x) (omega (arith, a.0)))
    go true false f g a = let l : x < j * H = g tt in subst Nearest (sym (short true x (j * H) (j * H - x) (omega arith))) (omega (arith, a.0))

at : (s : Bool) (x : ℕ) → Nearest (rest (signed s x))
unfolding rest
at s x =
    let o = around_one s x in
    subst Nearest
    (sym (ap (λ (z : ℤ). signed s x -ℤ z *ℤ pos H) (k-at s x o.0 o.1) ∙ ap (λ (z : ℤ). signed s x -ℤ z) (product s false o.0 H ∙ ap (λ (b : Bool). signed b (o.0 * H)) (like s))))
    (beside s x o.0 o.1)

pub nearest : (t : ℤ) → Nearest (rest t)
nearest (pos n) = at false n
nearest (negsuc n) = at true (suc n)
