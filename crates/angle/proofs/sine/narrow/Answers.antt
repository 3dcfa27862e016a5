-- `narrow` meets its contract: no bits up to 2's are a NaN's, and one number taken off before the division is the half that
-- is added before it and the exponent's that is taken off after it. Assumes nothing.
use Rattle.std.proofs.Common.{◌≡◌, ℕ, ◌-◌, ◌/◌, ◌<◌, ◌≤◌, not, T, sym, ap, subst, arith}
use lib.Ieee.{Float, nan, inf, fin, binary32, binary64, of_bits, to_bits, nan_bits, is_nan}
use Rattle.angle.specs.Sine.{kept_of, narrow_of}
use Rattle.angle.proofs.sine.Minus.{not_nan, narrow_few}
use Rattle.angle.proofs.sine.narrow.Goals as goal

number : (d : Float) → to_bits binary64 d < 0x4000_0000_0000_0000 → T (not (is_nan d))
unfolding to_bits is_nan
number nan h = absurd (large h)
  where
    large : 0x7FF8_0000_0000_0000 < 0x4000_0000_0000_0000 → ⊥
    large h = omega arith
number (inf s) h = tt
number (fin s m e) h = tt

at_once : (b : ℕ) → 0x3810_0000_0000_0000 ≤ b → (b - 0x37FF_FFFF_F000_0000) / 0x2000_0000 ≡ kept_of b - 0x1_C000_0000
at_once b h = omega arith

pub float_to_bits-result : goal.float_to_bits-result
float_to_bits-result c = number c.args.d c.requires.1

pub overflow_cast-result : goal.overflow_cast-result
overflow_cast-result c = record { fits = few (to_bits binary64 c.args.d) c.requires.1 }
  where
    few : (b : ℕ) → b < 0x4000_0000_0000_0000 → (b - 0x37FF_FFFF_F000_0000) / 0x2000_0000 < 0x1_0000_0000
    few b h = omega arith

pub float_from_bits-result : goal.float_from_bits-result
float_from_bits-result c =
    let b = to_bits binary64 c.args.d in
    subst (λ (n : ℕ). T (not (nan_bits binary32 n))) (sym (at_once b c.requires.0)) (not_nan (kept_of b - 0x1_C000_0000) (narrow_few b c.requires.1))

pub returns : goal.returns
unfolding narrow_of
returns c = ap (of_bits binary32) (at_once (to_bits binary64 c.args.d) c.requires.0)
