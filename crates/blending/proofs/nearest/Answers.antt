-- `nearest` meets its contract: two bytes by an alpha are small enough for 16 bits.
use mathlib.Core.Path.{refl}
use Prim.Native.Nat.{ℕ, ◌+◌, ◌-◌, ◌*◌, ◌%◌, ◌≤◌, ◌<◌}
use native.Mathlib.Nat.{mod-lt}
use native.Mathlib.Omega.{arith}
use Rattle.blending.specs.Blend.{mix}
use Rattle.blending.proofs.Laws.{total-le}
use Rattle.blending.proofs.nearest.Goals as goal

within : (a c bg : ℕ) → a < 256 → c % 256 * a + bg % 256 * (255 - a) ≤ 65025
within a c bg h = total-le a (c % 256) (bg % 256) h (mod-lt c (omega arith)) (mod-lt bg (omega arith))

pub overflow_mul-own : goal.overflow_mul-own
overflow_mul-own c = let x = c.args in record { fits = omega (arith, within x.alpha x.c x.bg (omega arith)) }

pub overflow_mul-rest : goal.overflow_mul-rest
overflow_mul-rest c = let x = c.args in record { fits = omega (arith, within x.alpha x.c x.bg (omega arith)) }

pub overflow_add-result : goal.overflow_add-result
overflow_add-result c = let x = c.args in record { fits = omega (arith, within x.alpha x.c x.bg (omega arith)) }

pub overflow_add-result-2 : goal.overflow_add-result-2
overflow_add-result-2 c = let x = c.args in record { fits = omega (arith, within x.alpha x.c x.bg (omega arith)) }

pub overflow_cast-result : goal.overflow_cast-result
overflow_cast-result c = let x = c.args in record { fits = omega (arith, within x.alpha x.c x.bg (omega arith)) }

pub returns : goal.returns
unfolding mix
returns c = let x = c.args in (refl, omega (arith, within x.alpha x.c x.bg (omega arith)))
