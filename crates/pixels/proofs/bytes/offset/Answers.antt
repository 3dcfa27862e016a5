-- The pixel's number in the rows times a word's bytes.
use native.Mathlib.Omega.{arith}
use mathlib.Core.Path.{sym, ap₂}
use Prim.Native.Nat.{ℕ, ◌*◌}
use Rattle.pixels.proofs.bytes.Places.{scaled-le}
use Rattle.pixels.proofs.bytes.offset.Goals as goal

pub overflow_mul-result : goal.overflow_mul-result
overflow_mul-result c = record { fits = omega (arith, scaled-le c.args.canvas _ _ c.index.ensures.1 (sym c.bytes_per_pixel.ensures)) }

pub returns : goal.returns
returns c = ap₂ (λ (k s : ℕ). k * s) c.index.ensures.0 c.bytes_per_pixel.ensures
