-- The bit of a byte of a plane.
use mathlib.Core.Path.{ap}
use Prim.Native.Nat.{ℕ, ◌/◌, ◌%◌, ◌^◌}
use native.Mathlib.Omega.{arith}
use Rattle.lbmp.proofs.paint.bit.Goals as goal

pub returns : goal.returns
returns c = (ap (λ (b : ℕ). b / 2 ^ c.args.s % 2) c.u8_at.ensures.0, omega arith)
