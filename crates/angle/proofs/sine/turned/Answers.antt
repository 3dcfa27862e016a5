-- `turned` meets its contract: 2 ^ 31 in the bits is a minus. Assumes nothing.
use Rattle.std.proofs.Common.{ℕ, ◌%◌, ◌<◌, arith}
use Rattle.floats.proofs.Range.{yes}
use Rattle.angle.proofs.sine.Minus.{turned-is, turned-number}
use Rattle.angle.proofs.sine.turned.Goals as goal

parity : (n : ℕ) → n % 2 < 2
parity n = omega arith

pub float_from_bits-result : goal.float_from_bits-result
float_from_bits-result c =
    let w = c.wrapping_add_u32 in
    turned-number c.args.y (yes c.well_formed.1.0.1) c.requires w.result (c.args.n % 2) (parity c.args.n) w.ensures.value

pub returns : goal.returns
returns c =
    let w = c.wrapping_add_u32 in
    turned-is c.args.y (yes c.well_formed.1.0.1) c.requires w.result (c.args.n % 2) (parity c.args.n) w.ensures.value
