-- What is rounded is an i32.
use Rattle.std.proofs.Common.{◌+◌, ◌*◌, ◌/◌, min, true, false, arith, lit<, w32, SFits}
use lib.Ieee.{Float, nan, inf, fin, up, down}
use Rattle.floats.specs.Whole.{round_size, round_as}
use Rattle.floats.proofs.whole.Signed.{in32}

pub round_fits : (x : Float) → SFits w32 (round_as 31 x)
unfolding round_as round_size
round_fits nan = record { sfits = lit< tt }
round_fits (inf true) = record { sfits = lit< tt }
round_fits (inf false) = record { sfits = lit< tt }
round_fits (fin true m e) = in32 (min ((2 * (m * up e) + down e) / (2 * down e)) 0x8000_0000) (omega arith)
round_fits (fin false m e) = record { sfits = omega arith }
