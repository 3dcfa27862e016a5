-- `angle_at` meets its contract: up to 2 ^ 24 each whole number is an f32. Assumes nothing.
use Rattle.std.proofs.Common.{ℤ, ap}
use lib.Ieee.{binary32, of_int, add, mul, div}
use Rattle.curves.proofs.Casts.{plain, exact}
use Rattle.curves.proofs.strokes.angle_at.Goals as goal

pub int_to_float-result : goal.int_to_float-result
int_to_float-result c = exact c.args.i c.requires

pub returns : goal.returns
returns c =
    let a = c.args in
    ap (λ (z : ℤ). add binary32 a.start (div binary32 (mul binary32 a.sweep (of_int binary32 z)) a.by)) (plain a.i c.requires)
