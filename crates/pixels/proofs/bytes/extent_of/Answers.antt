-- A row's bytes in a word of 32 bits, times the height: the product of two such words fits.
use mathlib.Core.Path.{refl}
use Prim.Native.Nat.{◌*◌, ◌%◌}
use native.Mathlib.Omega.{arith}
use Rattle.pixels.specs.Bytes.{folded}
use Rattle.pixels.proofs.bytes.Places.{row_bytes_le, words-le}
use Rattle.pixels.proofs.bytes.extent_of.Goals as goal

pub overflow_mul-side : goal.overflow_mul-side
overflow_mul-side c =
    let v = c.args.canvas in
    let row = c.struct_known-1.given in
    record { fits = omega (arith, row_bytes_le v _ v.row 4294967295 c.bytes_per_pixel.ensures (omega (arith, row))) }

pub overflow_mul-result : goal.overflow_mul-result
overflow_mul-result c =
    let v = c.args.canvas in
    let n = c.bytes_per_pixel.result in
    record { fits = omega (arith, words-le (n * v.row % 4294967296) v.height (omega arith) (omega (arith, c.struct_known-2-1.given))) }

pub returns : goal.returns
unfolding folded
returns c = rw c.bytes_per_pixel.ensures refl
