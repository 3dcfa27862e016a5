-- `in_turn` meets its contract: a product's remainder is that of the remainders' product. Assumes nothing.
use Rattle.std.proofs.Common.{ℕ, ◌*◌, ◌%◌, ◌<◌, ◌≤◌, pos, ap, le_of_lt, mul-le-mul_right, mod-lt, arith, lit<, le→leb}
use lib.Ieee.{binary32, div, of_int, of_bits, in_float}
use Rattle.std.proofs.num.Truncating.{two_to}
use Rattle.floats.proofs.degrees.Parts.{times_mod}
use Rattle.floats.proofs.degrees.in_turn.Goals as goal

pub overflow_mul-result : goal.overflow_mul-result
overflow_mul-result c = omega (arith, c.requires, mul-le-mul_right c.args.k (le_of_lt (mod-lt c.args.n {m = 11796480} (lit< tt))))

pub int_to_float-result : goal.int_to_float-result
unfolding in_float
int_to_float-result c = le→leb (c.args.n % 11796480 * c.args.k % 11796480) 0x100_0000 (low (c.args.n % 11796480 * c.args.k % 11796480) (mod-lt (c.args.n % 11796480 * c.args.k) (lit< tt)))
  where
    low : (r : ℕ) → r < 11796480 → r ≤ 0x100_0000
    low r h = omega arith

pub returns : goal.returns
unfolding of_bits
returns c = ap (λ (r : ℕ). div binary32 (of_int binary32 (pos r)) (two_to 15)) (times_mod c.args.n c.args.k 11796480)
