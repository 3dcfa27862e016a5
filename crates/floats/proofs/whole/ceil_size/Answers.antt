-- `ceil_size` meets its contract: the whole part, and one more where the test says so. Assumes nothing.
use Rattle.std.proofs.Common.{le_of_lt, lit≤, le→leb}
use lib.Ieee.{of_bits, in_float}
use Rattle.std.proofs.num.Truncating.{above}
use Rattle.floats.proofs.Range.{yes, no, inside}
use Rattle.floats.proofs.whole.Ceil.{ceil, ceil_top, ceil_one, ceil_none}
use Rattle.floats.proofs.whole.ceil_size.Goals as goal

pub returns-then-x : goal.returns-then-x
unfolding of_bits
returns-then-x c = ceil_top c.args.x (yes c.if-x.true)

pub truncating_f32_to_u64-n-requires : goal.truncating_f32_to_u64-n-requires
unfolding of_bits
truncating_f32_to_u64-n-requires c =
    let x = c.args.x in
    let a = above x (yes c.if-x-2.true) (inside 63 x (lit≤ tt) (yes c.if-x-2.true) (no c.if-x.false)).0 in
    record { lower_bound = a.0; upper_bound = a.1 }

pub int_to_float-n : goal.int_to_float-n
unfolding in_float
int_to_float-n c = le→leb c.truncating_f32_to_u64-n.result 0x100_0000 (le_of_lt c.if-n-lt16777216.true)

pub returns-then-n-x : goal.returns-then-n-x
unfolding of_bits
returns-then-n-x c =
    (ceil c.truncating_f32_to_u64-n.result c.args.x (yes c.well_formed.0.1) (yes c.if-x-2.true) (no c.if-x.false) c.truncating_f32_to_u64-n.ensures).1 c.if-n-lt16777216.true c.if-n-x.true

pub returns-else-n-x : goal.returns-else-n-x
unfolding of_bits
returns-else-n-x c =
    (ceil c.truncating_f32_to_u64-n.result c.args.x (yes c.well_formed.0.1) (yes c.if-x-2.true) (no c.if-x.false) c.truncating_f32_to_u64-n.ensures).2 c.if-n-lt16777216.true c.if-n-x.false

pub returns-else-n-lt16777216 : goal.returns-else-n-lt16777216
unfolding of_bits
returns-else-n-lt16777216 c =
    (ceil c.truncating_f32_to_u64-n.result c.args.x (yes c.well_formed.0.1) (yes c.if-x-2.true) (no c.if-x.false) c.truncating_f32_to_u64-n.ensures).0 c.if-n-lt16777216.false

pub returns-then-x-3 : goal.returns-then-x-3
unfolding of_bits
returns-then-x-3 c = ceil_one c.args.x (no c.if-x-2.false) (yes c.if-x-3.true)

pub returns : goal.returns
unfolding of_bits
returns c = ceil_none c.args.x (no c.if-x-3.false)
