-- `as_u8` meets its contract: from 1 to 256 the whole part is a byte. Assumes nothing.
use Rattle.std.proofs.Common.{ℕ, ◌<◌, sym, ◌∙◌, subst, lit≤}
use lib.Ieee.{of_bits}
use Rattle.std.proofs.num.Truncating.{above, below_one}
use Rattle.floats.proofs.Range.{over, inside, yes, no}
use Rattle.floats.proofs.whole.as_u8.Goals as goal

pub returns-then-x : goal.returns-then-x
unfolding of_bits
returns-then-x c = sym (over 8 c.args.x (yes c.if-x.true))

pub truncating_f32_to_u64-requires : goal.truncating_f32_to_u64-requires
unfolding of_bits
truncating_f32_to_u64-requires c =
    let a = above c.args.x (yes c.if-x-2.true) ((inside 8 c.args.x (lit≤ tt) (yes c.if-x-2.true) (no c.if-x.false))).0 in
    record { lower_bound = a.0; upper_bound = a.1 }

pub overflow_cast-result : goal.overflow_cast-result
unfolding of_bits
overflow_cast-result c = record { fits = subst (λ (n : ℕ). n < 256) (sym c.truncating_f32_to_u64.ensures) (inside 8 c.args.x (lit≤ tt) (yes c.if-x-2.true) (no c.if-x.false)).1 }

pub returns-then-x-2 : goal.returns-then-x-2
unfolding of_bits
returns-then-x-2 c = c.truncating_f32_to_u64.ensures ∙ (inside 8 c.args.x (lit≤ tt) (yes c.if-x-2.true) (no c.if-x.false)).2

pub returns : goal.returns
unfolding of_bits
returns c = below_one 8 c.args.x (no c.if-x-2.false)
