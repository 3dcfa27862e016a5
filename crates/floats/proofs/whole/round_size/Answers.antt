-- `round_size` meets its contract: twice the size is in the range of the cast. Assumes nothing.
use Rattle.std.proofs.Common.{ℕ, ◌+◌, ◌*◌, ◌/◌, ◌<◌, ◌≤◌, sym, refl, ap, ◌∙◌, subst, le_refl, arith, lit≤}
use lib.Ieee.{binary64, of_bits, neg}
use Rattle.floats.proofs.Range.{yes, no}
use Rattle.floats.proofs.whole.Halves.{above_zero, below-zero, over-top, under_bottom, none_there}
use Rattle.floats.proofs.whole.round_size.Goals as goal

half_fits : (n b : ℕ) → n < 2 * b → (n + 1) / 2 ≤ b
half_fits n b h = omega arith

pub returns-then-x : goal.returns-then-x
unfolding of_bits
returns-then-x c = (over-top 0x8000_0000 31 c.args.x refl (yes c.if-x.true), le_refl 0x8000_0000)

pub returns-then-x-2 : goal.returns-then-x-2
unfolding of_bits neg
returns-then-x-2 c = (under_bottom 0x8000_0000 31 c.args.x refl (yes c.if-x-2.true), le_refl 0x8000_0000)

pub truncating_f64_to_u64-requires : goal.truncating_f64_to_u64-requires
unfolding of_bits
truncating_f64_to_u64-requires c =
    let u = (above_zero binary64 31 (lit≤ tt) (lit≤ tt) c.args.x (yes c.well_formed.0.1) (yes c.if-x-3.true) (no c.if-x.false)) in
    record { lower_bound = u.0; upper_bound = u.1 }

pub overflow_add-result : goal.overflow_add-result
unfolding of_bits
overflow_add-result c =
    let u = (above_zero binary64 31 (lit≤ tt) (lit≤ tt) c.args.x (yes c.well_formed.0.1) (yes c.if-x-3.true) (no c.if-x.false)) in
    omega (arith, c.truncating_f64_to_u64.ensures, u.2)

pub returns-then-x-3 : goal.returns-then-x-3
unfolding of_bits
returns-then-x-3 c =
    let e = c.truncating_f64_to_u64.ensures in
    let u = (above_zero binary64 31 (lit≤ tt) (lit≤ tt) c.args.x (yes c.well_formed.0.1) (yes c.if-x-3.true) (no c.if-x.false)) in
    (ap (λ (n : ℕ). (n + 1) / 2) e ∙ u.3, half_fits c.truncating_f64_to_u64.result 0x8000_0000 (subst (λ (n : ℕ). n < 2 * 0x8000_0000) (sym e) u.2))

pub truncating_f64_to_u64-requires-then-x-4 : goal.truncating_f64_to_u64-requires-then-x-4
unfolding of_bits neg
truncating_f64_to_u64-requires-then-x-4 c =
    let d = (below-zero binary64 31 (lit≤ tt) (lit≤ tt) c.args.x (yes c.well_formed.0.1) (yes c.if-x-4.true) (no c.if-x-2.false)) in
    record { lower_bound = d.0; upper_bound = d.1 }

pub overflow_add-result-then-x-4 : goal.overflow_add-result-then-x-4
unfolding of_bits neg
overflow_add-result-then-x-4 c =
    let d = (below-zero binary64 31 (lit≤ tt) (lit≤ tt) c.args.x (yes c.well_formed.0.1) (yes c.if-x-4.true) (no c.if-x-2.false)) in
    omega (arith, c.truncating_f64_to_u64-then-x-4.ensures, d.2)

pub returns-then-x-4 : goal.returns-then-x-4
unfolding of_bits neg
returns-then-x-4 c =
    let e = c.truncating_f64_to_u64-then-x-4.ensures in
    let d = (below-zero binary64 31 (lit≤ tt) (lit≤ tt) c.args.x (yes c.well_formed.0.1) (yes c.if-x-4.true) (no c.if-x-2.false)) in
    (ap (λ (n : ℕ). (n + 1) / 2) e ∙ d.3, half_fits c.truncating_f64_to_u64-then-x-4.result 0x8000_0000 (subst (λ (n : ℕ). n < 2 * 0x8000_0000) (sym e) d.2))

pub returns : goal.returns
unfolding of_bits
returns c = (none_there 0x8000_0000 c.args.x (no c.if-x-3.false) (no c.if-x-4.false), lit≤ tt)
