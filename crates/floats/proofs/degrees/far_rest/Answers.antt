-- `far_rest` meets its contract, band by band. Assumes nothing.
use Rattle.std.proofs.Common.{◌≡◌, ℕ, ◌*◌, ◌%◌, pos, ap, ◌∙◌}
use lib.Ieee.{Float, binary32, of_bits, mul, div, rem, of_int, to_unsigned}
use Rattle.std.proofs.num.Truncating.{two_to}
use Rattle.floats.specs.Degrees.{turn}
use Rattle.floats.proofs.Range.{yes, no}
use Rattle.floats.proofs.degrees.Parts.{Parts, low_band, mid_band, top_band, no_band}
use Rattle.floats.proofs.degrees.far_rest.Goals as goal

-- the answer of `in_turn` at what is cut
answer : (r y z : Float) (n k : ℕ) → r ≡ div binary32 (of_int binary32 (pos (n * k % 11796480))) (two_to 15) → n ≡ to_unsigned 64 z → Parts z k y → r ≡ rem binary32 y turn
answer r y z n k e f p = e ∙ ap (λ (x : ℕ). div binary32 (of_int binary32 (pos (x * k % 11796480))) (two_to 15)) f ∙ p.2

pub truncating_f32_to_u64-requires : goal.truncating_f32_to_u64-requires
unfolding of_bits
truncating_f32_to_u64-requires c =
    let p = low_band c.args.y (yes c.well_formed.0.1) (no c.requires) (yes c.if-y.true) in
    record { lower_bound = p.0; upper_bound = p.1 }

pub returns-then-y : goal.returns-then-y
unfolding of_bits
returns-then-y c =
    answer c.in_turn.result c.args.y (mul binary32 c.args.y (two_to 15)) c.truncating_f32_to_u64.result 1 c.in_turn.ensures c.truncating_f32_to_u64.ensures
    (low_band c.args.y (yes c.well_formed.0.1) (no c.requires) (yes c.if-y.true))

pub truncating_f32_to_u64-requires-then-y-2 : goal.truncating_f32_to_u64-requires-then-y-2
unfolding of_bits
truncating_f32_to_u64-requires-then-y-2 c =
    let p = mid_band c.args.y (yes c.well_formed.0.1) (no c.if-y.false) (yes c.if-y-2.true) in
    record { lower_bound = p.0; upper_bound = p.1 }

pub returns-then-y-2 : goal.returns-then-y-2
unfolding of_bits
returns-then-y-2 c =
    answer c.in_turn-then-y-2.result c.args.y (div binary32 c.args.y (two_to 25)) c.truncating_f32_to_u64-then-y-2.result 8912896 c.in_turn-then-y-2.ensures c.truncating_f32_to_u64-then-y-2.ensures
    (mid_band c.args.y (yes c.well_formed.0.1) (no c.if-y.false) (yes c.if-y-2.true))

pub truncating_f32_to_u64-requires-then-z : goal.truncating_f32_to_u64-requires-then-z
unfolding of_bits
truncating_f32_to_u64-requires-then-z c =
    let p = top_band c.args.y (yes c.well_formed.0.1) (no c.if-y-2.false) (yes c.if-z.true) in
    record { lower_bound = p.0; upper_bound = p.1 }

pub returns-then-z : goal.returns-then-z
unfolding of_bits
returns-then-z c =
    answer c.in_turn-then-z.result c.args.y (div binary32 c.args.y (two_to 65)) c.truncating_f32_to_u64-then-z.result 1048576 c.in_turn-then-z.ensures c.truncating_f32_to_u64-then-z.ensures
    (top_band c.args.y (yes c.well_formed.0.1) (no c.if-y-2.false) (yes c.if-z.true))

pub returns : goal.returns
unfolding of_bits
returns c = no_band c.args.y (yes c.well_formed.0.1) (no c.if-y-2.false) (no c.if-z.false)
