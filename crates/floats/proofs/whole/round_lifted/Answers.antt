-- `round_lifted` meets its contract: the sum's bits round what is held, and the ends are what x is held to. Assumes nothing.
use Rattle.std.proofs.Common.{◌%◌, not, ◌&&◌, T, sym, ap, ◌∙◌, subst}
use lib.Ieee.{Float, binary64, of_bits, neg, add, mul, to_bits, fits, is_nan}
use Rattle.floats.proofs.Range.{yes, no}
use Rattle.floats.proofs.whole.Nudged.{nudge}
use Rattle.floats.proofs.whole.Lifted.{big, held-shown, held_fits, top-is, bottom_is, between}
use Rattle.floats.proofs.whole.round_lifted.Goals as goal

pub float_to_float-y : goal.float_to_float-y
unfolding of_bits
float_to_float-y c =
    subst (λ (z : Float). T (fits binary64 z && not (is_nan z))) (sym c.held.ensures) (held_fits c.args.x (yes c.well_formed.0.1))

pub float_to_bits-n : goal.float_to_bits-n
unfolding of_bits
float_to_bits-n c =
    subst (λ (z : Float). T (not (is_nan (add binary64 (mul binary64 z nudge) big)))) (sym c.held.ensures) (held-shown c.args.x (yes c.well_formed.0.1)).number

pub returns-then-x : goal.returns-then-x
unfolding of_bits
returns-then-x c = top-is c.args.x (yes c.if-x.true)

pub returns-then-x-2 : goal.returns-then-x-2
unfolding of_bits neg
returns-then-x-2 c = bottom_is c.args.x (yes c.if-x-2.true)

pub returns : goal.returns
unfolding of_bits neg
returns c =
    let x = c.args.x in
    ap (λ (z : Float). to_bits binary64 (add binary64 (mul binary64 z nudge) big) % 0x1_0000_0000) c.held.ensures
    ∙ (held-shown x (yes c.well_formed.0.1)).bits
    ∙ between x (no c.if-x.false) (no c.if-x-2.false)
