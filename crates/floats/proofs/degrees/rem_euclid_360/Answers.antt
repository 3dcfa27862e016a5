-- `rem_euclid_360` meets its contract: below 360 in size x is its own remainder, and `rest` answers from there on.
-- Assumes nothing.
use Rattle.std.proofs.Common.{sym, ap, ◌∙◌}
use lib.Ieee.{of_bits, neg}
use Rattle.floats.proofs.Range.{yes, no}
use Rattle.floats.proofs.degrees.Turns.{rem_neg, kept, raised, within, below, beyond, turned}
use Rattle.floats.proofs.degrees.rem_euclid_360.Goals as goal

pub returns-then-x-2 : goal.returns-then-x-2
unfolding of_bits
returns-then-x-2 c = within c.args.x (yes c.well_formed.0.1) (yes c.if-x.true) (yes c.if-x-2.true)

pub rest-requires : goal.rest-requires
unfolding of_bits
rest-requires c = c.if-x-2.false

pub returns-then-x : goal.returns-then-x
unfolding of_bits
returns-then-x c = c.rest.ensures ∙ beyond c.args.x (yes c.if-x.true) c.if-x-2.false

pub returns-then-x-3 : goal.returns-then-x-3
unfolding of_bits neg
returns-then-x-3 c = below c.args.x (yes c.well_formed.0.1) (no c.if-x.false) (yes c.if-x-3.true)

pub rest-r-requires : goal.rest-r-requires
unfolding of_bits neg
rest-r-requires c = turned c.args.x (no c.if-x.false) c.if-x-3.false

pub returns-then-r : goal.returns-then-r
unfolding of_bits
returns-then-r c = raised c.args.x (neg c.rest-r.result) (rem_neg c.args.x ∙ ap neg (sym c.rest-r.ensures)) c.if-r.true

pub returns : goal.returns
unfolding of_bits
returns c = kept c.args.x (neg c.rest-r.result) (rem_neg c.args.x ∙ ap neg (sym c.rest-r.ensures)) c.if-r.false
