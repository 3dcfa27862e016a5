-- The cases are those of the definition.
use lib.Ieee.{of_bits}
use mathlib.Core.Bool.{true, false}
use Rattle.segments.proofs.Sides.{along, enters, leaves}
use Rattle.segments.proofs.narrow.Goals as goal

pub returns-then-q : goal.returns-then-q
unfolding of_bits
returns-then-q c = along c.args.p c.args.q c.args.part true c.if-p.true c.if-q.true

pub returns-then-p : goal.returns-then-p
unfolding of_bits
returns-then-p c = along c.args.p c.args.q c.args.part false c.if-p.true c.if-q.false

pub returns-then-part-r : goal.returns-then-part-r
unfolding of_bits
returns-then-part-r c = enters c.args.p c.args.q c.args.part true c.if-p.false c.if-p-2.true c.if-part-r.true

pub returns-then-p-2 : goal.returns-then-p-2
unfolding of_bits
returns-then-p-2 c = enters c.args.p c.args.q c.args.part false c.if-p.false c.if-p-2.true c.if-part-r.false

pub returns-then-r-part : goal.returns-then-r-part
unfolding of_bits
returns-then-r-part c = leaves c.args.p c.args.q c.args.part true c.if-p.false c.if-p-2.false c.if-r-part.true

pub returns : goal.returns
unfolding of_bits
returns c = leaves c.args.p c.args.q c.args.part false c.if-p.false c.if-p-2.false c.if-r-part.false
