-- The tests are those of the definition.
use Rattle.segments.proofs.Near.{is_below, is_margin, is_on, size, positive}
use Rattle.segments.proofs.is_near.Goals as goal

pub returns-then-x-ltminus1 : goal.returns-then-x-ltminus1
returns-then-x-ltminus1 c = is_below c.args.n c.args.x c.ranges.x c.if-x-ltminus1.true

pub returns-then-x-lt0 : goal.returns-then-x-lt0
returns-then-x-lt0 c = is_margin c.args.n c.args.x c.ranges.x c.if-x-ltminus1.false c.if-x-lt0.true

pub overflow_cast-result : goal.overflow_cast-result
overflow_cast-result c = rw (positive c.args.n c.args.x c.ranges.x c.if-x-lt0.false) (tt, record { fits = size c.args.n c.args.x c.ranges.x })

pub returns : goal.returns
returns c = is_on c.args.n c.args.x c.ranges.x c.if-x-lt0.false
