-- `of_ratio` meets its contract: each branch is one of the definition. Assumes nothing.
use Rattle.angle.specs.Arctangent.{from_of, past_half, past_one, past_three_halves, of_ratio}
use Rattle.angle.proofs.arctangent.of_ratio.Goals as goal

pub returns-then-q : goal.returns-then-q
unfolding of_ratio
returns-then-q c = rw (c.if-q.true, c.less.ensures)

pub returns-then-q-2 : goal.returns-then-q-2
unfolding of_ratio from_of past_half
returns-then-q-2 c = rw (c.if-q.false, c.if-q-2.true, c.less-then-q-2.ensures)

pub returns-then-q-3 : goal.returns-then-q-3
unfolding of_ratio from_of past_one
returns-then-q-3 c = rw (c.if-q.false, c.if-q-2.false, c.if-q-3.true, c.less-then-q-3.ensures)

pub returns-then-q-4 : goal.returns-then-q-4
unfolding of_ratio from_of past_three_halves
returns-then-q-4 c = rw (c.if-q.false, c.if-q-2.false, c.if-q-3.false, c.if-q-4.true, c.less-then-q-4.ensures)

pub returns : goal.returns
unfolding of_ratio from_of
returns c = rw (c.if-q.false, c.if-q-2.false, c.if-q-3.false, c.if-q-4.false, c.less-2.ensures)
