-- `glyph` makes the tests of its definition.
use borrow.Author.Tests.{lt-ltb, le-ltb}
use Rattle.cases.specs.Answer.{glyph}
use Rattle.cases.proofs.answer.glyph.Goals as goal

pub returns-then-d-lt10 : goal.returns-then-d-lt10
unfolding glyph
returns-then-d-lt10 c = rw (lt-ltb _ 10 c.if-d-lt10.true)

pub returns-then-d-lt16 : goal.returns-then-d-lt16
unfolding glyph
returns-then-d-lt16 c = rw (le-ltb _ 10 c.if-d-lt10.false, lt-ltb _ 16 c.if-d-lt16.true)

pub returns : goal.returns
unfolding glyph
returns c = rw (le-ltb _ 10 c.if-d-lt10.false, le-ltb _ 16 c.if-d-lt16.false)
