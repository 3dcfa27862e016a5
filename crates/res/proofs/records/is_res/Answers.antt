-- Eight bytes at least, and then the four letters.
use mathlib.Core.Path.{refl}
use borrow.Author.Tests.{lt-ltb, le-ltb}
use Rattle.res.specs.Record.{is_res}
use Rattle.res.proofs.records.is_res.Goals as goal

pub returns-then-file-lt8 : goal.returns-then-file-lt8
unfolding is_res
returns-then-file-lt8 c = rw (lt-ltb _ _ c.if-file-lt8.true) refl

pub returns : goal.returns
unfolding is_res
returns c = rw (le-ltb _ _ c.if-file-lt8.false) refl
