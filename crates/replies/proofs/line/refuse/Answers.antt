-- Four bytes, where there is room for any answer.
use native.Mathlib.Omega.{arith}
use borrow.Author.Tests.{lt-ltb, le-ltb}
use Rattle.replies.specs.Replies.{refused}
use Rattle.replies.proofs.Replies.{four_placed}
use Rattle.replies.proofs.line.refuse.Goals as goal

pub returns-then-out-lt144 : goal.returns-then-out-lt144
unfolding refused
returns-then-out-lt144 c = rw (lt-ltb _ 144 c.if-out-lt144.true)

pub returns : goal.returns
unfolding refused
returns c =
    let out = c.args.out.now in
    rw (le-ltb _ 144 c.if-out-lt144.false, c.copy_from_slice.ensures.after, four_placed 98 97 100 10 out (omega (arith, c.if-out-lt144.false)))
