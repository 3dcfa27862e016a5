-- What is too long is read as empty.
use Rattle.replies.proofs.Replies.{too_long, short}
use Rattle.replies.proofs.line.text_of.Goals as goal

pub returns-then-text-gt-LONGEST : goal.returns-then-text-gt-LONGEST
returns-then-text-gt-LONGEST c =
    too_long c.args.line.now c.without_return-text.result.now c.without_return-text.ensures c.if-text-gt-LONGEST.true

pub returns : goal.returns
returns c = short c.args.line.now c.without_return-text.result.now c.without_return-text.ensures c.if-text-gt-LONGEST.false
