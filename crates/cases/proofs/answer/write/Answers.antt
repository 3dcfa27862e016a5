-- `write` puts the parts of the line one behind the other.
use borrow.Author.Tests.{lt-ltb}
use Rattle.cases.specs.Answer.{answered}
use Rattle.cases.proofs.Texts.{wrote, written}
use Rattle.cases.proofs.answer.write.Goals as goal

pub returns-then-out-lt144 : goal.returns-then-out-lt144
unfolding answered
returns-then-out-lt144 c = rw (lt-ltb _ 144 c.if-out-lt144.true)

pub returns : goal.returns
returns c =
    let a = c.args in
    let put-number = c.put_number-a in
    let put-field = c.put_field-b in
    let put-found = c.put_found-c in
    let put-hash = c.put_hash in
    let status = wrote _ _ a.out.now put-number.new.out put-field.new.out 0 put-number.result put-field.result put-number.ensures.wrote (rw c.from.ensures at put-field.ensures.wrote) in
    let found = wrote _ _ a.out.now put-field.new.out put-found.new.out 0 put-field.result put-found.result status put-found.ensures.wrote in
    written a.answer a.out.now put-hash.new.out put-hash.result c.if-out-lt144.false (wrote _ _ a.out.now put-found.new.out put-hash.new.out 0 put-found.result put-hash.result found put-hash.ensures)
