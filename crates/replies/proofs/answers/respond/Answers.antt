-- By the op: the call is made on the canvas of the line.
use mathlib.Core.Path.{ap}
use mathlib.Core.List.{List}
use Prim.Native.Nat.{ℕ}
use borrow.Author.Tests.{ne_eqb}
use Rattle.cases.specs.declared.answer.Answer.{Answer}
use Rattle.cases.specs.Ops as op
use Rattle.replies.specs.Answers.{response, respond_by}
use Rattle.replies.proofs.Answered.{respond_is}
use Rattle.replies.proofs.answers.respond.Goals as goal

pub returns-in-6776180 : goal.returns-in-6776180
unfolding respond_by
returns-in-6776180 c =
    let word = c.word in
    let sized = c.canvas-v in
    let a = c.args in
    respond_is a.c a.bytes.now a.image.now a.words.now word.ensures sized.ensures
    (rw c.in-6776180.is (ap (λ (r : Answer). response r a.bytes.now a.words.now) c.get.ensures))

pub returns-in-1818389872 : goal.returns-in-1818389872
unfolding respond_by
returns-in-1818389872 c =
    let word = c.word in
    let sized = c.canvas-v in
    let word2 = c.word-in-1818389872 in
    let bitmap = c.bitmap in
    let a = c.args in
    respond_is a.c a.bytes.now a.image.now a.words.now word.ensures sized.ensures
    (rw c.in-1818389872.is (ap (λ (p : Answer × List ℕ). response p.0 a.bytes.now p.1) (rw word2.ensures at bitmap.ensures)))

pub returns-in-7497075 : goal.returns-in-7497075
unfolding respond_by
returns-in-7497075 c =
    let a = c.args in
    respond_is a.c a.bytes.now a.image.now a.words.now c.word.ensures c.canvas-v.ensures
    (rw c.in-7497075.is (ap (λ (r : Answer). response r a.bytes.now a.words.now) c.icon.ensures))

pub returns-in_default : goal.returns-in_default
unfolding respond_by
returns-in_default c =
    let word = c.word in
    let sized = c.canvas-v in
    let draw = c.draw in
    let a = c.args in
    let o = a.c.name in
    let rest = c.in_default.in_default-own.rest in
    respond_is a.c a.bytes.now a.image.now a.words.now word.ensures sized.ensures
    (rw (ne_eqb o op.get rest.0.0.1, ne_eqb o op.lbmp rest.0.1, ne_eqb o op.res rest.1) (ap (λ (p : Answer × List ℕ). response p.0 p.1 a.words.now) draw.ensures))
