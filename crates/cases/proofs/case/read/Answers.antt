-- `read` reads the head, the name and the row, and lays the first bytes out where the line is one.
use mathlib.Core.Path.{sym, ◌∙◌}
use borrow.Author.Tests.{eqb-true, eqb-false}
use Rattle.cases.specs.Line.{words_of}
use Rattle.cases.specs.Place.{taken, left_of}
use Rattle.cases.proofs.Cases.{head_lost, name_lost, no_op, row_lost, more_left, none_left}
use Rattle.cases.proofs.case.read.Goals as goal

pub returns-in_err-head : goal.returns-in_err-head
unfolding words_of
returns-in_err-head c = rw c.from_residual.ensures (head_lost c.args.line.now c.args.bytes.now c.args.image.now c.in_err-head.ensures)

pub returns-in_err-name : goal.returns-in_err-name
unfolding words_of
returns-in_err-name c =
    let a = c.args in
    let h = c.in_ok-head in
    rw c.from_residual-in_err-name.ensures
    (name_lost a.line.now a.bytes.now a.image.now (taken h.head) (left_of h.left) h.ensures c.in_err-name.ensures)

pub returns-then-is_empty : goal.returns-then-is_empty
unfolding words_of
returns-then-is_empty c =
    let a = c.args in
    let h = c.in_ok-head in
    let o = c.in_ok-name in
    no_op a.line.now a.bytes.now a.image.now (taken h.head) (left_of h.left) h.ensures o.name (left_of o.left) o.ensures c.kinds-kinds.result.now c.kinds-kinds.ensures.row
    (eqb-true _ 0 (sym c.is_empty.ensures ∙ c.if-is_empty.true))

pub returns-in_err-args : goal.returns-in_err-args
unfolding words_of
returns-in_err-args c =
    let a = c.args in
    let h = c.in_ok-head in
    let o = c.in_ok-name in
    rw c.from_residual-in_err-args.ensures
    (row_lost a.line.now a.bytes.now a.image.now (taken h.head) (left_of h.left) h.ensures o.name (left_of o.left) o.ensures c.kinds-kinds.result.now c.kinds-kinds.ensures.row
    (eqb-false _ 0 (sym c.is_empty.ensures ∙ c.if-is_empty.false)) c.in_err-args.ensures)

pub returns-then-is_some : goal.returns-then-is_some
unfolding words_of
returns-then-is_some c =
    let a = c.args in
    let h = c.in_ok-head in
    let o = c.in_ok-name in
    let r = c.in_ok-args in
    more_left a.line.now a.bytes.now a.image.now (taken h.head) (left_of h.left) h.ensures o.name (left_of o.left) o.ensures c.kinds-kinds.result.now c.kinds-kinds.ensures.row
    (eqb-false _ 0 (sym c.is_empty.ensures ∙ c.if-is_empty.false)) (taken r.args) r.left r.ensures c.is_some.result c.is_some.ensures c.if-is_some.true

pub returns : goal.returns
unfolding words_of
returns c =
    let a = c.args in
    let h = c.in_ok-head in
    let o = c.in_ok-name in
    let r = c.in_ok-args in
    c.lay_both.ensures ∙
    none_left a.line.now a.bytes.now a.image.now (taken h.head) (left_of h.left) h.ensures o.name (left_of o.left) o.ensures c.kinds-kinds.result.now c.kinds-kinds.ensures.row
    (eqb-false _ 0 (sym c.is_empty.ensures ∙ c.if-is_empty.false)) (taken r.args) r.left r.ensures c.is_some.result c.is_some.ensures c.if-is_some.false
