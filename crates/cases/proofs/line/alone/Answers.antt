-- A word of one byte ends at the space behind it, or where the line does.
use borrow.Author.Tests.{eqb-true, eqb-false}
use mathlib.Core.List.{List, ◌∷◌}
use mathlib.Core.Path.{sym, ◌∙◌, ap}
use Prim.Native.Nat.{ℕ}
use Rattle.cases.proofs.Words.{after_byte, ends_line, ends_word, goes_on, no_word, other_first}
use Rattle.cases.proofs.line.alone.Goals as goal

pub returns-in_err-first : goal.returns-in_err-first
returns-in_err-first c = rw c.from_residual.ensures (no_word c.args.b c.args.text.now c.in_err-first.ensures.cases)

pub returns-then-first-b : goal.returns-then-first-b
returns-then-first-b c =
    let s = c.in_ok-first in
    other_first c.args.b s.first.now c.args.text.now s.rest.now s.ensures.cases.0 c.if-first-b.true

pub returns-then-is_empty : goal.returns-then-is_empty
returns-then-is_empty c =
    let s = c.in_ok-first in
    ends_line c.args.b c.requires c.args.text.now s.rest.now (rw c.if-first-b.false at s.ensures.cases.0) (eqb-true _ 0 (sym c.is_empty.ensures ∙ c.if-is_empty.true))

pub returns-in_err-strip_prefix : goal.returns-in_err-strip_prefix
returns-in_err-strip_prefix c =
    let s = c.in_ok-first in
    rw c.from_residual-in_err-strip_prefix.ensures
    (goes_on c.args.b c.requires c.args.text.now s.rest.now (rw c.if-first-b.false at s.ensures.cases.0) (eqb-false _ 0 (sym c.is_empty.ensures ∙ c.if-is_empty.false))
    c.in_err-strip_prefix.ensures.cases)

pub returns : goal.returns
returns c =
    let s = c.in_ok-first in
    let p = c.in_ok-strip_prefix.ensures.cases in
    ends_word c.args.b c.requires c.args.text.now s.rest.now _ (rw c.if-first-b.false at s.ensures.cases.0) (after_byte 32 s.rest.now p.0 ∙ ap (λ (t : List ℕ). 32 ∷ t) (sym p.1))
