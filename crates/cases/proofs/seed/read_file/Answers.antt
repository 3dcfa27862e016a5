-- A file by its word: a minus, or hex of a byte at least.
use mathlib.Core.Logic.{inl, inr}
use mathlib.Core.Path.{sym, ◌∙◌}
use borrow.Author.Tests.{eqb-true, eqb-false}
use Rattle.cases.specs.Line.{words_of, next}
use Rattle.cases.specs.Number.{name_of}
use Rattle.cases.specs.Place.{words_left, pairs}
use Rattle.cases.specs.Seed.{file_of}
use Rattle.cases.proofs.Seeds.{is_none, other_file, no_bytes, some_bytes}
use Rattle.cases.proofs.seed.read_file.Goals.{then-is_empty-via-then-is_empty, then-is_empty-via-else-is_empty+then-starts_with}
use Rattle.cases.proofs.seed.read_file.Goals as goal

pub returns-in_err-text : goal.returns-in_err-text
unfolding file_of name_of next
returns-in_err-text c = rw (c.from_residual.ensures, c.in_err-text.was)

pub returns-in-Some : goal.returns-in-Some
unfolding words_of pairs
returns-in-Some c = rw c.in_ok-text.was (is_none c.in_ok-text.text.now (words_left c.in-Some.left) c.in-Some.ensures)

pub returns-then-is_empty : goal.returns-then-is_empty
unfolding words_of
returns-then-is_empty c =
    let w = c.in_ok-text.text.now in
    rw (c.in_ok-text.was, other_file w c.in_default.ensures)
    (no_bytes w
    (elim c.then-is_empty.branch [
      | then-is_empty-via-then-is_empty t ↦ inl (eqb-true _ 0 (sym c.is_empty.ensures ∙ t.if-is_empty.true))
      | then-is_empty-via-else-is_empty+then-starts_with t ↦ inr (sym t.starts_with.ensures.value ∙ t.if-starts_with.true)
    ]))

pub returns : goal.returns
unfolding words_of
returns c =
    let w = c.in_ok-text.text.now in
    rw (
      c.in_ok-text.was,
      other_file w c.in_default.ensures,
      some_bytes w (eqb-false _ 0 (sym c.is_empty.ensures ∙ c.if-is_empty.false)) (sym c.starts_with.ensures.value ∙ c.if-starts_with.false),
    )
    c.hex.ensures
