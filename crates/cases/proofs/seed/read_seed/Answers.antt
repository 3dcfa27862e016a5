-- A seed by its word: `z`, or `x` and hex, or a number.
use mathlib.Core.Path.{sym}
use Rattle.cases.specs.Line.{words_of, next}
use Rattle.cases.specs.Number.{name_of}
use Rattle.cases.specs.Place.{words_left}
use Rattle.cases.specs.Seed.{seed_of}
use Rattle.cases.proofs.Words.{after_byte}
use Rattle.cases.proofs.Seeds.{is_zeros, other_seed, with_x, no_count, a_count}
use Rattle.cases.proofs.seed.read_seed.Goals as goal

pub returns-in_err-text : goal.returns-in_err-text
unfolding seed_of name_of next
returns-in_err-text c = rw (c.from_residual.ensures, c.in_err-text.was)

pub returns-in-Some : goal.returns-in-Some
unfolding words_of
returns-in-Some c = rw c.in_ok-text.was (is_zeros c.in_ok-text.text.now (words_left c.in-Some.left) c.in-Some.ensures)

pub returns-in_err-n-in-None : goal.returns-in_err-n-in-None
unfolding words_of
returns-in_err-n-in-None c =
    let w = c.in_ok-text.text.now in
    rw (c.from_residual-in_err-n-in-None.ensures, c.in_ok-text.was, other_seed w c.in_default.ensures) (no_count w c.in-None.ensures.cases c.in_err-n-in-None.ensures)

pub returns-in-Some-strip_prefix : goal.returns-in-Some-strip_prefix
unfolding words_of
returns-in-Some-strip_prefix c =
    let w = c.in_ok-text.text.now in
    let p = c.in-Some-strip_prefix.ensures.cases in
    rw (c.in_ok-text.was, other_seed w c.in_default.ensures, with_x w (after_byte 120 w p.0), sym p.1) c.hex.ensures

pub returns-in_ok-n-in-None : goal.returns-in_ok-n-in-None
unfolding words_of
returns-in_ok-n-in-None c =
    let w = c.in_ok-text.text.now in
    let n = c.in_ok-n-in-None in
    rw (c.in_ok-text.was, other_seed w c.in_default.ensures) (a_count w c.in-None.ensures.cases n.n (words_left n.left) n.ensures)
