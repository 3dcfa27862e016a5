-- A word by its kind.
use Rattle.cases.specs.Row.{word_of, row_length, rule_number}
use Rattle.cases.proofs.Rows.{other_word}
use Rattle.cases.proofs.row.read_word.Goals as goal

pub returns-in-Row : goal.returns-in-Row
unfolding word_of row_length
returns-in-Row c = rw (c.in-Row.is, ← c.saturating_sub.ensures) c.read_named.ensures

pub returns-in-Rule : goal.returns-in-Rule
unfolding word_of rule_number
returns-in-Rule c = rw c.in-Rule.is c.read_named-in-Rule.ensures

pub returns-in_default : goal.returns-in_default
returns-in_default c =
    rw (other_word c.args.i c.args.kind c.args.numbers.now _ c.in_default.not-Rule c.in_default.not-Row) c.read_kind.ensures
