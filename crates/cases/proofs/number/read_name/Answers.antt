-- `read_name` reads the first word left.
use Rattle.cases.specs.Line.{words_of, next}
use Rattle.cases.specs.Number.{name_of}
use Rattle.cases.proofs.number.read_name.Goals as goal

pub returns-in_err-left : goal.returns-in_err-left
unfolding name_of next
returns-in_err-left c = rw (c.from_residual.ensures, c.in_err-left.was)

pub returns : goal.returns
unfolding words_of
returns c = rw c.in_ok-left.was c.letters.ensures
