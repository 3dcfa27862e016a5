-- `read_kind` reads the first word left.
use Rattle.cases.specs.Line.{words_of}
use Rattle.cases.proofs.Numbers.{numeric_lost}
use Rattle.cases.proofs.number.read_kind.Goals as goal

pub returns-in_err-left : goal.returns-in_err-left
returns-in_err-left c = rw (c.from_residual.ensures, c.in_err-left.was) (numeric_lost c.args.kind)

pub returns : goal.returns
unfolding words_of
returns c = rw c.in_ok-left.was c.numeric.ensures
