-- `read_named` takes a word of the name, and no other.
use Rattle.cases.specs.Line.{words_of}
use Rattle.cases.specs.Place.{words_left}
use Rattle.cases.proofs.Numbers.{no_named, is_named, is_other}
use Rattle.cases.proofs.number.read_named.Goals as goal

pub returns-in_default : goal.returns-in_default
returns-in_default c = no_named c.args.name.now c.args.absent c.args.left c.in_default.not-Some

pub returns-in-Some-named : goal.returns-in-Some-named
unfolding words_of
returns-in-Some-named c =
    let r = c.in-Some-named in
    rw c.in-Some.is (is_named c.args.name.now c.args.absent _ r.read.0 (words_left r.read.1) r.ensures)

pub returns-in-None : goal.returns-in-None
unfolding words_of
returns-in-None c = rw c.in-Some.is (is_other c.args.name.now c.args.absent _ c.in-None.ensures)
