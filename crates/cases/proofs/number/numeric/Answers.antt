-- `numeric` reads by kind.
use mathlib.Core.Path.{sym}
use Rattle.cases.specs.Line.{words_of}
use Rattle.cases.specs.Number.{numeric}
use Rattle.cases.proofs.Numbers.{other_kind}
use Rattle.cases.proofs.number.numeric.Goals as goal

pub returns-in-Switch : goal.returns-in-Switch
unfolding numeric
returns-in-Switch c = rw c.in-Switch.is c.number.ensures

pub returns-in-Channel : goal.returns-in-Channel
unfolding numeric
returns-in-Channel c = rw c.in-Channel.is c.number-in-Channel.ensures

pub returns-in-Int : goal.returns-in-Int
unfolding numeric
returns-in-Int c = rw c.in-Int.is c.signed.ensures

pub returns-in_default : goal.returns-in_default
returns-in_default c =
    let d = c.in_default in
    rw (sym (other_kind c.args.kind (words_of c.args.text.now) d.not-Int d.not-Switch d.not-Channel)) c.number-in_default.ensures
