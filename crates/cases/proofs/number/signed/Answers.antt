-- `signed` reads a number, or a minus and a number.
use mathlib.Core.Path.{sym}
use native.Mathlib.Omega.{arith}
use Rattle.cases.specs.Place.{words_left}
use Rattle.cases.proofs.Words.{after_byte}
use Rattle.cases.proofs.Numbers.{no_negative, a_negative, plain_number}
use Rattle.cases.proofs.number.signed.Goals as goal

pub returns-in_err-n-in-Some : goal.returns-in_err-n-in-Some
returns-in_err-n-in-Some c =
    let w = c.args.text.now in
    let p = c.in-Some.ensures.cases in
    rw c.from_residual.ensures (no_negative w (after_byte 45 w p.0) (rw p.1 at c.in_err-n-in-Some.ensures))

pub returns-in_ok-n-in-Some : goal.returns-in_ok-n-in-Some
returns-in_ok-n-in-Some c =
    let w = c.args.text.now in
    let p = c.in-Some.ensures.cases in
    let n = c.in_ok-n-in-Some in
    a_negative w (after_byte 45 w p.0) n.n c.wrapping_neg.result (words_left n.left) (rw p.1 at n.ensures) (omega arith) c.wrapping_neg.ensures

pub returns-in-None : goal.returns-in-None
returns-in-None c = rw (sym (plain_number c.args.text.now c.in-None.ensures.cases)) c.number-in-None.ensures
