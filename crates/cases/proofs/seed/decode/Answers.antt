-- `decode` fills from the front, two digits for each byte.
use native.Mathlib.Omega.{arith}
use Rattle.cases.proofs.Fills.{fill_step, fill_end}
use Rattle.cases.proofs.Seeds.{length_pairs, pair_more, no_pairs}
use Rattle.cases.proofs.seed.decode.Goals as goal

pub bounds-digits-i : goal.bounds-digits-i
bounds-digits-i c = omega (arith, c.requires, length_pairs c.args.digits.now)

pub bounds-digits-i-in-loop-i : goal.bounds-digits-i-in-loop-i
bounds-digits-i-in-loop-i c = omega (arith, c.requires, length_pairs c.args.digits.now)

pub loop-i-preserved : goal.loop-i-preserved
loop-i-preserved c =
    let l = c.loop-i in
    let w = c.args.digits.now in
    let more = pair_more w l.i (omega (arith, c.requires, length_pairs w)) in
    rw (c.nibble.ensures, c.nibble-in-loop-i.ensures) (fill_step l.bytes l.i _ l.invariant _ _ (omega arith) more)

pub returns : goal.returns
returns c =
    let l = c.loop-i in
    fill_end l.bytes l.i _ l.invariant (omega arith) (no_pairs c.args.digits.now l.i (omega (arith, c.requires, length_pairs c.args.digits.now)))
