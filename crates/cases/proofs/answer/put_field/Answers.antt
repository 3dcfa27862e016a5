-- `put_field` puts the letters of a label, and behind them a number.
use lib.Dec.{lit<, lit≤}
use native.Mathlib.Omega.{arith}
use Rattle.cases.proofs.Texts.{wrote}
use Rattle.cases.proofs.answer.put_field.Goals as goal

pub put_number-requires : goal.put_number-requires
put_number-requires c = record { lt_base = (lit< tt, lit≤ tt); at_in_bounds = omega (arith, c.put_text-from.ensures.to, c.put_text-from.auto.out, c.requires) }

pub returns : goal.returns
returns c =
    let a = c.args in
    let text = c.put_text-from in
    let number = c.put_number in
    record {
      wrote = wrote _ _ a.out.now text.new.out number.new.out a.at text.result number.result text.ensures number.ensures.wrote;
      upper_bound = omega (arith, text.ensures.to, number.ensures.upper_bound);
    }
