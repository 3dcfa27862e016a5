-- `put_number` puts as many digits as there are.
use mathlib.Core.Path.{sym}
use native.Mathlib.Omega.{arith}
use Rattle.cases.specs.Answer.{spelled, number}
use Rattle.cases.specs.Place.{Wrote}
use Rattle.cases.proofs.Texts.{length-spelled}
use Rattle.cases.proofs.answer.put_number.Goals as goal

pub returns : goal.returns
unfolding number
returns c =
    let a = c.args in
    let places = c.places-k in
    let put-digits = c.put_digits in
    let w : Wrote (spelled a.base places.result a.n) a.out.now a.at put-digits.new.out put-digits.result = put-digits.ensures in
    record {
      wrote = rw (sym places.ensures.value) w;
      upper_bound = omega (arith, put-digits.ensures.to, length-spelled a.base places.result a.n, places.ensures.upper_bound);
    }
