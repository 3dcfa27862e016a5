-- `put_image` puts three fields.
use native.Mathlib.Omega.{arith}
use Rattle.cases.proofs.Texts.{wrote}
use Rattle.cases.proofs.answer.put_image.Goals as goal

pub returns : goal.returns
returns c =
    let a = c.args in
    let put-field = c.put_field-a in
    let put-field2 = c.put_field-b in
    let put-field3 = c.put_field in
    let sides =
    wrote _ _ a.out.now put-field.new.out put-field2.new.out a.at put-field.result put-field2.result
    (rw c.from.ensures at put-field.ensures.wrote) (rw c.from-2.ensures at put-field2.ensures.wrote) in record {
      wrote = wrote _ _ a.out.now put-field2.new.out put-field3.new.out a.at put-field2.result put-field3.result sides put-field3.ensures.wrote;
      upper_bound = omega (arith, put-field.ensures.upper_bound, put-field2.ensures.upper_bound, put-field3.ensures.upper_bound);
    }
