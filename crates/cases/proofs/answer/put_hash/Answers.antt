-- `put_hash` puts a label, sixteen digits and the line's end.
use native.Mathlib.Omega.{arith}
use lib.Dec.{lit<, lit≤}
use lib.ListN.{length-set}
use Rattle.cases.proofs.Texts.{wrote, wrote_byte, length-spelled}
use Rattle.cases.proofs.answer.put_hash.Goals as goal

pub put_digits-e-requires : goal.put_digits-e-requires
put_digits-e-requires c = record {
  lt_base = (lit< tt, lit≤ tt);
  k_in_bounds = omega (arith, c.put_text-d.ensures.to, c.put_text-d.auto.out, c.requires);
}

pub bounds-out-e : goal.bounds-out-e
bounds-out-e c = omega (
  arith,
  c.put_text-d.ensures.to,
  c.put_text-d.auto.out,
  c.put_digits-e.ensures.to,
  c.put_digits-e.auto.out,
  length-spelled 16 16 c.args.hash,
  c.requires,
)

pub overflow_add-result : goal.overflow_add-result
overflow_add-result c = omega (
  arith,
  c.put_text-d.ensures.to,
  c.put_text-d.auto.out,
  c.put_digits-e.ensures.to,
  c.put_digits-e.auto.out,
  length-spelled 16 16 c.args.hash,
  c.requires,
  c.well_formed.0.0,
)

pub shape_of-out : goal.shape_of-out
shape_of-out c = simp length-set (omega (arith, c.put_text-d.auto.out, c.put_digits-e.auto.out))

pub returns : goal.returns
returns c =
    let a = c.args in
    let put-digits = c.put_text-d in
    let put-digits2 = c.put_digits-e in
    wrote _ _ a.out.now put-digits2.new.out _ a.at put-digits2.result _
    (wrote _ _ a.out.now put-digits.new.out put-digits2.new.out a.at put-digits.result put-digits2.result put-digits.ensures put-digits2.ensures)
    (wrote_byte 10 put-digits2.new.out put-digits2.result)
