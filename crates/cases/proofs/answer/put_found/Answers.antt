-- `put_found` puts the fields of what was found.
use native.Mathlib.Omega.{arith}
use Rattle.cases.specs.Answer.{found_text}
use Rattle.cases.proofs.answer.put_found.Goals as goal

pub returns-in-Count : goal.returns-in-Count
unfolding found_text
returns-in-Count c =
    let put = c.put_field in
    record { wrote = rw c.in-Count.is put.ensures.wrote; upper_bound = omega (arith, put.ensures.upper_bound) }

pub returns-in-Argb : goal.returns-in-Argb
unfolding found_text
returns-in-Argb c =
    let put = c.put_field-in-Argb in
    record { wrote = rw c.in-Argb.is (rw c.from.ensures at put.ensures.wrote); upper_bound = omega (arith, put.ensures.upper_bound) }

pub returns-in-Nothing : goal.returns-in-Nothing
unfolding found_text
returns-in-Nothing c =
    let put = c.put_text in
    record { wrote = rw c.in-Nothing.is put.ensures; upper_bound = omega (arith, put.ensures.to) }

pub returns-in-Image : goal.returns-in-Image
unfolding found_text
returns-in-Image c =
    let put = c.put_image in
    record { wrote = rw c.in-Image.is put.ensures.wrote; upper_bound = omega (arith, put.ensures.upper_bound) }

pub returns-in-Icon : goal.returns-in-Icon
unfolding found_text
returns-in-Icon c =
    let put = c.put_image-in-Icon in
    record { wrote = rw c.in-Icon.is put.ensures.wrote; upper_bound = omega (arith, put.ensures.upper_bound) }
