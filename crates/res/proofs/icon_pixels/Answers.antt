-- The part lies inside the file, since the icon that is found does.
use native.Mathlib.Omega.{arith}
use mathlib.Core.Path.{sym, ◌∙◌}
use Rattle.res.proofs.Accepted.{inside, part-is, part_none}
use Rattle.res.proofs.icon_pixels.Goals as goal

pub returns-in_default : goal.returns-in_default
returns-in_default c = part_none _ _ (sym c.decode_res.ensures ∙ c.in_default.is)

pub overflow_mul-end : goal.overflow_mul-end
overflow_mul-end c =
    let f = c.args.file.now in
    let i = inside f _ (sym c.in-Ok.ensures) in
    record { fits = omega (arith, i) }

pub overflow_add-end : goal.overflow_add-end
overflow_add-end c =
    let f = c.args.file.now in
    let i = inside f _ (sym c.in-Ok.ensures) in
    record { fits = omega (arith, i) }

pub returns : goal.returns
returns c =
    part-is _ _ (sym c.in-Ok.ensures)

pub slice_bounds-result-end-2 : goal.slice_bounds-result-end-2
slice_bounds-result-end-2 c =
    let f = c.args.file.now in
    let i = inside f _ (sym c.in-Ok.ensures) in
    omega (arith, i)
