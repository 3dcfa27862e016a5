-- By the types.
use mathlib.Core.Path.{sym, ◌∙◌}
use Rattle.std.specs.Prelude.{Some}
use Prim.Native.Nat.{◌*◌}
use native.Mathlib.Omega.{arith}
use Rattle.lbmp.specs.declared.header.Kind.TheVariants.{Greys, Rgb332, Rgb565}
use Rattle.lbmp.specs.Plane.{plane_size}
use Rattle.lbmp.specs.File.{kind_of, image_size, expected_size}
use Rattle.lbmp.proofs.planes.Sizes.{product_fits}
use Rattle.lbmp.proofs.paint.Images.{size_is, kind_are, are_332, are_565}
use Rattle.lbmp.proofs.paint.paint_colors.Goals as goal

pub overflow_mul-n : goal.overflow_mul-n
overflow_mul-n c =
    let a = c.args in
    record { fits = product_fits a.h.width a.h.height (omega arith) (omega arith) }

pub greys-requires : goal.greys-requires
unfolding image_size expected_size
greys-requires c =
    let p = c.requires in
    let k = rw c.in-Some-Greys.field-0-is at c.in-Some-Greys.ensures in
    (p.1.0 ∙ size_is c.args.h (Some Greys) p.0 (sym k), p.1.1)

pub bytes332-requires : goal.bytes332-requires
unfolding image_size expected_size
bytes332-requires c =
    let p = c.requires in
    let k = rw c.in-Some-Rgb332.field-0-is at c.in-Some-Rgb332.ensures in
    (omega (arith, p.1.0, size_is c.args.h (Some Rgb332) p.0 (sym k)), (p.1.1, c.colors332-table.ensures))

pub words565-requires : goal.words565-requires
unfolding image_size expected_size
words565-requires c =
    let p = c.requires in
    let k = rw c.in-Some-Rgb565.field-0-is at c.in-Some-Rgb565.ensures in
    (omega (arith, p.1.0, size_is c.args.h (Some Rgb565) p.0 (sym k)), (p.1.1, (c.levels5-fives.ensures, c.levels6-sixes.ensures)))

pub returns-in-Some-Greys : goal.returns-in-Some-Greys
returns-in-Some-Greys c =
    let h = c.args.h in
    let k = rw c.in-Some-Greys.field-0-is at c.in-Some-Greys.ensures in
    c.greys.ensures ∙ kind_are (Some Greys) (kind_of h.kind) _ _ _ h.width (h.width * h.height) k

pub returns-in-Some-Rgb332 : goal.returns-in-Some-Rgb332
returns-in-Some-Rgb332 c =
    let a = c.args in
    let h = a.h in
    let k = rw c.in-Some-Rgb332.field-0-is at c.in-Some-Rgb332.ensures in
    c.bytes332.ensures ∙ are_332 a.p.now a.out.now (plane_size h.width h.height) h.width (h.width * h.height)
    ∙ kind_are (Some Rgb332) (kind_of h.kind) _ _ _ h.width (h.width * h.height) k

pub returns-in-Some-Rgb565 : goal.returns-in-Some-Rgb565
returns-in-Some-Rgb565 c =
    let a = c.args in
    let h = a.h in
    let k = rw c.in-Some-Rgb565.field-0-is at c.in-Some-Rgb565.ensures in
    c.words565.ensures ∙ are_565 a.p.now a.out.now (plane_size h.width h.height) h.width (h.width * h.height)
    ∙ kind_are (Some Rgb565) (kind_of h.kind) _ _ _ h.width (h.width * h.height) k
