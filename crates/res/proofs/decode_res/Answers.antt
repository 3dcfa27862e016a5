-- The search from the record that is reached is the whole one, and each record leads further into the file.
use mathlib.Core.Path.{◌≡◌, sym, ap, ◌∙◌}
use native.Mathlib.Omega.{arith}
use Rattle.std.specs.Prelude.{Ok, Err}
use Rattle.res.proofs.Search.{begun, leads, next-is, ends-here, ends-refused, not_res, long_enough}
use Rattle.res.proofs.decode_res.Goals as goal

pub returns-then-not-is_res : goal.returns-then-not-is_res
returns-then-not-is_res c = not_res _ (sym c.if-not-is_res.ensures)

pub u16_at-at-requires : goal.u16_at-at-requires
u16_at-at-requires c = long_enough _ (sym c.if-not-is_res.ensures)

pub loop-icon-init : goal.loop-icon-init
loop-icon-init c = begun _ _ (sym c.if-not-is_res.ensures) c.u16_at-at.ensures.0

pub returns-in_err-icon : goal.returns-in_err-icon
returns-in_err-icon c =
    let e : c.from_residual.result ≡ Err c.in_err-icon.field-0.0 = grind arith in
    rw e (ends-refused _ c.loop-icon.at c.loop-icon.invariant _ (sym c.in_err-icon.ensures))

pub returns-in-Here : goal.returns-in-Here
returns-in-Here c = ends-here _ _ c.loop-icon.invariant _ (sym c.in_ok-icon.ensures ∙ ap Ok c.in-Here.is)

pub loop-icon-smaller : goal.loop-icon-smaller
loop-icon-smaller c =
    let m = next-is _ _ _ (sym c.in_ok-icon.ensures ∙ ap Ok c.in-Next.is) in
    omega (arith, m.inside, m.further)

pub loop-icon-preserved : goal.loop-icon-preserved
loop-icon-preserved c = leads _ _ c.loop-icon.invariant _ (sym c.in_ok-icon.ensures ∙ ap Ok c.in-Next.is)
