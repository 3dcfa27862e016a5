-- The end, another depth, or by the type.
use mathlib.Core.Path.{sym, ◌∙◌}
use native.Mathlib.Omega.{arith}
use borrow.Author.Tests.{ltb-true}
use Rattle.res.proofs.records.Steps.{at-end, uncut, too_deep, right-depth, type_static, type_moving, type_other}
use Rattle.res.proofs.records.step_at.Goals as goal

pub returns-then-is_cut : goal.returns-then-is_cut
returns-then-is_cut c = at-end _ _ (ltb-true _ _ (sym c.is_cut.ensures ∙ c.if-is_cut.true))

pub returns-then-depth-ne8 : goal.returns-then-depth-ne8
returns-then-depth-ne8 c =
    let a = c.args in
    too_deep a.file.now a.at (uncut _ _ _ c.is_cut.ensures c.if-is_cut.false) (λ q. omega (arith, q, c.u8_at-depth.ensures.0, c.if-depth-ne8.true))

pub returns-in-2 : goal.returns-in-2
returns-in-2 c =
    c.static_at.ensures ∙ type_static _ _ (sym c.u8_at-kind.ensures.0 ∙ c.in-2.is)
    ∙ right-depth _ _ (uncut _ _ _ c.is_cut.ensures c.if-is_cut.false) (omega (arith, c.u8_at-depth.ensures.0, c.if-depth-ne8.false))

pub returns-in-3 : goal.returns-in-3
returns-in-3 c =
    c.moving_at.ensures ∙ type_moving _ _ (sym c.u8_at-kind.ensures.0 ∙ c.in-3.is)
    ∙ right-depth _ _ (uncut _ _ _ c.is_cut.ensures c.if-is_cut.false) (omega (arith, c.u8_at-depth.ensures.0, c.if-depth-ne8.false))

pub returns-in_default : goal.returns-in_default
returns-in_default c =
    let a = c.args in
    type_other a.file.now a.at (λ q. omega (arith, q, c.u8_at-kind.ensures.0)) (λ q. omega (arith, q, c.u8_at-kind.ensures.0))
    ∙ right-depth _ _ (uncut _ _ _ c.is_cut.ensures c.if-is_cut.false) (omega (arith, c.u8_at-depth.ensures.0, c.if-depth-ne8.false))
