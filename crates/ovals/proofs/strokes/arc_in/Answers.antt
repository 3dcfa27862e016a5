-- With a side 0 nothing is plotted; else the stroke of the box's oval.
use Rattle.std.proofs.Common.{sym, ◌∙◌}
use Rattle.words.specs.Ink.{inked}
use Rattle.canvas.proofs.boxes.Chains.{did_same}
use Rattle.ovals.proofs.fills.Sieves.{did_nothing}
use Rattle.ovals.proofs.strokes.Outlines.{arc-none, arc-stroke}
use Rattle.ovals.proofs.strokes.arc_in.Goals as goal

pub returns-then-is_empty : goal.returns-then-is_empty
returns-then-is_empty c =
    let a = c.args in
    did_nothing (inked a.ink) _ (arc-none a.canvas a.x a.y a.w a.h a.start a.sweep (sym c.is_empty.ensures ∙ c.if-is_empty.true))

pub returns : goal.returns
returns c =
    let a = c.args in
    let f₀ = c.ranges in
    did_same (inked a.ink) _ _
    (arc-stroke a.canvas a.x a.y a.w a.h a.start a.sweep c.oval_in-o.result
    c.radians-from.result c.radians-turn.result
    c.nearest_i32_to_f32.result c.nearest_i32_to_f32-2.result f₀.x f₀.y f₀.start
    f₀.sweep
    (sym c.is_empty.ensures ∙ c.if-is_empty.false) c.oval_in-o.ensures c.nearest_i32_to_f32.ensures c.radians-from.ensures c.nearest_i32_to_f32-2.ensures c.radians-turn.ensures) c.stroke_in.ensures
