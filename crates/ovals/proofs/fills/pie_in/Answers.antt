-- A box without columns or rows has no pie; else the pie is a region.
use Rattle.std.proofs.Common.{sym, ◌∙◌, arith, w32}
use mir.ValLaws.{to_z-of_z}
use Rattle.words.specs.Ink.{inked}
use Rattle.canvas.proofs.span.Lifts.{lowers, lift_lt}
use Rattle.canvas.proofs.boxes.Boxes.{some_sides}
use Rattle.canvas.proofs.boxes.Chains.{did_same, ready_same}
use Rattle.ovals.proofs.fills.Sieves.{pie-none, did_nothing}
use Rattle.ovals.proofs.runs.Regions.{pie_region}
use Rattle.ovals.proofs.runs.Asked.{asks_pie}
use Rattle.ovals.proofs.fills.pie_in.Goals as goal

pub returns-then-is_empty : goal.returns-then-is_empty
returns-then-is_empty c =
    let a = c.args in
    did_nothing (inked a.ink) _ (pie-none a.canvas a.x a.y a.w a.h a.start a.arc (sym c.is_empty.ensures ∙ c.if-is_empty.true))

pub sector_in-requires : goal.sector_in-requires
sector_in-requires c =
    let a = c.args in
    let f = c.ranges in
    let x = lowers a.x _ f.x c.lift-p.ensures in
    let y = lowers a.y _ f.y c.lift-q.ensures in
    let k = rw (to_z-of_z w32 a.x f.x, to_z-of_z w32 a.y f.y, to_z-of_z w32 a.start f.start, to_z-of_z w32 a.arc f.arc) at c.pie_in-k.ensures in
    let d = sym c.is_empty.ensures ∙ c.if-is_empty.false in
    let e = pie_region a.canvas a.x a.y a.w a.h _ _ c.requires.0.sized.wide c.requires.0.sized.high c.requires.1 x y a.start a.arc _ k d in
    let m = lift_lt a.x _ f.x c.lift-p.ensures in
    let n = lift_lt a.y _ f.y c.lift-q.ensures in
    let s = some_sides a.w a.h d in
    let z = asks_pie _ a.x a.y a.w a.h a.start a.arc _ _ k c.requires.1 x y in
    (ready_same _ _ _ e c.requires.0, (omega (arith, m), (omega (arith, n), (s.0, (s.1, (c.requires.1.wide, (c.requires.1.high, z)))))))

pub returns : goal.returns
returns c =
    let a = c.args in
    let f = c.ranges in
    let x = lowers a.x _ f.x c.lift-p.ensures in
    let y = lowers a.y _ f.y c.lift-q.ensures in
    let k = rw (to_z-of_z w32 a.x f.x, to_z-of_z w32 a.y f.y, to_z-of_z w32 a.start f.start, to_z-of_z w32 a.arc f.arc) at
    c.pie_in-k.ensures in
    let d = sym c.is_empty.ensures ∙ c.if-is_empty.false in
    let e = pie_region a.canvas a.x a.y a.w a.h _ _ c.requires.0.sized.wide c.requires.0.sized.high c.requires.1 x y a.start a.arc _ k d in
    did_same _ _ _ e c.sector_in.ensures
