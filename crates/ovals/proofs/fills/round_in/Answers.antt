-- With a side or an arc size 0 the round fill is a fill; else it is a region.
use Rattle.std.proofs.Common.{◌||◌, eqb, sym, ◌∙◌, arith}
use Rattle.canvas.proofs.span.Lifts.{lowers, lift_lt}
use Rattle.words.proofs.Either.{neither}
use Rattle.canvas.proofs.boxes.Boxes.{some_sides}
use Rattle.canvas.proofs.boxes.Chains.{did_same, ready_same}
use Rattle.ovals.proofs.fills.Sieves.{round_plain}
use Rattle.ovals.proofs.runs.Regions.{round_region}
use Rattle.ovals.proofs.fills.round_in.Goals as goal

pub fill_in-requires : goal.fill_in-requires
fill_in-requires c =
    let a = c.args in
    let f = c.ranges in
    let x = lowers a.x _ f.x c.lift-p.ensures in
    let y = lowers a.y _ f.y c.lift-q.ensures in
    let e = round_plain a.canvas a.x a.y a.w a.h a.aw a.ah _ _ x y (sym c.is_plain.ensures ∙ c.if-is_plain.true) in
    let m = lift_lt a.x _ f.x c.lift-p.ensures in
    let n = lift_lt a.y _ f.y c.lift-q.ensures in
    (ready_same _ _ _ e c.requires.0, (omega (arith, m), omega (arith, n)))

pub returns-then-is_plain : goal.returns-then-is_plain
returns-then-is_plain c =
    let a = c.args in
    let f = c.ranges in
    let x = lowers a.x _ f.x c.lift-p.ensures in
    let y = lowers a.y _ f.y c.lift-q.ensures in
    let e = round_plain a.canvas a.x a.y a.w a.h a.aw a.ah _ _ x y
    (sym c.is_plain.ensures ∙ c.if-is_plain.true) in
    did_same _ _ _ e c.fill_in.ensures

pub arcs_in-requires : goal.arcs_in-requires
arcs_in-requires c =
    let a = c.args in
    let f = c.ranges in
    let x = lowers a.x _ f.x c.lift-p.ensures in
    let y = lowers a.y _ f.y c.lift-q.ensures in
    let d = sym c.is_plain.ensures ∙ c.if-is_plain.false in
    let e = round_region a.canvas a.x a.y a.w a.h _ _ c.requires.0.sized.wide c.requires.0.sized.high c.requires.1 x y a.aw a.ah d in
    let m = lift_lt a.x _ f.x c.lift-p.ensures in
    let n = lift_lt a.y _ f.y c.lift-q.ensures in
    let s = some_sides a.w a.h (neither (eqb a.w 0 || eqb a.h 0) (eqb a.aw 0 || eqb a.ah 0) d).0 in
    (ready_same _ _ _ e c.requires.0, (omega (arith, m), (omega (arith, n), (s.0, (s.1, (c.requires.1.wide, c.requires.1.high))))))

pub returns : goal.returns
returns c =
    let a = c.args in
    let f = c.ranges in
    let x = lowers a.x _ f.x c.lift-p.ensures in
    let y = lowers a.y _ f.y c.lift-q.ensures in
    let d = sym c.is_plain.ensures ∙ c.if-is_plain.false in
    let e = round_region a.canvas a.x a.y a.w a.h _ _ c.requires.0.sized.wide c.requires.0.sized.high c.requires.1 x y a.aw a.ah d in
    did_same _ _ _ e c.arcs_in.ensures
