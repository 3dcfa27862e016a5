-- With a side or an arc size 0 a plain outline; else edges and quarters.
use Rattle.std.proofs.Common.{◌||◌, eqb, sym, ◌∙◌, arith, w32}
use mir.ValLaws.{to_z-of_z}
use Rattle.canvas.proofs.span.Lifts.{lowers, lift_lt}
use Rattle.words.specs.Ink.{inked}
use Rattle.canvas.proofs.plot.Draws.{ready_few}
use Rattle.words.proofs.Either.{neither}
use Rattle.canvas.proofs.boxes.Boxes.{some_sides, inks-few}
use Rattle.canvas.proofs.boxes.Outline.{outline-le}
use Rattle.canvas.proofs.boxes.Chains.{did_same}
use Rattle.ovals.proofs.strokes.Outlines.{outline-plain, outline_round}
use Rattle.ovals.proofs.rounds.round_outline_in.Goals as goal

pub outline_in-requires : goal.outline_in-requires
outline_in-requires c =
    let a = c.args in
    let p = c.requires in (
      ready_few p.0 p.1.0 (inks-few (inked a.ink) _ (outline-le a.canvas _ _ _ _ p.0.wide p.0.high)),
      (
        omega (arith, lift_lt a.x _ c.ranges.x c.lift-p.ensures),
        (omega (arith, lift_lt a.y _ c.ranges.y c.lift-q.ensures), p.1.1.0),
      ),
    )

pub returns-then-is_plain : goal.returns-then-is_plain
returns-then-is_plain c =
    let a = c.args in
    did_same (inked a.ink) _ _
    (outline-plain a.canvas a.x a.y a.w a.h a.aw a.ah _ _ (lowers a.x _ c.ranges.x c.lift-p.ensures)
    (lowers a.y _ c.ranges.y c.lift-q.ensures)
    (sym c.is_plain.ensures ∙ c.if-is_plain.true)) c.outline_in.ensures

pub corners_of-c-requires : goal.corners_of-c-requires
corners_of-c-requires c =
    let a = c.args in (
      rw (to_z-of_z w32 a.x c.ranges.x, to_z-of_z w32 a.y c.ranges.y) c.requires.1.1.1,
      some_sides a.w a.h
          (neither (eqb a.w 0 || eqb a.h 0) (eqb a.aw 0 || eqb a.ah 0) (sym c.is_plain.ensures ∙ c.if-is_plain.false)).0,
    )

pub rim_in-requires : goal.rim_in-requires
rim_in-requires c =
    let a = c.args in (
      c.requires.0,
      (
        c.requires.1.0,
        (
          omega (arith, lift_lt a.x _ c.ranges.x c.lift-p.ensures),
          (
            omega (arith, lift_lt a.y _ c.ranges.y c.lift-q.ensures),
            some_sides a.w a.h
                (neither (eqb a.w 0 || eqb a.h 0) (eqb a.aw 0 || eqb a.ah 0) (sym c.is_plain.ensures ∙ c.if-is_plain.false)).0,
          ),
        ),
      ),
    )

pub returns : goal.returns
returns c =
    let a = c.args in
    let f = c.ranges in
    let corners-of = c.corners_of-c in
    did_same (inked a.ink) _ _
    (outline_round a.canvas a.x a.y a.w a.h a.aw a.ah _ _ (lowers a.x _ f.x c.lift-p.ensures)
    (lowers a.y _ f.y c.lift-q.ensures) corners-of.result
    (rw (to_z-of_z w32 a.x f.x, to_z-of_z w32 a.y f.y) at corners-of.ensures)
    (sym c.is_plain.ensures ∙ c.if-is_plain.false)) c.rim_in.ensures
