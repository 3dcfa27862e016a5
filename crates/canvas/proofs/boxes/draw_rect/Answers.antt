-- A refusal is the first fault; else the outline's plots with the colour's ink are made.
use Rattle.std.proofs.Common.{refl, Ok}
use Rattle.canvas.specs.Boxes.{outline}
use Rattle.canvas.specs.Call.{dots}
use Rattle.canvas.proofs.span.Lifts.{lift_lt, lowers}
use Rattle.canvas.proofs.plot.Draws.{ready_few}
use Rattle.canvas.proofs.plot.Answers.{ink-keeps, alone, declines, start-sized, start_draws}
use Rattle.canvas.proofs.boxes.Boxes.{inks-few}
use Rattle.canvas.proofs.boxes.Outline.{outline-le}
use Rattle.canvas.proofs.boxes.draw_rect.Goals as goal

pub outline_in-t-requires : goal.outline_in-t-requires
outline_in-t-requires c =
    let ink = c.plot_ink-ink in
    let f = c.ranges in
    let g = c.well_formed.1.1.1.1.1.1.0.1 in
    let s = start-sized c.args.canvas c.args.bytes.now (Ok tt) (alone c.in_ok-judge.ensures) in (
      ready_few s refl (inks-few _ _ (outline-le c.args.canvas _ _ _ _ s.wide s.high)),
      (
        lift_lt c.args.x _ f.x c.lift-p.ensures,
        (
          lift_lt c.args.y _ f.y c.lift-q.ensures,
          ink-keeps c.args.canvas c.args.color _
              (record { a = g.1.0.1; r = g.1.1.0.1; g = g.1.1.1.0.1; b = g.1.1.1.1.0.1 }) ink.ensures,
        ),
      ),
    )

pub returns-in_err-judge : goal.returns-in_err-judge
returns-in_err-judge c = declines c.args.canvas c.args.bytes.now _ _ _ c.from_residual.ensures.1 (alone c.in_err-judge.ensures)

pub returns : goal.returns
unfolding dots
returns c =
    let ink = c.plot_ink-ink in
    let slice-known = c.slice_known-1 in
    let lift = c.lift-p in
    let lift2 = c.lift-q in
    let f = c.ranges in
    let g = c.well_formed.1.1.1.1.1.1.0.1 in
    start_draws c.args.canvas c.args.bytes.now (Ok tt) (alone c.in_ok-judge.ensures) c.args.color _ ink.ensures c.args.clip
    (outline c.args.canvas c.args.x c.args.y c.args.w c.args.h) _ _
    (record { byte = λ i. (slice-known.given i).fits })
    (record { a = g.1.0.1; r = g.1.1.0.1; g = g.1.1.1.0.1; b = g.1.1.1.1.0.1 })
    (rw (lowers c.args.x _ f.x lift.ensures, lowers c.args.y _ f.y lift2.ensures) at c.outline_in-t.ensures)
