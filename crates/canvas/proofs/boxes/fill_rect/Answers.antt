-- A refusal is the first fault; else the fill's plots with the colour's ink are made.
use Rattle.std.proofs.Common.{refl, Ok}
use Rattle.canvas.specs.Boxes.{fill}
use Rattle.canvas.specs.Call.{dots}
use Rattle.canvas.proofs.span.Lifts.{lift_below, lowers}
use Rattle.canvas.proofs.plot.Draws.{ready_few}
use Rattle.canvas.proofs.plot.Answers.{alone, declines, start-sized, start_draws}
use Rattle.canvas.proofs.boxes.Boxes.{fill-le, inks-few}
use Rattle.canvas.proofs.boxes.fill_rect.Goals as goal

pub fill_in-t-requires : goal.fill_in-t-requires
fill_in-t-requires c =
    let a = c.args in
    let f = c.ranges in
    let s = start-sized a.canvas a.bytes.now (Ok tt) (alone c.in_ok-judge.ensures) in
    let lift = c.lift-p in
    let lift2 = c.lift-q in
    (ready_few s refl (inks-few _ _ (fill-le a.canvas _ _ _ _ s.wide s.high)), (lift_below a.x _ f.x lift.ensures, lift_below a.y _ f.y lift2.ensures))

pub returns-in_err-judge : goal.returns-in_err-judge
returns-in_err-judge c = declines c.args.canvas c.args.bytes.now _ _ _ c.from_residual.ensures.1 (alone c.in_err-judge.ensures)

pub returns : goal.returns
unfolding dots
returns c =
    let ink = c.plot_ink-ink in
    let slice-known = c.slice_known-1 in
    let lift = c.lift-p in
    let lift2 = c.lift-q in
    let f = c.ranges in
    let g = c.well_formed.1.1.1.1.1.1.0.1 in
    start_draws c.args.canvas c.args.bytes.now (Ok tt) (alone c.in_ok-judge.ensures) c.args.color _ ink.ensures c.args.clip
    (fill c.args.canvas c.args.x c.args.y c.args.w c.args.h) _ _
    (record { byte = λ i. (slice-known.given i).fits })
    (record { a = g.1.0.1; r = g.1.1.0.1; g = g.1.1.1.0.1; b = g.1.1.1.1.0.1 })
    (rw (lowers c.args.x _ f.x lift.ensures, lowers c.args.y _ f.y lift2.ensures) at c.fill_in-t.ensures)
