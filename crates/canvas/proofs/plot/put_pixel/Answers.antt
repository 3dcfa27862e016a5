-- A refusal is the first fault; else one plot with the colour's ink is made.
use Rattle.std.proofs.Common.{[], ◌∷◌, refl, arith, Ok}
use Rattle.canvas.specs.Plot.{at, inks}
use Rattle.canvas.specs.Call.{dots}
use Rattle.canvas.proofs.span.Lifts.{lowers}
use Rattle.canvas.proofs.plot.Draws.{ready_few}
use Rattle.canvas.proofs.plot.Answers.{alone, declines, start-sized, start_draws}
use Rattle.canvas.proofs.plot.put_pixel.Goals as goal

pub plot_at-t-requires : goal.plot_at-t-requires
plot_at-t-requires c =
    let a = c.args in
    ready_few (start-sized a.canvas a.bytes.now (Ok tt) (alone c.in_ok-judge.ensures)) refl (omega arith)

pub returns-in_err-judge : goal.returns-in_err-judge
returns-in_err-judge c = declines c.args.canvas c.args.bytes.now _ _ _ c.from_residual.ensures.1 (alone c.in_err-judge.ensures)

pub returns : goal.returns
unfolding dots inks
returns c =
    let ink = c.plot_ink-ink in
    let slice-known = c.slice_known-1 in
    let lift = c.lift-p in
    let lift2 = c.lift-q in
    let f = c.ranges in
    let g = c.well_formed.1.1.1.1.0.1 in
    start_draws c.args.canvas c.args.bytes.now (Ok tt) (alone c.in_ok-judge.ensures) c.args.color _ ink.ensures c.args.clip
    (at c.args.x c.args.y ∷ []) _ _
    (record { byte = λ i. (slice-known.given i).fits })
    (record { a = g.1.0.1; r = g.1.1.0.1; g = g.1.1.1.0.1; b = g.1.1.1.1.0.1 })
    (rw (lowers c.args.x _ f.x lift.ensures, lowers c.args.y _ f.y lift2.ensures) at c.plot_at-t.ensures)
