-- A refusal is the first fault; else the box's pixels are inked with the format's inversion.
use Rattle.std.proofs.Common.{Ok}
use Rattle.words.specs.Invert.{invert_ink}
use Rattle.words.proofs.Invert.{invert-is}
use Rattle.pixels.specs.Bytes.{form}
use Rattle.canvas.specs.Plot.{inverse}
use Rattle.canvas.specs.Boxes.{fill}
use Rattle.canvas.specs.Call.{dots}
use Rattle.canvas.proofs.span.Lifts.{lift_below, lowers}
use Rattle.canvas.proofs.plot.Answers.{alone, declines, start-sized, draws}
use Rattle.canvas.proofs.areas.invert_rect.Goals as goal

pub invert_in-requires : goal.invert_in-requires
invert_in-requires c =
    let a = c.args in
    let f = c.ranges in (
      start-sized a.canvas a.bytes.now (Ok tt) (alone c.in_ok-judge.ensures),
      (lift_below a.x _ f.x c.lift-p.ensures, lift_below a.y _ f.y c.lift-q.ensures),
    )

pub returns-in_err-judge : goal.returns-in_err-judge
returns-in_err-judge c = declines c.args.canvas c.args.bytes.now _ _ _ c.from_residual.ensures.1 (alone c.in_err-judge.ensures)

pub returns : goal.returns
unfolding dots
returns c =
    let a = c.args in
    let f = c.ranges in
    draws a.canvas a.bytes.now a.clip inverse (fill a.canvas a.x a.y a.w a.h) (invert_ink (form a.canvas)) _ _ _
    (alone c.in_ok-judge.ensures)
    (record { byte = λ i. (c.slice_known-1.given i).fits })
    (λ u l. invert-is (form a.canvas) u l)
    (rw (lowers a.x _ f.x c.lift-p.ensures, lowers a.y _ f.y c.lift-q.ensures) at c.invert_in.ensures)
