-- A refusal is the first fault; else the point is read.
use Rattle.std.proofs.Common.{sym}
use Rattle.canvas.proofs.faults.Verdicts.{sized}
use Rattle.canvas.proofs.look.Looks.{reads_refusal, reads_sound}
use Rattle.canvas.proofs.look.get_pixel.Goals as goal

pub returns-in_err-judge : goal.returns-in_err-judge
returns-in_err-judge c = reads_refusal c.args.canvas c.args.bytes.now c.args.x c.args.y _ _ c.from_residual.ensures.1 c.in_err-judge.ensures

pub pixel_at-requires : goal.pixel_at-requires
pixel_at-requires c = sized _ _ (sym c.in_ok-judge.ensures)

pub returns : goal.returns
returns c =
    reads_sound c.args.canvas c.args.bytes.now c.args.x c.args.y _ _ _ c.in_ok-judge.ensures c.ranges.x c.ranges.y c.lift.ensures c.lift-2.ensures c.pixel_at.ensures
