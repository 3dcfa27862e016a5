-- A refusal is the first fault; else the line's plots with the colour's ink are made.
use Rattle.std.proofs.Common.{arith, Ok}
use Rattle.words.specs.Ink.{inked}
use Rattle.canvas.specs.Lines.{line}
use Rattle.canvas.specs.Call.{dots}
use Rattle.canvas.proofs.plot.Answers.{alone, declines, start-sized, start_draws}
use Rattle.canvas.proofs.lines.Loops.{line_of}
use Rattle.canvas.proofs.lines.draw_line.Goals as goal

pub line_in-requires : goal.line_in-requires
line_in-requires c =
    let a = c.args in
    (start-sized a.canvas a.bytes.now (Ok tt) (alone c.in_ok-judge.ensures), omega arith)

pub returns-in_err-judge : goal.returns-in_err-judge
returns-in_err-judge c = declines c.args.canvas c.args.bytes.now _ _ _ c.from_residual.ensures.1 (alone c.in_err-judge.ensures)

pub returns : goal.returns
unfolding dots
returns c =
    let ink = c.plot_ink-ink in
    let slice-known = c.slice_known-1 in
    let f = c.ranges in
    let g = c.well_formed.1.1.1.1.1.1.0.1 in
    start_draws c.args.canvas c.args.bytes.now (Ok tt) (alone c.in_ok-judge.ensures) c.args.color _ ink.ensures c.args.clip
    (line c.args.canvas c.args.x1 c.args.y1 c.args.x2 c.args.y2) _ _
    (record { byte = λ i. (slice-known.given i).fits })
    (record { a = g.1.0.1; r = g.1.1.0.1; g = g.1.1.1.0.1; b = g.1.1.1.1.0.1 })
    (line_of (inked ink.result) c.args.x1 c.args.y1 c.args.x2 c.args.y2 f.x1 f.y1 f.x2 f.y2 c.line_in.ensures)
