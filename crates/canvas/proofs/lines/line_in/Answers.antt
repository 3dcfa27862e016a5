-- Nothing, or what is left of the segment.
use Rattle.canvas.proofs.lines.Loops.{line-nothing, line-left}
use Rattle.words.specs.Ink.{inked}
use Rattle.canvas.proofs.lines.line_in.Goals as goal

pub returns-in-None : goal.returns-in-None
returns-in-None c =
    let a = c.args in
    line-nothing a.canvas a.x1 a.y1 a.x2 a.y2 c.ranges.x1 c.ranges.y1 c.ranges.x2 c.ranges.y2 c.clip_segment.result
    c.clip_segment.ensures (inked a.ink) c.in-None.is

pub returns-in-Some : goal.returns-in-Some
returns-in-Some c =
    let a = c.args in
    line-left a.canvas a.x1 a.y1 a.x2 a.y2 c.ranges.x1 c.ranges.y1 c.ranges.x2 c.ranges.y2 c.clip_segment.result
    c.clip_segment.ensures (inked a.ink) _ c.in-Some.is c.segment_in.ensures
