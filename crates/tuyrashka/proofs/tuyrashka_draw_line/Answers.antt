-- The call of the canvas, its answer read in records.
use Rattle.canvas.specs.Call.{draw_line}
use Rattle.tuyrashka.proofs.Answers.{exports}
use Rattle.tuyrashka.proofs.tuyrashka_draw_line.Goals as goal

pub returns : goal.returns
returns c =
    let a = c.args in
    let f = c.ranges in
    exports a.argb a.bytes.now c.draw_line-d.result (λ x1 y1 x2 y2 k z. draw_line x1 y1 x2 y2 k z) f.x1 f.y1 f.x2 f.y2
    c.canvas_of-v.ensures c.clip_of-c.ensures c.color_of-k.ensures c.give_drawn.ensures c.draw_line-d.ensures
