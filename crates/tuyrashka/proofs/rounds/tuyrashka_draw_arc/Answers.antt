-- The call of the canvas, its answer read in records.
use Rattle.ovals.specs.Call.{draw_arc}
use Rattle.tuyrashka.proofs.Answers.{exports}
use Rattle.tuyrashka.proofs.rounds.tuyrashka_draw_arc.Goals as goal

pub returns : goal.returns
returns c =
    let a = c.args in
    let f = c.ranges in
    exports a.argb a.bytes.now c.draw_arc-d.result (λ x y s t k z. draw_arc x y a.w a.h s t k z) f.x f.y f.start_angle f.arc_angle
    c.canvas_of-v.ensures c.clip_of-c.ensures c.color_of-k.ensures c.give_drawn.ensures c.draw_arc-d.ensures
