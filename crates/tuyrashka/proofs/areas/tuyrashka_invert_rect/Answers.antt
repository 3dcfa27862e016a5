-- The call of the canvas, its answer read in records.
use Rattle.canvas.specs.Call.{invert_rect, call}
use Rattle.tuyrashka.proofs.Answers.{answers}
use Rattle.tuyrashka.proofs.areas.tuyrashka_invert_rect.Goals as goal

pub returns : goal.returns
returns c =
    let a = c.args in
    let f = c.ranges in
    answers c.invert_rect-d.result (λ v x y _ _ z. call v (invert_rect x y a.w a.h z) a.bytes.now) f.x f.y f.x f.y
    c.canvas_of-v.ensures c.clip_of-c.ensures c.give_drawn.ensures c.invert_rect-d.ensures
