-- The call of the canvas, its answer read in records.
use Rattle.canvas.specs.Call.{fill_rect}
use Rattle.tuyrashka.proofs.Answers.{exports}
use Rattle.tuyrashka.proofs.tuyrashka_fill_rect.Goals as goal

pub returns : goal.returns
returns c =
    let a = c.args in
    let f = c.ranges in
    exports a.argb a.bytes.now c.fill_rect-d.result (λ x y _ _ k z. fill_rect x y a.w a.h k z) f.x f.y f.x f.y
    c.canvas_of-v.ensures c.clip_of-c.ensures c.color_of-k.ensures c.give_drawn.ensures c.fill_rect-d.ensures
