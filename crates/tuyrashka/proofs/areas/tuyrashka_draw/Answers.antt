-- The call of the canvas, its answer read in records.
use Rattle.canvas.specs.Call.{draw, call}
use Rattle.tuyrashka.specs.Exported.{source_of}
use Rattle.tuyrashka.proofs.Answers.{answers}
use Rattle.tuyrashka.proofs.areas.tuyrashka_draw.Goals as goal

pub returns : goal.returns
returns c =
    let a = c.args in
    let f = c.ranges in
    answers c.draw-d.result (λ v x y i j z. call v (draw x y a.w a.h (source_of a.source.now) a.image.now i j z) a.bytes.now)
    f.dx f.dy f.sx f.sy c.canvas_of-v.ensures c.clip_of-c.ensures c.give_drawn.ensures (rw c.source_of-s.ensures at c.draw-d.ensures)
