-- The call of the canvas, its answer read in records.
use Rattle.images.specs.Areas.{copy_area}
use Rattle.tuyrashka.proofs.Answers.{answers, counts}
use Rattle.tuyrashka.proofs.areas.tuyrashka_copy_area.Goals as goal

pub returns : goal.returns
returns c =
    let a = c.args in
    let f = c.ranges in
    let e = counts c.copy_counted-d.result _ _ c.copy_counted-d.ensures in
    answers c.copy_counted-d.result (λ v x y i j z. copy_area v x y i j a.w a.h z a.bytes.now) f.dx f.dy f.sx f.sy
    c.canvas_of-v.ensures c.clip_of-c.ensures (c.status.ensures, e.1) e.0
