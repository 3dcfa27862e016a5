-- The call of the canvas, its answer read in records.
use Rattle.canvas.specs.Call.{put_pixel}
use Rattle.tuyrashka.proofs.Answers.{exports}
use Rattle.tuyrashka.proofs.tuyrashka_put_pixel.Goals as goal

pub returns : goal.returns
returns c =
    let a = c.args in
    let f = c.ranges in
    exports a.argb a.bytes.now c.put_pixel-d.result (λ x y _ _ k z. put_pixel x y k z) f.x f.y f.x f.y
    c.canvas_of-v.ensures c.clip_of-c.ensures c.color_of-k.ensures c.give_drawn.ensures c.put_pixel-d.ensures
