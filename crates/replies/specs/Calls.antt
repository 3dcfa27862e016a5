-- Which call an op with its own numbers stands for. The canvas, the colour and the clip come from elsewhere.
use Rattle.std.specs.Prelude.{false, cond, List, ℕ, eqb}
use Rattle.words.specs.declared.Color.{Color}
use Rattle.pixels.specs.declared.Canvas.{Canvas}
use Rattle.canvas.specs.declared.Clip.{Clip}
use Rattle.canvas.specs.Call.{draw, put_pixel, draw_line, draw_rect, fill_rect, invert_rect, Outcome, outcome, call}
use Rattle.images.specs.Areas.{copy_area}
use Rattle.ovals.specs.Call.{draw_arc, fill_arc, draw_round_rect, fill_round_rect}
use Rattle.cases.specs.Ops as op
use Rattle.replies.specs.Numbers.{word_at, int_at, canvas_at}

-- "copy | dx dy sx sy w h CLIP", "draw | dx dy w h SF SW SH SSEED sx sy CLIP", with row and rule right after SSEED; what is no
-- drawing op draws nothing.
unfoldable pub picture_by : ℕ → List ℕ → Canvas → Clip → List ℕ → List ℕ → Outcome
picture_by o n v k image b =
    cond (eqb o op.copy) (copy_area v (int_at n 0) (int_at n 1) (int_at n 2) (int_at n 3) (word_at n 4) (word_at n 5) k b)
    (cond (eqb o op.draw) (call v (draw (int_at n 0) (int_at n 1) (word_at n 2) (word_at n 3) (canvas_at n 4 8 false) image (int_at n 10) (int_at n 11) k) b)
    (outcome 0 0 b))

-- "arc, pie | x y w h start sweep COL CLIP", "rrect, frrect | x y w h aw ah COL CLIP"
unfoldable pub round_by : ℕ → List ℕ → Canvas → Color → Clip → List ℕ → List ℕ → Outcome
round_by o n v c k image b =
    cond (eqb o op.arc) (call v (draw_arc (int_at n 0) (int_at n 1) (word_at n 2) (word_at n 3) (int_at n 4) (int_at n 5) c k) b)
    (cond (eqb o op.pie) (call v (fill_arc (int_at n 0) (int_at n 1) (word_at n 2) (word_at n 3) (int_at n 4) (int_at n 5) c k) b)
    (cond (eqb o op.rrect) (call v (draw_round_rect (int_at n 0) (int_at n 1) (word_at n 2) (word_at n 3) (word_at n 4) (word_at n 5) c k) b)
    (cond (eqb o op.frrect) (call v (fill_round_rect (int_at n 0) (int_at n 1) (word_at n 2) (word_at n 3) (word_at n 4) (word_at n 5) c k) b)
    (picture_by o n v k image b))))

-- "put | x y COL CLIP", "line | x1 y1 x2 y2 COL CLIP", "rect, fill | x y w h COL CLIP", "invert | x y w h CLIP"
unfoldable pub drawn_by : ℕ → List ℕ → Canvas → Color → Clip → List ℕ → List ℕ → Outcome
drawn_by o n v c k image b =
    cond (eqb o op.put) (call v (put_pixel (int_at n 0) (int_at n 1) c k) b)
    (cond (eqb o op.line) (call v (draw_line (int_at n 0) (int_at n 1) (int_at n 2) (int_at n 3) c k) b)
    (cond (eqb o op.rect) (call v (draw_rect (int_at n 0) (int_at n 1) (word_at n 2) (word_at n 3) c k) b)
    (cond (eqb o op.fill) (call v (fill_rect (int_at n 0) (int_at n 1) (word_at n 2) (word_at n 3) c k) b)
    (cond (eqb o op.invert) (call v (invert_rect (int_at n 0) (int_at n 1) (word_at n 2) (word_at n 3) k) b)
    (round_by o n v c k image b)))))
