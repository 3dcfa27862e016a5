-- Each op is the call of its row, made with the numbers of the line.
use mathlib.Core.Bool.{false}
use mathlib.Core.Path.{refl}
use borrow.Author.Tests.{ne_eqb}
use Rattle.canvas.specs.Call.{call, draw, status_of, count_of}
use Rattle.images.specs.Areas.{copy_area}
use Rattle.cases.specs.Ops as op
use Rattle.replies.specs.Numbers.{canvas_at}
use Rattle.replies.specs.Calls.{picture_by}
use Rattle.replies.proofs.Ops.{named, reaches, made₆, copy_is, draw-is}
use Rattle.replies.proofs.calls.picture_call.Goals as goal

pub returns-in-1668247673 : goal.returns-in-1668247673
returns-in-1668247673 c =
    let a = c.args in
    named (λ o. picture_by o a.n.words a.v a.k a.image.now a.bytes.now) c.in-1668247673.is (copy_is a.n.words a.v a.k a.image.now a.bytes.now)
    (made₆ (λ x y z t w h. copy_area a.v x y z t w h a.k a.bytes.now)
    (reaches _ c.int-x.type_inv c.int-x.ensures) (reaches _ c.int-y.type_inv c.int-y.ensures) (reaches _ c.int.type_inv c.int.ensures)
    (reaches _ c.int-in-1668247673.type_inv c.int-in-1668247673.ensures)
    c.word.ensures c.word-in-1668247673.ensures c.copy_area.ensures)

pub returns-in-1685217655 : goal.returns-in-1685217655
returns-in-1685217655 c =
    let a = c.args in
    named (λ o. picture_by o a.n.words a.v a.k a.image.now a.bytes.now) c.in-1685217655.is (draw-is a.n.words a.v a.k a.image.now a.bytes.now)
    (made₆ (λ x y w h i j. call a.v (draw x y w h (canvas_at a.n.words 4 8 false) a.image.now i j a.k) a.bytes.now)
    (reaches _ c.int-x.type_inv c.int-x.ensures) (reaches _ c.int-y.type_inv c.int-y.ensures) c.word-w.ensures c.word-h.ensures
    (reaches _ c.int-in-1685217655.type_inv c.int-in-1685217655.ensures) (reaches _ c.int-in-1685217655-2.type_inv c.int-in-1685217655-2.ensures) (rw c.canvas-s.ensures at c.draw.ensures))

pub returns-in_default : goal.returns-in_default
unfolding picture_by status_of count_of
returns-in_default c =
    let o = c.args.op in
    let rest = c.in_default.in_default-own.rest in
    rw (ne_eqb o op.copy rest.0.1, ne_eqb o op.draw rest.1) refl
