-- Each op is the call of its row, made with the numbers of the line.
use Prim.Native.Nat.{ℕ}
use borrow.Author.Tests.{ne_eqb}
use Rattle.canvas.specs.Call.{call, put_pixel, draw_line, draw_rect, fill_rect, invert_rect}
use Rattle.cases.specs.Ops as op
use Rattle.replies.specs.Calls.{drawn_by}
use Rattle.replies.proofs.Ops.{named, reaches, made, put_is, line-is, rect-is, fill_is, invert-is}
use Rattle.replies.proofs.calls.call.Goals as goal

pub returns-in-7370100 : goal.returns-in-7370100
returns-in-7370100 c =
    let a = c.args in
    named (λ o. drawn_by o a.n a.v a.c a.k a.image.now a.bytes.now) c.in-7370100.is (put_is a.n a.v a.c a.k a.image.now a.bytes.now)
    (made {A = ℕ} {B = ℕ} (λ x y _ _. call a.v (put_pixel x y a.c a.k) a.bytes.now)
    (reaches _ c.int-x.type_inv c.int-x.ensures) (reaches _ c.int-y.type_inv c.int-y.ensures)
    c.word-w.ensures c.word-h.ensures c.put_pixel.ensures)

pub returns-in-1818848869 : goal.returns-in-1818848869
returns-in-1818848869 c =
    let a = c.args in
    named (λ o. drawn_by o a.n a.v a.c a.k a.image.now a.bytes.now) c.in-1818848869.is (line-is a.n a.v a.c a.k a.image.now a.bytes.now)
    (made (λ x y z t. call a.v (draw_line x y z t a.c a.k) a.bytes.now)
    (reaches _ c.int-x.type_inv c.int-x.ensures) (reaches _ c.int-y.type_inv c.int-y.ensures)
    (reaches _ c.int.type_inv c.int.ensures) (reaches _ c.int-in-1818848869.type_inv c.int-in-1818848869.ensures) c.draw_line.ensures)

pub returns-in-1919247220 : goal.returns-in-1919247220
returns-in-1919247220 c =
    let a = c.args in
    named (λ o. drawn_by o a.n a.v a.c a.k a.image.now a.bytes.now) c.in-1919247220.is (rect-is a.n a.v a.c a.k a.image.now a.bytes.now)
    (made (λ x y w h. call a.v (draw_rect x y w h a.c a.k) a.bytes.now)
    (reaches _ c.int-x.type_inv c.int-x.ensures) (reaches _ c.int-y.type_inv c.int-y.ensures)
    c.word-w.ensures c.word-h.ensures c.draw_rect.ensures)

pub returns-in-1718185068 : goal.returns-in-1718185068
returns-in-1718185068 c =
    let a = c.args in
    named (λ o. drawn_by o a.n a.v a.c a.k a.image.now a.bytes.now) c.in-1718185068.is (fill_is a.n a.v a.c a.k a.image.now a.bytes.now)
    (made (λ x y w h. call a.v (fill_rect x y w h a.c a.k) a.bytes.now)
    (reaches _ c.int-x.type_inv c.int-x.ensures) (reaches _ c.int-y.type_inv c.int-y.ensures)
    c.word-w.ensures c.word-h.ensures c.fill_rect.ensures)

pub returns-in-115923153678964 : goal.returns-in-115923153678964
returns-in-115923153678964 c =
    let a = c.args in
    named (λ o. drawn_by o a.n a.v a.c a.k a.image.now a.bytes.now) c.in-115923153678964.is (invert-is a.n a.v a.c a.k a.image.now a.bytes.now)
    (made (λ x y w h. call a.v (invert_rect x y w h a.k) a.bytes.now)
    (reaches _ c.int-x.type_inv c.int-x.ensures) (reaches _ c.int-y.type_inv c.int-y.ensures)
    c.word-w.ensures c.word-h.ensures c.invert_rect.ensures)

pub returns-in_default : goal.returns-in_default
unfolding drawn_by
returns-in_default c =
    let o = c.args.op in
    let rest = c.in_default.in_default-own.rest in
    rw
    (ne_eqb o op.put rest.0.0.0.0.1, ne_eqb o op.line rest.0.0.0.1, ne_eqb o op.rect rest.0.0.1, ne_eqb o op.fill rest.0.1, ne_eqb o op.invert rest.1)
    c.round_call.ensures
