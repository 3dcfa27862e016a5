-- Each op is the call of its row, made with the numbers of the line.
use borrow.Author.Tests.{ne_eqb}
use Rattle.canvas.specs.Call.{call}
use Rattle.ovals.specs.Call.{draw_arc, fill_arc, draw_round_rect, fill_round_rect}
use Rattle.cases.specs.Ops as op
use Rattle.replies.specs.Calls.{round_by}
use Rattle.replies.proofs.Ops.{named, reaches, made₆, arc-is, pie-is, rrect-is, frrect-is}
use Rattle.replies.proofs.calls.round_call.Goals as goal

pub returns-in-6386275 : goal.returns-in-6386275
returns-in-6386275 c =
    let a = c.args in
    named (λ o. round_by o a.n.words a.v a.c a.k a.image.now a.bytes.now) c.in-6386275.is (arc-is a.n.words a.v a.c a.k a.image.now a.bytes.now)
    (made₆ (λ x y w h s t. call a.v (draw_arc x y w h s t a.c a.k) a.bytes.now)
    (reaches _ c.int-x.type_inv c.int-x.ensures) (reaches _ c.int-y.type_inv c.int-y.ensures) c.word-w.ensures c.word-h.ensures
    (reaches _ c.int.type_inv c.int.ensures) (reaches _ c.int-in-6386275.type_inv c.int-in-6386275.ensures) c.draw_arc.ensures)

pub returns-in-7367013 : goal.returns-in-7367013
returns-in-7367013 c =
    let a = c.args in
    named (λ o. round_by o a.n.words a.v a.c a.k a.image.now a.bytes.now) c.in-7367013.is (pie-is a.n.words a.v a.c a.k a.image.now a.bytes.now)
    (made₆ (λ x y w h s t. call a.v (fill_arc x y w h s t a.c a.k) a.bytes.now)
    (reaches _ c.int-x.type_inv c.int-x.ensures) (reaches _ c.int-y.type_inv c.int-y.ensures) c.word-w.ensures c.word-h.ensures
    (reaches _ c.int-in-7367013.type_inv c.int-in-7367013.ensures) (reaches _ c.int-in-7367013-2.type_inv c.int-in-7367013-2.ensures) c.fill_arc.ensures)

pub returns-in-491545518964 : goal.returns-in-491545518964
returns-in-491545518964 c =
    let a = c.args in
    named (λ o. round_by o a.n.words a.v a.c a.k a.image.now a.bytes.now) c.in-491545518964.is (rrect-is a.n.words a.v a.c a.k a.image.now a.bytes.now)
    (made₆ (λ x y w h s t. call a.v (draw_round_rect x y w h s t a.c a.k) a.bytes.now)
    (reaches _ c.int-x.type_inv c.int-x.ensures) (reaches _ c.int-y.type_inv c.int-y.ensures) c.word-w.ensures c.word-h.ensures
    c.word.ensures c.word-in-491545518964.ensures c.draw_round_rect.ensures)

pub returns-in-112641731552116 : goal.returns-in-112641731552116
returns-in-112641731552116 c =
    let a = c.args in
    named (λ o. round_by o a.n.words a.v a.c a.k a.image.now a.bytes.now) c.in-112641731552116.is (frrect-is a.n.words a.v a.c a.k a.image.now a.bytes.now)
    (made₆ (λ x y w h s t. call a.v (fill_round_rect x y w h s t a.c a.k) a.bytes.now)
    (reaches _ c.int-x.type_inv c.int-x.ensures) (reaches _ c.int-y.type_inv c.int-y.ensures) c.word-w.ensures c.word-h.ensures
    c.word-in-112641731552116.ensures c.word-in-112641731552116-2.ensures c.fill_round_rect.ensures)

pub returns-in_default : goal.returns-in_default
unfolding round_by
returns-in_default c =
    let o = c.args.op in
    let rest = c.in_default.in_default-own.rest in
    rw (ne_eqb o op.arc rest.0.0.0.1, ne_eqb o op.pie rest.0.0.1, ne_eqb o op.rrect rest.0.1, ne_eqb o op.frrect rest.1)
    c.picture_call.ensures
