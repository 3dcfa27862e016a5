-- The line that `next` finds is answered behind what is used of out.
use Rattle.std.proofs.Common.{arith}
use Rattle.dialogue.specs.Line.{Stands}
use Rattle.replies.proofs.Replies.{replied-within}
use Rattle.replay.proofs.Behind.{within}
use Rattle.replay.proofs.serve.Goals as goal

pub overflow_add-last : goal.overflow_add-last
overflow_add-last g c =
    let p = c.in-Some.p in
    let stands : Stands p c.next.new.text c.loop.out = rw c.in-Some.is at c.in_ok-p.ensures.stands in
    record { fits = omega (arith, within c.loop.out p.used c.reply-n.result stands.room (replied-within _ _ _ _ _ c.reply-n.ensures)) }
