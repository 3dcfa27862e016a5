-- The pixel at the place that the line names.
use Rattle.replies.proofs.Ops.{reaches}
use Rattle.replies.proofs.Answered.{looked-is}
use Rattle.replies.proofs.answers.get.Goals as goal

pub returns : goal.returns
returns c =
    let a = c.args in
    looked-is a.v a.bytes.now c.get_pixel.result (reaches _ c.int.type_inv c.int.ensures) (reaches _ c.int-2.type_inv c.int-2.ensures)
    c.get_pixel.ensures c.hash.ensures c.seen-status.ensures.0 c.seen-status.ensures.1
