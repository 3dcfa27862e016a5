-- The colour and the clip are those of the line.
use Rattle.replies.proofs.Answered.{drew-is}
use Rattle.replies.proofs.answers.draw.Goals as goal

pub returns : goal.returns
returns c =
    let a = c.args in
    drew-is a.op a.n.words a.v a.image.now a.bytes.now c.call-d.result c.clip_at-at.ensures.value c.color-c.ensures c.clip-k.ensures c.call-d.ensures
    c.hash-hash.ensures c.counted_answer.ensures
