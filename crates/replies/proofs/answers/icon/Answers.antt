-- By the answer's two cases.
use Rattle.res.specs.Search.{reads}
use Rattle.replies.specs.Answers.{icon_of, start_of}
use Rattle.replies.proofs.answers.icon.Goals as goal

pub returns-in-Err : goal.returns-in-Err
unfolding icon_of reads start_of
returns-in-Err c =
    let decode_res = c.decode_res in
    let hash = c.hash-hash in
    let icon_pixels = c.icon_pixels in
    rw (← decode_res.ensures, c.in-Err.is, c.number.ensures, hash.ensures, icon_pixels.ensures)

pub returns-in-Ok : goal.returns-in-Ok
unfolding icon_of reads
returns-in-Ok c =
    let decode_res = c.decode_res in
    let hash = c.hash-hash in
    let icon_pixels = c.icon_pixels in
    rw (← decode_res.ensures, c.in-Ok.is, hash.ensures, icon_pixels.ensures, c.start_of.ensures)
