-- `bitmap` lends a part of the words.
use mathlib.Core.Path.{sym}
use native.Mathlib.Omega.{arith}
use lib.Seq.{length-take-le}
use Rattle.replies.proofs.Answered.{bitmap_is}
use Rattle.replies.proofs.answers.bitmap.Goals as goal

pub slice_bounds-decode-end-2 : goal.slice_bounds-decode-end-2
slice_bounds-decode-end-2 c = sym (length-take-le _ _ (omega (arith, c.min-n.ensures)))

pub returns : goal.returns
returns c =
    let args = c.args in
    let least = c.min-n in
    let decode = c.decode in
    bitmap_is args.room args.file.now args.words.now least.ensures decode.ensures
