-- `decode` hashes what was written, which is within the words lent; the product of two sides of 32 bits fits 64.
use mathlib.Core.Path.{sym}
use native.Mathlib.Omega.{arith}
use lib.Seq.{length-take-le}
use Rattle.cases.proofs.Cases.{area_fits}
use Rattle.replies.proofs.Answered.{decoded-is}
use borrow.Author.Rules.{rules}
use Rattle.replies.proofs.answers.decode.Goals as goal

pub overflow_mul-image : goal.overflow_mul-image
overflow_mul-image c = record { fits = area_fits _ _ (search rules) (search rules) }

pub slice_bounds-hash_words-end-2 : goal.slice_bounds-hash_words-end-2
slice_bounds-hash_words-end-2 c = sym (length-take-le _ _ (omega (arith, c.min-n.ensures)))

pub returns : goal.returns
returns c =
    let decode_lbmp = c.decode_lbmp in
    let a = c.args in
    decoded-is a.file.now a.words.now decode_lbmp.result decode_lbmp.ensures c.judged-status.ensures c.min-n.ensures c.hash_words.ensures
