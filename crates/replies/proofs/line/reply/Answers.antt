-- The case of the line's text, and its reply.
use mathlib.Core.Path.{sym}
use native.Mathlib.Omega.{arith}
use lib.ListN.{length}
use Prim.Native.Nat.{◌≤◌}
use lib.Seq.{length-take-le}
use Rattle.cases.proofs.Cases.{case_fits}
use Rattle.replies.proofs.Replies.{refused-is, answered-is}
use Rattle.replies.proofs.line.reply.Goals as goal

pub returns-in_default : goal.returns-in_default
returns-in_default c =
    let a = c.args in
    refused-is a.line.now a.bytes.now a.image.now a.words.now a.out.now (rw c.text_of.ensures at c.in_default.ensures) c.refuse.ensures

pub slice_bounds-respond-end : goal.slice_bounds-respond-end
slice_bounds-respond-end c = omega (arith, (case_fits c.args.bytes.now c.args.image.now _ c.in-Some.ensures).0, c.read.auto.bytes)

pub slice_bounds-respond-end-2 : goal.slice_bounds-respond-end-2
slice_bounds-respond-end-2 c =
    let w : c.in-Some.case.bytes ≤ length c.read.new.bytes = omega (arith, (case_fits c.args.bytes.now c.args.image.now _ c.in-Some.ensures).0, c.read.auto.bytes) in
    sym (length-take-le _ _ w)

pub slice_bounds-respond-end-3 : goal.slice_bounds-respond-end-3
slice_bounds-respond-end-3 c = omega (arith, (case_fits c.args.bytes.now c.args.image.now _ c.in-Some.ensures).1, c.read.auto.image)

pub slice_bounds-respond-end-4 : goal.slice_bounds-respond-end-4
slice_bounds-respond-end-4 c =
    let w : c.in-Some.case.image ≤ length c.read.new.image = omega (arith, (case_fits c.args.bytes.now c.args.image.now _ c.in-Some.ensures).1, c.read.auto.image) in
    sym (length-take-le _ _ w)

pub returns : goal.returns
returns c =
    let a = c.args in
    answered-is a.line.now a.bytes.now a.image.now a.words.now a.out.now c.in-Some.case (rw c.text_of.ensures at c.in-Some.ensures)
    c.respond-answer.ensures c.write.ensures
