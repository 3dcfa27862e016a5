-- `read_args` reads one by one; what is lost stays lost.
use mathlib.Core.Path.{refl, sym, ◌∙◌, ap}
use Prim.Native.Nat.{◌+◌}
use lib.ListN.{drop}
use Rattle.cases.specs.Line.{Got, got}
use Rattle.cases.specs.Row.{Args, args_of, args_from}
use Rattle.cases.specs.Place.{taken, left_of, pairs}
use Rattle.cases.proofs.Rows.{one_more, all_read, args_lost}
use Rattle.cases.proofs.row.read_args.Goals as goal

pub loop-i-init : goal.loop-i-init
unfolding args_of pairs
loop-i-init c = refl

pub returns-in_err-left : goal.returns-in_err-left
returns-in_err-left c =
    let l = c.loop-i in
    let ks = c.args.kinds.now in
    rw c.from_residual.ensures
    (ap (λ (g : Got Args). g.left) (sym l.invariant ∙ one_more l.i ks _ (got (taken l.args) (left_of l.left)) c.loop-i-test.true) ∙
    args_lost (l.i + 1) (drop (l.i + 1) ks) _ c.in_err-left.ensures)

pub loop-i-preserved : goal.loop-i-preserved
loop-i-preserved c =
    let l = c.loop-i in
    let ks = c.args.kinds.now in
    ap (args_from (l.i + 1) (drop (l.i + 1) ks)) (sym c.in_ok-left.ensures) ∙
    sym (one_more l.i ks _ (got (taken l.args) (left_of l.left)) c.loop-i-test.true) ∙ l.invariant

pub returns : goal.returns
returns c =
    let l = c.loop-i in
    sym l.invariant ∙ all_read l.i c.args.kinds.now (got (taken l.args) (left_of l.left)) c.loop-i-test.false
