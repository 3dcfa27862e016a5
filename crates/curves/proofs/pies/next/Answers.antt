-- What is passed before the end answers otherwise.
use Rattle.curves.specs.Pies.{covers}
use Rattle.curves.proofs.Runs.{passed_none, finds, passes, ends}
use Rattle.curves.proofs.pies.next.Goals as goal

pub loop-i-init : goal.loop-i-init
loop-i-init c = passed_none _ _ _ _ c.requires.0

pub in_sweep-requires : goal.in_sweep-requires
in_sweep-requires c =
    let l = c.loop-i in
    (c.requires.1.1.degrees, λ e far. c.requires.1.1.asked e l.i l.invariant.from c.loop-i-test.true far)

pub returns-then-in_sweep-taken : goal.returns-then-in_sweep-taken
unfolding covers
returns-then-in_sweep-taken c =
    let a = c.args in
    let l = c.loop-i in
    finds (λ k. covers a.p k a.y) a.taken _ _ l.i l.invariant _ c.loop-i-test.true c.in_sweep.ensures c.if-in_sweep-taken.true

pub loop-i-preserved : goal.loop-i-preserved
unfolding covers
loop-i-preserved c =
    let a = c.args in
    let l = c.loop-i in
    passes (λ k. covers a.p k a.y) a.taken _ _ l.i l.invariant _ c.loop-i-test.true c.in_sweep.ensures c.if-in_sweep-taken.false

pub returns : goal.returns
unfolding covers
returns c =
    let a = c.args in
    let l = c.loop-i in
    ends (λ k. covers a.p k a.y) a.taken _ _ l.i l.invariant c.loop-i-test.false
