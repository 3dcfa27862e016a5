-- What is left of the row leads to the same end as all of it; a turn inks one run.
use Rattle.std.proofs.Common.{refl}
use Rattle.words.specs.Ink.{inked}
use Rattle.curves.specs.Pies.{covers}
use Rattle.canvas.specs.Walk.{work}
use Rattle.ovals.specs.Sift.{sift}
use Rattle.ovals.proofs.runs.Sifts.{found_first, run_room, run-turn, rows_end}
use Rattle.ovals.proofs.runs.sift_row.Goals as goal

pub loop-x-init : goal.loop-x-init
loop-x-init c =
    let a = c.args in
    found_first (covers a.k) (inked a.ink) a.y a.x1 a.canvas (work a.b.now a.t) a.x0 _ c.next-x.ensures

pub overflow_add-landed : goal.overflow_add-landed
overflow_add-landed c =
    let a = c.args in
    let l = c.loop-x in
    record {
      fits = run_room (covers a.k) (inked a.ink) a.y a.x1 a.canvas l.b l.n a.x0 l.x _ _ l.invariant
          c.loop-x-test.true
          c.next-to.ensures c.requires.1.1.1.1.0;
    }

pub loop-x-preserved : goal.loop-x-preserved
loop-x-preserved c =
    let a = c.args in
    let l = c.loop-x in
    run-turn (covers a.k) (inked a.ink) a.y a.x1 a.canvas l.b l.n a.x0 l.x _ _ l.invariant
    c.loop-x-test.true
    c.next-to.ensures _ _ c.min.ensures c.next-x-in-loop-x.ensures _ _
    c.ink_row.ensures refl

pub returns : goal.returns
returns c =
    let a = c.args in
    let l = c.loop-x in
    rows_end a.canvas (sift (covers a.k) (inked a.ink) a.y) l.x a.x1 l.invariant.left c.loop-x-test.false
