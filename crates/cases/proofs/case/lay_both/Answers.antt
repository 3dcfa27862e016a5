-- `lay_both` lays both out where both have room.
use mathlib.Core.Path.{sym}
use lib.ListN.{length}
use lib.Seq.{length-take-le}
use Rattle.cases.specs.Place.{taken}
use Rattle.cases.proofs.Cases.{within, fills, no_first, no_second, both_laid}
use Rattle.cases.proofs.case.lay_both.Goals as goal

pub returns-in_err-n : goal.returns-in_err-n
returns-in_err-n c =
    let a = c.args in
    rw c.from_residual.ensures (no_first a.name (taken a.head) (taken a.args) a.bytes.now a.image.now c.in_err-n.ensures)

pub returns-in_err-m : goal.returns-in_err-m
returns-in_err-m c =
    let a = c.args in
    rw c.from_residual-in_err-m.ensures (no_second a.name (taken a.head) (taken a.args) a.bytes.now a.image.now c.in_ok-n.n c.in_ok-n.ensures c.in_err-m.ensures)

pub slice_bounds-sow-end : goal.slice_bounds-sow-end
slice_bounds-sow-end c = within (length c.args.bytes.now) 0 5 c.in_ok-n.n (taken c.args.head) c.in_ok-n.ensures

pub slice_bounds-sow-end-2 : goal.slice_bounds-sow-end-2
slice_bounds-sow-end-2 c = sym (length-take-le c.in_ok-n.n c.args.bytes.now (within (length c.args.bytes.now) 0 5 c.in_ok-n.n (taken c.args.head) c.in_ok-n.ensures))

pub sow-requires : goal.sow-requires
sow-requires c =
    let d = c.args.bytes.now in
    let h = taken c.args.head in
    rw (length-take-le c.in_ok-n.n d (within (length d) 0 5 c.in_ok-n.n h c.in_ok-n.ensures)) (fills (length d) 0 5 c.in_ok-n.n h c.in_ok-n.ensures)

pub slice_bounds-sow-end-3 : goal.slice_bounds-sow-end-3
slice_bounds-sow-end-3 c = within (length c.args.image.now) 4 8 c.in_ok-m.m (taken c.args.args) c.in_ok-m.ensures

pub slice_bounds-sow-end-4 : goal.slice_bounds-sow-end-4
slice_bounds-sow-end-4 c = sym (length-take-le c.in_ok-m.m c.args.image.now (within (length c.args.image.now) 4 8 c.in_ok-m.m (taken c.args.args) c.in_ok-m.ensures))

pub sow-requires-2 : goal.sow-requires-2
sow-requires-2 c =
    let d = c.args.image.now in
    let r = taken c.args.args in
    rw (length-take-le c.in_ok-m.m d (within (length d) 4 8 c.in_ok-m.m r c.in_ok-m.ensures)) (fills (length d) 4 8 c.in_ok-m.m r c.in_ok-m.ensures)

pub returns : goal.returns
returns c =
    let a = c.args in
    both_laid a.name (taken a.head) (taken a.args) a.bytes.now a.image.now c.in_ok-n.n c.in_ok-n.ensures c.in_ok-m.m c.in_ok-m.ensures c.sow.ensures c.sow-2.ensures
