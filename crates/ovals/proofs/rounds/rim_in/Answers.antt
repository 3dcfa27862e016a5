-- The edges, then the upper quarters, then the lower ones.
use Rattle.std.proofs.Common.{false, arith}
use lib.Ieee.{of_bits}
use Rattle.words.specs.Ink.{inked}
use Rattle.canvas.specs.Boxes.{edges}
use Rattle.canvas.specs.Walk.{lowered}
use Rattle.canvas.proofs.boxes.Chains.{did_le, did_sized, ready_room, edges_le}
use Rattle.ovals.proofs.strokes.Quarters.{nought, ninety, one_eighty, two_seventy, half_le, quarters_did, rim_did}
use Rattle.ovals.proofs.rounds.rim_in.Goals as goal

pub edges_in-n-requires : goal.edges_in-n-requires
edges_in-n-requires c =
    let a = c.args in
    let p = c.requires in
    let inset = c.inset-rx in (
      ready_room (inked a.ink) (edges a.canvas (lowered a.p) (lowered a.q) a.w a.h inset.result c.inset-ry.result) p.0
          (omega (arith, p.1.0, edges_le a.canvas (lowered a.p) (lowered a.q) a.w a.h inset.result c.inset-ry.result p.0.wide p.0.high)),
      p.1.1,
    )

pub half_in-m-requires : goal.half_in-m-requires
half_in-m-requires c =
    let a = c.args in
    let p = c.requires in
    let edges_in = c.edges_in-n in
    let inset = c.inset-rx in
    let inset2 = c.inset-ry in (
      did_sized edges_in.ensures p.0,
      omega (
        arith,
        p.1.0,
        did_le (inked a.ink) (edges a.canvas (lowered a.p) (lowered a.q) a.w a.h inset.result inset2.result) edges_in.ensures,
        edges_le a.canvas
            (lowered a.p) (lowered a.q) a.w a.h inset.result inset2.result p.0.wide p.0.high,
      ),
    )

pub half_in-requires : goal.half_in-requires
half_in-requires c =
    let a = c.args in
    let p = c.requires in
    let half_in = c.half_in-m in
    let edges_in = c.edges_in-n in
    let inset = c.inset-rx in
    let inset2 = c.inset-ry in (
      did_sized half_in.ensures (did_sized edges_in.ensures p.0),
      omega (
        arith,
        p.1.0,
        did_le (inked a.ink) (edges a.canvas (lowered a.p) (lowered a.q) a.w a.h inset.result inset2.result) edges_in.ensures,
        edges_le a.canvas
            (lowered a.p) (lowered a.q) a.w a.h inset.result inset2.result p.0.wide p.0.high,
        half_le (inked a.ink) a.c false _ _ p.0.wide p.0.high
            half_in.ensures,
      ),
    )

pub returns : goal.returns
unfolding of_bits
returns c =
    let a = c.args in
    let inset = c.inset-rx in
    let inset2 = c.inset-ry in
    rim_did (inked a.ink) a.c (lowered a.p) (lowered a.q) a.w a.h inset.result inset2.result inset.ensures inset2.ensures
    c.edges_in-n.ensures
    (quarters_did (inked a.ink) a.c _ _ _ _ nought ninety one_eighty two_seventy c.half_in-m.ensures
    c.half_in.ensures)
