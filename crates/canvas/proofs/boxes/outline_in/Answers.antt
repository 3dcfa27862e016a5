-- A thin box is filled; the edges of another are its border, in another order.
use Rattle.std.proofs.Common.{sym, ◌∙◌, arith}
use Rattle.words.specs.Ink.{inked}
use Rattle.canvas.specs.Walk.{lowered}
use Rattle.canvas.proofs.boxes.Outline.{thin_box, larger_box, two_sides, border_ready, border_did}
use Rattle.canvas.proofs.boxes.Chains.{did_same, ready_same}
use Rattle.canvas.proofs.boxes.outline_in.Goals as goal

pub fill_in-requires : goal.fill_in-requires
fill_in-requires c =
    let a = c.args in (
      ready_same (inked a.ink) _ _ (thin_box a.canvas a.p a.q a.w a.h (sym c.is_empty.ensures ∙ c.if-is_empty.true)) c.requires.0,
      (omega (arith, c.requires.1.0), omega (arith, c.requires.1.1.0)),
    )

pub returns-then-is_empty : goal.returns-then-is_empty
returns-then-is_empty c = did_same (inked c.args.ink) _ _ (thin_box c.args.canvas c.args.p c.args.q c.args.w c.args.h (sym c.is_empty.ensures ∙ c.if-is_empty.true)) c.fill_in.ensures

pub edges_in-requires : goal.edges_in-requires
edges_in-requires c =
    let l = two_sides c.args.w c.args.h (sym c.is_empty.ensures ∙ c.if-is_empty.false) in (
      border_ready c.args.canvas c.args.clip c.args.ink c.requires.1.1.1 (lowered c.args.p) (lowered c.args.q) c.args.w c.args.h
          c.args.b.now c.args.t (record {
            long = c.requires.0.sized.long;
            bytes = record { byte = λ i. omega (arith, c.slice_known-1.given i) };
          })
          (ready_same (inked c.args.ink) _ _ (larger_box c.args.canvas c.args.p c.args.q c.args.w c.args.h
          (sym c.is_empty.ensures ∙ c.if-is_empty.false)) c.requires.0),
      (c.requires.1.0, (c.requires.1.1.0, (omega (arith, l.0), omega (arith, l.1)))),
    )

pub returns : goal.returns
returns c =
    let a = c.args in
    did_same (inked a.ink) _ _ (larger_box a.canvas a.p a.q a.w a.h (sym c.is_empty.ensures ∙ c.if-is_empty.false))
    (border_did a.canvas a.clip a.ink c.requires.1.1.1 (lowered a.p) (lowered a.q) a.w a.h a.b.now a.t
    (record { long = c.requires.0.sized.long; bytes = record { byte = λ i. omega (arith, c.slice_known-1.given i) } })
    c.edges_in.ensures)
