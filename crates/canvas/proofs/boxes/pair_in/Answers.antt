-- One fill after the other.
use Rattle.words.specs.Ink.{inked}
use Rattle.canvas.specs.Boxes.{fill}
use Rattle.canvas.specs.Walk.{lowered}
use Rattle.canvas.proofs.boxes.Chains.{then, ready_first, ready_then}
use Rattle.canvas.proofs.boxes.pair_in.Goals as goal

pub fill_in-n-requires : goal.fill_in-n-requires
fill_in-n-requires c =
    let a = c.args in (
      ready_first (inked a.ink) (fill a.canvas (lowered a.p) (lowered a.q) a.w a.h)
          (fill a.canvas (lowered a.u) (lowered a.v) a.w a.h) c.requires.0,
      (c.requires.1.0, c.requires.1.1.0),
    )

pub fill_in-requires : goal.fill_in-requires
fill_in-requires c =
    let a = c.args in (
      ready_then (inked a.ink) (fill a.canvas (lowered a.p) (lowered a.q) a.w a.h)
          (fill a.canvas (lowered a.u) (lowered a.v) a.w a.h) c.fill_in-n.ensures c.requires.0,
      c.requires.1.1.1,
    )

pub returns : goal.returns
returns c =
    let a = c.args in
    then (inked a.ink) (fill a.canvas (lowered a.p) (lowered a.q) a.w a.h) (fill a.canvas (lowered a.u) (lowered a.v) a.w a.h)
    c.fill_in-n.ensures c.fill_in.ensures
