-- What lands of the sieve is what passes in the two overlaps.
use Rattle.std.proofs.Common.{w32, SFits}
use Rattle.words.specs.Ink.{inked}
use Rattle.canvas.specs.Plot.{inks}
use Rattle.ovals.specs.Sift.{takes, plots}
use Rattle.canvas.specs.Walk.{work}
use Rattle.canvas.proofs.span.Spans.{told_cut}
use Rattle.ovals.proofs.fills.Sieves.{sieve-hits, land_fits, land_did}
use Rattle.ovals.proofs.runs.Rows.{cut_lies}
use Rattle.ovals.proofs.runs.run_in.Goals as goal

pub run_box-requires : goal.run_box-requires
run_box-requires c =
    let a = c.args in
    let r = a.area in
    let sx : SFits w32 a.clip.x = record { sfits = c.struct_told-1.given.0.1 } in
    let sy : SFits w32 a.clip.y = record { sfits = c.struct_told-1.given.1.0.1 } in
    let xs = told_cut a.clip.x sx c.overlap-xs.ensures in
    let ys = told_cut a.clip.y sy c.overlap-ys.ensures in
    let hs = sieve-hits a.canvas a.clip (takes r) (inked a.ink) r.p r.q r.sx.count r.sy.count sx sy _ _ _ _ xs ys in
    record {
      sized = c.requires.ready.sized;
      ordered = xs.ordered;
      wide = xs.held;
      high = ys.held;
      bounded = c.requires.bounded;
      columns = cut_lies r.p r.sx.count xs;
      rows = cut_lies r.q r.sy.count ys;
      room = land_fits a.canvas a.clip (inks (inked a.ink) (plots a.canvas r)) _ hs (work a.b.now a.t) c.requires.ready;
    }

pub returns : goal.returns
returns c =
    let a = c.args in
    let r = a.area in
    let sx : SFits w32 a.clip.x = record { sfits = c.struct_told-1.given.0.1 } in
    let sy : SFits w32 a.clip.y = record { sfits = c.struct_told-1.given.1.0.1 } in
    let xs = told_cut a.clip.x sx c.overlap-xs.ensures in
    let ys = told_cut a.clip.y sy c.overlap-ys.ensures in
    let hs = sieve-hits a.canvas a.clip (takes r) (inked a.ink) r.p r.q r.sx.count r.sy.count sx sy _ _ _ _ xs ys in
    land_did a.canvas a.clip (inks (inked a.ink) (plots a.canvas r)) _ hs (work a.b.now a.t) _ c.run_box.ensures
