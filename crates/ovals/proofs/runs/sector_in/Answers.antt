-- The sides are those of the definition.
use Rattle.canvas.proofs.boxes.Chains.{did_same, ready_same}
use Rattle.ovals.proofs.runs.Regions.{pie-same, pie_side_of}
use Rattle.ovals.proofs.runs.Asked.{asks_sides}
use Rattle.ovals.proofs.runs.sector_in.Goals as goal

pub run_in-requires : goal.run_in-requires
run_in-requires c =
    let a = c.args in
    let p = c.requires in
    let sx = c.pie_side-sx in
    let sy = c.pie_side-sy in
    record {
      ready = ready_same _ _ _ (pie-same a.canvas a.pie a.p a.q sx.result sy.result a.w a.h sx.ensures sy.ensures) p.0;
      bounded = record {
        left = p.1.0;
        top = p.1.1.0;
        columns = pie_side_of sx.result a.w sx.ensures p.1.1.1.0 p.1.1.1.1.1.0;
        rows = pie_side_of sy.result a.h sy.ensures p.1.1.1.1.0 p.1.1.1.1.1.1.0;
        asks = asks_sides a.pie a.p a.q a.w a.h sx.result sy.result sx.ensures sy.ensures p.1.1.1.1.1.1.1;
      };
    }

pub returns : goal.returns
returns c =
    let a = c.args in
    let pie-side = c.pie_side-sx in
    let pie-side2 = c.pie_side-sy in
    did_same _ _ _ (pie-same a.canvas a.pie a.p a.q pie-side.result pie-side2.result a.w a.h pie-side.ensures pie-side2.ensures)
    c.run_in.ensures
