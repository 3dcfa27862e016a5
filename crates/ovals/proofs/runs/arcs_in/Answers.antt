-- The sides are those of the definition.
use Rattle.canvas.proofs.boxes.Chains.{did_same, ready_same}
use Rattle.ovals.proofs.runs.Regions.{round_same, round_side_of}
use Rattle.ovals.proofs.runs.Asked.{asks_none}
use Rattle.ovals.proofs.runs.arcs_in.Goals as goal

pub run_in-requires : goal.run_in-requires
run_in-requires c =
    let a = c.args in
    let p = c.requires in
    let sx = c.round_side-sx in
    let sy = c.round_side-sy in
    let all = c.all_round-pie in
    record {
      ready = ready_same _ _ _ (round_same a.canvas all.result a.p a.q sx.result sy.result a.w a.h a.aw a.ah sx.ensures sy.ensures all.ensures) p.0;
      bounded = record {
        left = p.1.0;
        top = p.1.1.0;
        columns = round_side_of sx.result a.aw a.w sx.ensures p.1.1.1.0 p.1.1.1.1.1.0;
        rows = round_side_of sy.result a.ah a.h sy.ensures p.1.1.1.1.0 p.1.1.1.1.1.1;
        asks = asks_none all.result _ _ _ _ all.ensures;
      };
    }

pub returns : goal.returns
returns c =
    let a = c.args in
    let all_round = c.all_round-pie in
    let round_side = c.round_side-sx in
    let round-side2 = c.round_side-sy in
    did_same _ _ _ (round_same a.canvas all_round.result a.p a.q round_side.result round-side2.result a.w a.h a.aw a.ah round_side.ensures
    round-side2.ensures all_round.ensures) c.run_in.ensures
