-- One stroke after the other.
use Rattle.std.proofs.Common.{ap, ◌∙◌, arith}
use lib.Ieee.{of_bits}
use Rattle.words.specs.Ink.{inked}
use Rattle.floats.specs.Degrees.{radians_of}
use Rattle.ovals.specs.Strokes.{stroke}
use Rattle.canvas.proofs.boxes.Chains.{did_le, did_sized}
use Rattle.ovals.proofs.strokes.Quarters.{stroke-le, ninety, half_did}
use Rattle.ovals.proofs.strokes.half_in.Goals as goal

pub stroke_in-requires : goal.stroke_in-requires
stroke_in-requires c =
    let a = c.args in
    let p₀ = c.requires in (
      did_sized c.stroke_in-n.ensures p₀.0,
      omega (
        arith,
        p₀.1,
        did_le (inked a.ink)
            (stroke a.canvas c.corner-o.result c.radians-from.result
            c.radians-quarter.result) c.stroke_in-n.ensures,
        stroke-le a.canvas c.corner-o.result c.radians-from.result c.radians-quarter.result p₀.0.wide p₀.0.high,
      ),
    )

pub returns : goal.returns
unfolding of_bits
returns c =
    let a = c.args in
    half_did (inked a.ink) a.c a.low _ _ c.corner-o.result
    c.corner-u.result
    c.radians-from.result
    c.radians-then.result
    c.radians-quarter.result
    c.corner-o.ensures c.corner-u.ensures
    c.radians-from.ensures
    c.radians-then.ensures
    (c.radians-quarter.ensures ∙ ap radians_of ninety)
    c.stroke_in-n.ensures c.stroke_in.ensures
