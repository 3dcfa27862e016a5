-- The loop by the bytes of a word, in the window of canvas and clip.
use Rattle.std.proofs.Common.{sym}
use Rattle.words.specs.Ink.{inked}
use Rattle.pixels.proofs.bytes.Places.{one_byte, two_bytes, four_bytes}
use Rattle.canvas.proofs.plot.Dabs.{window_fields, window_of}
use Rattle.ovals.proofs.strokes.Stroking.{stroke_did, few_steps}
use Rattle.ovals.proofs.strokes.stroke_in.Goals as goal

pub stroke_steps-requires : goal.stroke_steps-requires
stroke_steps-requires c =
    let a = c.args in
    let p₀ = c.requires in
    let within = window_of a.canvas a.clip c.window-xs.result c.window-ys.result
    (record { sfits = c.struct_told-1.given.0.1 })
    (record { sfits = c.struct_told-2-1.given.1.0.1 })
    c.window-xs.ensures
    c.window-ys.ensures in
    let few = few_steps a.canvas _ p₀.0.wide p₀.0.high c.steps-steps.ensures.2 in
    (p₀.0, (window_fields within, (sym (one_byte _ c.in-0.is), (few, p₀.1))))

pub stroke_steps-requires-in-1 : goal.stroke_steps-requires-in-1
stroke_steps-requires-in-1 c =
    let a = c.args in
    let p₀ = c.requires in
    let within = window_of a.canvas a.clip c.window-xs.result c.window-ys.result
    (record { sfits = c.struct_told-1.given.0.1 })
    (record { sfits = c.struct_told-2-1.given.1.0.1 })
    c.window-xs.ensures
    c.window-ys.ensures in
    let few = few_steps a.canvas _ p₀.0.wide p₀.0.high c.steps-steps.ensures.2 in
    (p₀.0, (window_fields within, (sym (two_bytes _ c.in-1.is), (few, p₀.1))))

pub stroke_steps-requires-in_default : goal.stroke_steps-requires-in_default
stroke_steps-requires-in_default c =
    let a = c.args in
    let p₀ = c.requires in
    let within = window_of a.canvas a.clip c.window-xs.result c.window-ys.result
    (record { sfits = c.struct_told-1.given.0.1 })
    (record { sfits = c.struct_told-2-1.given.1.0.1 })
    c.window-xs.ensures
    c.window-ys.ensures in
    let few = few_steps a.canvas _ p₀.0.wide p₀.0.high c.steps-steps.ensures.2 in
    (p₀.0, (window_fields within, (sym (four_bytes _ p₀.0.known c.in_default.in_default-own.rest.0.1 c.in_default.in_default-own.rest.1), (few, p₀.1))))

pub returns-in-0 : goal.returns-in-0
returns-in-0 c =
    let a = c.args in
    stroke_did a.canvas a.clip c.window-xs.result c.window-ys.result
    (inked a.ink) a.o a.start a.sweep _
    (window_of a.canvas a.clip c.window-xs.result c.window-ys.result
    (record { sfits = c.struct_told-1.given.0.1 })
    (record { sfits = c.struct_told-2-1.given.1.0.1 })
    c.window-xs.ensures
    c.window-ys.ensures) c.steps-steps.ensures.0 c.stroke_steps.ensures

pub returns-in-1 : goal.returns-in-1
returns-in-1 c =
    let a = c.args in
    stroke_did a.canvas a.clip c.window-xs.result c.window-ys.result
    (inked a.ink) a.o a.start a.sweep _
    (window_of a.canvas a.clip c.window-xs.result c.window-ys.result
    (record { sfits = c.struct_told-1.given.0.1 })
    (record { sfits = c.struct_told-2-1.given.1.0.1 })
    c.window-xs.ensures
    c.window-ys.ensures) c.steps-steps.ensures.0 c.stroke_steps-in-1.ensures

pub returns-in_default : goal.returns-in_default
returns-in_default c =
    let a = c.args in
    stroke_did a.canvas a.clip c.window-xs.result c.window-ys.result
    (inked a.ink) a.o a.start a.sweep _
    (window_of a.canvas a.clip c.window-xs.result c.window-ys.result
    (record { sfits = c.struct_told-1.given.0.1 })
    (record { sfits = c.struct_told-2-1.given.1.0.1 })
    c.window-xs.ensures
    c.window-ys.ensures) c.steps-steps.ensures.0 c.stroke_steps-in_default.ensures
