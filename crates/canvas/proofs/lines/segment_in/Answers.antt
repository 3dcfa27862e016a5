-- The walk by the bytes of a word, in the window of canvas and clip.
use Rattle.std.proofs.Common.{sym}
use Rattle.pixels.proofs.bytes.Places.{one_byte, two_bytes, four_bytes}
use Rattle.canvas.proofs.plot.Dabs.{window_fields, window_of}
use Rattle.canvas.proofs.lines.Loops.{segment-goes, segment_did}
use Rattle.words.specs.Ink.{inked}
use Rattle.canvas.proofs.lines.segment_in.Goals as goal

pub walk-requires : goal.walk-requires
walk-requires c =
    let window = window_of c.args.canvas c.args.clip c.window-xs.result c.window-ys.result
    (record { sfits = c.struct_told-1.given.0.1 }) (record { sfits = c.struct_told-2-1.given.1.0.1 })
    c.window-xs.ensures c.window-ys.ensures in (
      c.requires.0,
      (
        window_fields window,
        (
          sym (one_byte _ c.in-0.is),
          (
            segment-goes c.args.s c.way_of-way.result c.pen_of-from.result c.way_of-way.ensures c.pen_of-from.ensures.0 c.pen_of-from.ensures.1,
            c.requires.1,
          ),
        ),
      ),
    )

pub walk-requires-in-1 : goal.walk-requires-in-1
walk-requires-in-1 c =
    let window = window_of c.args.canvas c.args.clip c.window-xs.result c.window-ys.result
    (record { sfits = c.struct_told-1.given.0.1 }) (record { sfits = c.struct_told-2-1.given.1.0.1 })
    c.window-xs.ensures c.window-ys.ensures in (
      c.requires.0,
      (
        window_fields window,
        (
          sym (two_bytes _ c.in-1.is),
          (
            segment-goes c.args.s c.way_of-way.result c.pen_of-from.result c.way_of-way.ensures c.pen_of-from.ensures.0 c.pen_of-from.ensures.1,
            c.requires.1,
          ),
        ),
      ),
    )

pub walk-requires-in_default : goal.walk-requires-in_default
walk-requires-in_default c =
    let window = window_of c.args.canvas c.args.clip c.window-xs.result c.window-ys.result
    (record { sfits = c.struct_told-1.given.0.1 }) (record { sfits = c.struct_told-2-1.given.1.0.1 })
    c.window-xs.ensures c.window-ys.ensures in (
      c.requires.0,
      (
        window_fields window,
        (
          sym (four_bytes _ c.requires.0.known c.in_default.in_default-own.rest.0.1 c.in_default.in_default-own.rest.1),
          (
            segment-goes c.args.s c.way_of-way.result c.pen_of-from.result c.way_of-way.ensures c.pen_of-from.ensures.0 c.pen_of-from.ensures.1,
            c.requires.1,
          ),
        ),
      ),
    )

pub returns-in-0 : goal.returns-in-0
returns-in-0 c =
    let window = window_of c.args.canvas c.args.clip c.window-xs.result c.window-ys.result
    (record { sfits = c.struct_told-1.given.0.1 }) (record { sfits = c.struct_told-2-1.given.1.0.1 })
    c.window-xs.ensures c.window-ys.ensures in
    segment_did c.args.s c.way_of-way.result c.pen_of-from.result c.way_of-way.ensures c.pen_of-from.ensures.0 c.pen_of-from.ensures.1
    (inked c.args.ink) window c.walk.ensures

pub returns-in-1 : goal.returns-in-1
returns-in-1 c =
    let window = window_of c.args.canvas c.args.clip c.window-xs.result c.window-ys.result
    (record { sfits = c.struct_told-1.given.0.1 }) (record { sfits = c.struct_told-2-1.given.1.0.1 })
    c.window-xs.ensures c.window-ys.ensures in
    segment_did c.args.s c.way_of-way.result c.pen_of-from.result c.way_of-way.ensures c.pen_of-from.ensures.0 c.pen_of-from.ensures.1
    (inked c.args.ink) window c.walk-in-1.ensures

pub returns-in_default : goal.returns-in_default
returns-in_default c =
    let window = window_of c.args.canvas c.args.clip c.window-xs.result c.window-ys.result
    (record { sfits = c.struct_told-1.given.0.1 }) (record { sfits = c.struct_told-2-1.given.1.0.1 })
    c.window-xs.ensures c.window-ys.ensures in
    segment_did c.args.s c.way_of-way.result c.pen_of-from.result c.way_of-way.ensures c.pen_of-from.ensures.0 c.pen_of-from.ensures.1
    (inked c.args.ink) window c.walk-in_default.ensures
