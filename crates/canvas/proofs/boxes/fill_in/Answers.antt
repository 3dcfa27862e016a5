-- What lands is the field of the two overlaps, and their area is the count.
use Rattle.std.proofs.Common.{arith}
use Rattle.words.specs.Ink.{inked}
use Rattle.canvas.specs.Plot.{inks}
use Rattle.canvas.specs.Boxes.{fill}
use Rattle.canvas.specs.Walk.{lowered}
use Rattle.pixels.specs.Rows.{flat}
use Rattle.pixels.proofs.bytes.Places.{area-le}
use Rattle.canvas.proofs.span.Spans.{told_cut}
use Rattle.canvas.proofs.boxes.Boxes.{fill-hits, span-le, field_fits, field_did}
use Rattle.canvas.proofs.boxes.fill_in.Goals as goal

pub overflow_sub-n : goal.overflow_sub-n
overflow_sub-n c = (told_cut c.args.clip.y (record { sfits = c.struct_told-1.given.1.0.1 }) c.overlap-ys.ensures).ordered

pub overflow_sub-n-2 : goal.overflow_sub-n-2
overflow_sub-n-2 c = (told_cut c.args.clip.x (record { sfits = c.struct_told-1.given.0.1 }) c.overlap-xs.ensures).ordered

pub overflow_mul-n : goal.overflow_mul-n
overflow_mul-n c =
    record {
      fits = omega (
        arith,
        area-le _ _ (span-le (told_cut c.args.clip.x (record { sfits = c.struct_told-1.given.0.1 })
            c.overlap-xs.ensures) c.requires.0.sized.wide) (span-le
            (told_cut c.args.clip.y (record { sfits = c.struct_told-1.given.1.0.1 }) c.overlap-ys.ensures) c.requires.0.sized.high),
      );
    }

pub ink_box-requires : goal.ink_box-requires
ink_box-requires c = (
  c.requires.0.sized,
  (
    (told_cut c.args.clip.x (record { sfits = c.struct_told-1.given.0.1 }) c.overlap-xs.ensures).held,
    (told_cut c.args.clip.y (record { sfits = c.struct_told-1.given.1.0.1 }) c.overlap-ys.ensures).held,
  ),
)

pub landed_more-requires : goal.landed_more-requires
landed_more-requires c =
    let a = c.args in
    field_fits a.canvas a.clip (inks (inked a.ink) (fill a.canvas (lowered a.p) (lowered a.q) a.w a.h))
    (flat (inked a.ink)) _ _ _ _ (fill-hits a.canvas a.clip (inked a.ink) a.p a.q a.w a.h
    (record { sfits = c.struct_told-1.given.0.1 }) (record { sfits = c.struct_told-1.given.1.0.1 }) _ _ _ _
    (told_cut a.clip.x (record { sfits = c.struct_told-1.given.0.1 }) c.overlap-xs.ensures)
    (told_cut a.clip.y (record { sfits = c.struct_told-1.given.1.0.1 }) c.overlap-ys.ensures)) a.b.now a.t c.requires.0

pub returns : goal.returns
returns c =
    let a = c.args in
    field_did a.canvas a.clip (inks (inked a.ink) (fill a.canvas (lowered a.p) (lowered a.q) a.w a.h))
    (flat (inked a.ink)) _ _ _ _ (fill-hits a.canvas a.clip (inked a.ink) a.p a.q a.w a.h
    (record { sfits = c.struct_told-1.given.0.1 }) (record { sfits = c.struct_told-1.given.1.0.1 }) _ _ _ _
    (told_cut a.clip.x (record { sfits = c.struct_told-1.given.0.1 }) c.overlap-xs.ensures)
    (told_cut a.clip.y (record { sfits = c.struct_told-1.given.1.0.1 }) c.overlap-ys.ensures)) a.b.now a.t _ _ c.ink_box.ensures
    c.landed_more.ensures
