-- The fill's pixels are inked with the format's inversion, on a canvas that differs in XOR alone.
use Rattle.std.proofs.Common.{false, refl}
use Rattle.canvas.proofs.plot.Draws.{xored, sized_xored, did_xored, ready_few}
use Rattle.canvas.proofs.boxes.Boxes.{fill-le, inks-few}
use Rattle.canvas.specs.Boxes.{fill}
use Rattle.canvas.proofs.areas.invert_in.Goals as goal

pub fill_in-requires : goal.fill_in-requires
fill_in-requires c =
    let v = c.args.canvas in
    let s = c.requires.0 in
    (ready_few (sized_xored false s) refl (inks-few _ _ (fill-le (xored v false) _ _ _ _ s.wide s.high)), c.requires.1)

pub returns : goal.returns
unfolding fill
returns c =
    let v = c.args.canvas in
    rw c.invert_ink-ink.ensures at (did_xored {v = v} false c.fill_in.ensures)
