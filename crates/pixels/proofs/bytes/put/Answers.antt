-- The word's low bytes go into the cells, the low one first.
use mathlib.Core.Path.{ap, ◌∙◌}
use lib.ListN.{take}
use Rattle.pixels.proofs.bytes.Places.{store_is}
use Rattle.pixels.proofs.bytes.put.Goals as goal

pub returns : goal.returns
returns g c =
    let a = c.args in
    store_is g.row.N a.o a.b.now a.w _ c.requires.fits c.requires.room (c.copy_from_slice.ensures.after ∙ ap (take g.row.N) c.to_le_bytes-bytes.ensures)
