-- What is done leaves the rest of the rows as they were.
use Rattle.images.proofs.pictures.Overlays.{no-rows, rows_over}
use Rattle.images.proofs.pictures.draw_part.Goals as goal

pub loop-k-init : goal.loop-k-init
loop-k-init c = no-rows _ _ _ _ _

pub loop-k-preserved : goal.loop-k-preserved
loop-k-preserved c =
    let a = c.args in
    let l = c.loop-k in
    rows_over a.canvas a.source a.image.now a.b.now l.b _ a.part.x a.part.y a.part.sx a.part.sy a.part.w l.k l.invariant c.draw_row.ensures
