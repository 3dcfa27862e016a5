-- Outside of the run no pixel of the row is taken, and in it those that the sweep has.
use Rattle.std.proofs.Common.{arith}
use Rattle.words.specs.Ink.{inked}
use Rattle.canvas.specs.Walk.{work}
use Rattle.ovals.proofs.runs.Rows.{starts, ordered, ends, row_fits, row-lands}
use Rattle.ovals.proofs.runs.Asked.{swept-part}
use Rattle.ovals.proofs.runs.run_row.Goals as goal

pub swept_row-requires : goal.swept_row-requires
swept_row-requires c =
    let a = c.args in
    let p = c.requires in
    let f = c.held-from.ensures in
    let g = c.held-to.ensures in
    let low = starts a.area a.r a.y a.x0 a.x1 _ _ p.ordered p.row p.lies f g in
    let high = ends a.area a.r a.y a.x0 a.x1 _ _ p.ordered p.row p.lies f g in
    let fits = row_fits a.area a.r a.y a.x0 a.x1 _ _ p.ordered p.row p.lies f g a.canvas (inked a.ink) (work a.b.now a.t) p.room in
    let w = swept-part a.area.pie _ _ _ _ _ p.swept low high in
    (p.sized, (ordered a.area a.r a.y a.x0 a.x1 _ _ p.ordered p.row p.lies f g, (omega (arith, high, p.wide), (p.high, (fits, w)))))

pub returns : goal.returns
returns c =
    let a = c.args in
    let p = c.requires in
    row-lands a.area a.r a.y a.x0 a.x1 _ _ p.ordered p.row p.lies c.held-from.ensures c.held-to.ensures a.canvas (inked a.ink) (work a.b.now a.t) _ c.swept_row.ensures
