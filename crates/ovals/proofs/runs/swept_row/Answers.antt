-- A sweep of all has each pixel.
use Rattle.std.proofs.Common.{refl, ap}
use Rattle.words.specs.Ink.{inked}
use Rattle.curves.specs.Pies.{is_all, covers}
use Rattle.curves.proofs.Parts.{covers_all}
use Rattle.ovals.proofs.runs.Sifts.{all_room, all_lands}
use Rattle.ovals.proofs.runs.swept_row.Goals as goal

pub ink_row-requires : goal.ink_row-requires
ink_row-requires c = (c.requires.0, (c.requires.1.1.0, c.requires.1.1.1.0))

pub overflow_sub-landed : goal.overflow_sub-landed
overflow_sub-landed c = c.requires.1.0

pub overflow_add-landed : goal.overflow_add-landed
overflow_add-landed c =
    let a = c.args in
    record {
      fits = all_room (covers a.k) (inked a.ink) a.y a.x0 a.x1 (λ i. covers_all a.k i a.y (ap is_all c.in-All.is)) a.canvas
          a.b.now a.t c.requires.1.1.1.1.0;
    }

pub returns-in-All : goal.returns-in-All
returns-in-All c =
    let a = c.args in
    all_lands (covers a.k) (inked a.ink) a.y a.x0 a.x1 (λ i. covers_all a.k i a.y (ap is_all c.in-All.is)) a.canvas a.b.now
    a.t _ _ c.ink_row.ensures refl

pub sift_row-requires : goal.sift_row-requires
sift_row-requires c = c.requires

pub returns : goal.returns
returns c = c.sift_row.ensures
