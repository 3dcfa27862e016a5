-- By the answer's two cases.
use mathlib.Core.Path.{refl}
use Rattle.canvas.specs.Call.{status_of, count_of}
use Rattle.tuyrashka.proofs.records.give_drawn.Goals as goal

pub returns-in-Err : goal.returns-in-Err
unfolding status_of count_of
returns-in-Err c = rw (c.in-Err.is, c.number.ensures) (refl, refl)

pub returns-in-Ok : goal.returns-in-Ok
unfolding status_of count_of
returns-in-Ok c = rw c.in-Ok.is (refl, refl)
