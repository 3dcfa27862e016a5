-- Its canvas, with the switch off.
use mathlib.Core.Path.{refl}
use Rattle.tuyrashka.specs.Exported.{source_of}
use Rattle.tuyrashka.proofs.records.source_of.Goals as goal

pub returns : goal.returns
unfolding source_of
returns c = rw c.canvas_of.ensures refl
