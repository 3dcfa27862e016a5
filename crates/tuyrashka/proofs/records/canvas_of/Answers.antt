-- Field by field.
use mathlib.Core.Path.{refl}
use Rattle.tuyrashka.specs.Exported.{canvas_of}
use Rattle.tuyrashka.proofs.records.canvas_of.Goals as goal

pub returns : goal.returns
unfolding canvas_of
returns c = refl
