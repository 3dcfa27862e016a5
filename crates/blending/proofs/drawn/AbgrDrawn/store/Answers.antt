-- `Abgr::store` meets its contract, by arithmetic on the fields.
use native.Mathlib.Omega.{arith}
use Rattle.words.specs.Word.{from_color, to_color}
use Rattle.blending.proofs.drawn.AbgrDrawn.store.Goals as goal

pub returns : goal.returns
unfolding from_color to_color
returns c = omega arith
