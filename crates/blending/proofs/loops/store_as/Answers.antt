-- `store_as` makes each word the word of the colour beside it.
use Rattle.std.proofs.Common.{rules}
use Rattle.blending.specs.Loops.{store, stored}
use Rattle.blending.proofs.loops.store_as.Goals as goal

pub returns : goal.returns
unfolding stored
returns g c = c.pairwise.ensures (store g.L.Layout.form) (λ c w r p. search rules)
