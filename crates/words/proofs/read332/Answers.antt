-- `words::read332` meets its contract, which says the same.
use Rattle.words.specs.Table.{through332}
use Rattle.words.proofs.read332.Goals as goal

pub returns : goal.returns
unfolding through332
returns c = c.color.ensures
