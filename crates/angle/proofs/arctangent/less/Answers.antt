-- `less` meets its contract: the code is the definition. Assumes nothing.
use Rattle.angle.specs.Arctangent.{less_of}
use Rattle.angle.proofs.arctangent.less.Goals as goal

pub returns : goal.returns
unfolding less_of
returns c = rw (c.even.ensures, c.odd.ensures)
