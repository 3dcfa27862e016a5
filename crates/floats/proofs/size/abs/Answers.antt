-- `abs` meets its contract: it is the library's. Assumes nothing.
use Rattle.std.proofs.Common.{◌∙◌}
use Rattle.floats.proofs.Signs.{abs_is}
use Rattle.floats.proofs.size.abs.Goals as goal

pub returns : goal.returns
returns c = c.abs.ensures.value ∙ abs_is c.args.x
