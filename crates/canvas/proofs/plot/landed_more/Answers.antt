-- The sum fits, as the caller says.
use Rattle.std.proofs.Common.{refl}
use Rattle.canvas.proofs.plot.landed_more.Goals as goal

pub overflow_add-landed : goal.overflow_add-landed
overflow_add-landed c = record { fits = c.requires }

pub returns : goal.returns
returns c = refl
