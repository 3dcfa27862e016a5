-- Of two numbers one is above 32,767 where their bits together are.
use Rattle.canvas.proofs.faults.Limits.{either_large}
use Rattle.canvas.proofs.faults.is_large.Goals as goal

pub returns : goal.returns
returns c = either_large c.args.a c.args.b
