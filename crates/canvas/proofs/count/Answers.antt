-- By the answer's two cases.
use Rattle.std.proofs.Common.{refl}
use Rattle.canvas.specs.Call.{count_of}
use Rattle.canvas.proofs.count.Goals as goal

pub returns-in-Ok : goal.returns-in-Ok
unfolding count_of
returns-in-Ok c = rw c.in-Ok.is refl

pub returns-in-Err : goal.returns-in-Err
unfolding count_of
returns-in-Err c = rw c.in-Err.is refl
