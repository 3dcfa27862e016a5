-- One forward, or one back.
use Rattle.std.proofs.Common.{refl}
use Rattle.canvas.specs.Trail.{toward}
use Rattle.canvas.proofs.lines.moved.Goals as goal

pub returns-then-forward : goal.returns-then-forward
unfolding toward
returns-then-forward c = rw c.if-forward.true refl

pub returns-else-forward : goal.returns-else-forward
unfolding toward
returns-else-forward c = rw c.if-forward.false refl
