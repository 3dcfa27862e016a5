-- A test of the room.
use Rattle.cases.proofs.Cases.{over, fits}
use Rattle.cases.proofs.case.fitting.Goals as goal

pub returns-then-room-n : goal.returns-then-room-n
returns-then-room-n c = over c.args.room c.args.n c.if-room-n.true

pub returns-else-room-n : goal.returns-else-room-n
returns-else-room-n c = fits c.args.room c.args.n c.if-room-n.false
