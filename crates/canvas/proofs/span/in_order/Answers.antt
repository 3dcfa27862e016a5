-- The test of the definition.
use Rattle.std.proofs.Common.{refl, le-ltb, lt-ltb}
use Rattle.canvas.proofs.span.in_order.Goals as goal

pub returns-then-to-from : goal.returns-then-to-from
returns-then-to-from c = rw (lt-ltb _ _ c.if-to-from.true) refl

pub returns : goal.returns
returns c = rw (le-ltb _ _ c.if-to-from.false) refl
