-- `sweep_of` meets its contract, by its cases. Assumes nothing.
use Rattle.std.proofs.Common.{refl}
use lib.Ieee.{of_bits}
use Rattle.curves.specs.Pies.{sweep_of}
use Rattle.curves.proofs.pies.sweep_of.Goals as goal

pub returns-then-abs : goal.returns-then-abs
unfolding sweep_of of_bits
returns-then-abs c = rw (← c.abs.ensures, c.if-abs.true) refl

pub returns-then-sweep : goal.returns-then-sweep
unfolding sweep_of of_bits
returns-then-sweep c = rw (← c.abs.ensures, c.if-abs.false, c.if-sweep.true) refl

pub returns-then-sweep-2 : goal.returns-then-sweep-2
unfolding sweep_of of_bits
returns-then-sweep-2 c = rw (← c.abs.ensures, c.if-abs.false, c.if-sweep.false, c.if-sweep-2.true) refl

pub returns-else-sweep-2 : goal.returns-else-sweep-2
unfolding sweep_of of_bits
returns-else-sweep-2 c = rw (← c.abs.ensures, c.if-abs.false, c.if-sweep.false, c.if-sweep-2.false) refl
