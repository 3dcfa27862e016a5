-- `flank` meets its contract, by its cases: the side tells the size to the right. Assumes nothing.
use Rattle.std.proofs.Common.{refl, ◌∙◌}
use lib.Ieee.{of_bits}
use Rattle.curves.proofs.Judged.{size-left, size-right}
use Rattle.curves.proofs.pies.flank.Goals as goal

pub returns-then-right-far : goal.returns-then-right-far
unfolding of_bits
returns-then-right-far c = let a = c.args in rw (c.if-right.true, size-left a.right a.up _ c.abs-far.ensures c.if-right.true ∙ c.if-right-far.true) refl

pub returns-then-right : goal.returns-then-right
unfolding of_bits
returns-then-right c = let a = c.args in rw (c.if-right.true, size-left a.right a.up _ c.abs-far.ensures c.if-right.true ∙ c.if-right-far.false) refl

pub returns-then-right-far-2 : goal.returns-then-right-far-2
unfolding of_bits
returns-then-right-far-2 c = let a = c.args in rw (c.if-right.false, size-right a.right a.up _ c.abs-far.ensures c.if-right.false ∙ c.if-right-far-2.true) refl

pub returns : goal.returns
unfolding of_bits
returns c = let a = c.args in rw (c.if-right.false, size-right a.right a.up _ c.abs-far.ensures c.if-right.false ∙ c.if-right-far-2.false) refl
