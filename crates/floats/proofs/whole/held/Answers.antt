-- `held` meets its contract: its cases are those of the two tests. Assumes nothing.
use Rattle.std.proofs.Common.{Bool, false, cond, ◌&&◌, pos, sym, ap, ◌∙◌}
use lib.Ieee.{fin, lt, neg, of_bits}
use Rattle.floats.specs.Size.{plus_zero}
use Rattle.floats.proofs.whole.held.Goals as goal

pub returns-then-x-2 : goal.returns-then-x-2
unfolding of_bits neg
returns-then-x-2 c =
    let x = c.args.x in
    sym (ap (λ (b : Bool). cond (b && lt x (fin false 1 (pos 31))) x plus_zero) c.if-x.true ∙ ap (λ (b : Bool). cond b x plus_zero) c.if-x-2.true)

pub returns-else-x-2 : goal.returns-else-x-2
unfolding of_bits neg
returns-else-x-2 c =
    let x = c.args.x in
    sym (ap (λ (b : Bool). cond (b && lt x (fin false 1 (pos 31))) x plus_zero) c.if-x.true ∙ ap (λ (b : Bool). cond b x plus_zero) c.if-x-2.false)

pub returns-else-x : goal.returns-else-x
unfolding of_bits neg
returns-else-x c =
    let x = c.args.x in
    sym (ap (λ (b : Bool). cond (b && lt x (fin false 1 (pos 31))) x plus_zero) c.if-x.false)
