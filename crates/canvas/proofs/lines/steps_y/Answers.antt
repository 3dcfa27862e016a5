-- The test of the definition.
use Rattle.std.proofs.Common.{refl, arith}
use Rattle.canvas.proofs.lines.Ways.{small}
use Rattle.canvas.specs.Trail.{along}
use Rattle.canvas.proofs.lines.steps_y.Goals as goal

pub overflow_mul-result : goal.overflow_mul-result
overflow_mul-result c = record { fits = omega (arith, small c.args.w c.args.s c.requires) }

pub returns : goal.returns
unfolding along
returns c = refl
