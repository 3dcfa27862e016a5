-- The test of the definition.
use Rattle.std.proofs.Common.{refl, arith}
use Rattle.canvas.proofs.lines.Ways.{small}
use Rattle.canvas.specs.Trail.{across}
use Rattle.canvas.proofs.lines.steps_x.Goals as goal

pub overflow_mul-result-2 : goal.overflow_mul-result-2
overflow_mul-result-2 c = record { fits = omega (arith, small c.args.w c.args.s c.requires) }

pub returns : goal.returns
unfolding across
returns c = refl
