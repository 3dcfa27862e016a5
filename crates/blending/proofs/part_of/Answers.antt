-- `part_of` meets its contract: a product of bytes is small.
use native.Mathlib.Omega.{arith}
use Rattle.blending.proofs.Laws.{product}
use Rattle.blending.proofs.part_of.Goals as goal

pub overflow_mul-result : goal.overflow_mul-result
overflow_mul-result c = record { fits = omega (arith, product c.args.c c.args.a (omega arith) (omega arith)) }

pub overflow_add-result : goal.overflow_add-result
overflow_add-result c = record { fits = omega (arith, product c.args.c c.args.a (omega arith) (omega arith)) }

pub overflow_cast-result-3 : goal.overflow_cast-result-3
overflow_cast-result-3 c = record { fits = omega (arith, product c.args.c c.args.a (omega arith) (omega arith)) }
