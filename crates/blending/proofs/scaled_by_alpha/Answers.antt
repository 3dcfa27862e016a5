-- `scaled_by_alpha` meets its contract, by its tests.
use mathlib.Core.Path.{refl}
use Rattle.std.proofs.Common.{inl, inr, rules}
use borrow.Author.Tests.{ne_eqb}
use Rattle.blending.specs.Blend.{scaled}
use Rattle.blending.proofs.scaled_by_alpha.Goals as goal

pub returns-in-0 : goal.returns-in-0
unfolding scaled
returns-in-0 c = elim c.in-0.is [
  | inl e ↦ rw e refl
  | inr e ↦ rw e refl
]

pub returns-in_default : goal.returns-in_default
unfolding scaled
returns-in_default c = rw (ne_eqb c.args.color.a 0 (search rules), ne_eqb c.args.color.a 255 (search rules)) cc
