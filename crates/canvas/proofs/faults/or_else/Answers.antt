-- The first of two faults, by its cases.
use Rattle.std.proofs.Common.{◌≡◌, refl, ◌∙◌, Ok, Err}
use Rattle.std.specs.Result.{result_and}
use Rattle.canvas.specs.Faults.{Verdict, or_else}
use Rattle.canvas.proofs.faults.or_else.Goals as goal

and_is : (f d : Verdict) → result_and f d ≡ or_else f d
unfolding or_else
and_is (Ok u) d = refl
and_is (Err r) d = refl

pub returns : goal.returns
returns c = c.and.ensures ∙ and_is c.args.f c.args.d
