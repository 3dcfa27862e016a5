-- Each step is the definition's.
use mir.Syntax.{w32}
use mir.ValLaws.{to_z-of_z}
use mathlib.Core.Path.{◌≡◌, sym, subst, ◌∙◌}
use lib.IntN.{ℤ}
use lib.Ieee.{Float}
use mir.Val.{SFits, to_z, of_z}
use Rattle.floats.specs.Whole.{round_as}
use Rattle.floats.proofs.Rounds.{round_fits}
use Rattle.segments.specs.Cut.{end}
use Rattle.segments.proofs.end_at.Goals as goal

rounded : (r : ℤ) (x : Float) → r ≡ round_as 31 x → to_z w32 (of_z w32 r) ≡ round_as 31 x
rounded r x e = to_z-of_z w32 r (subst (SFits w32) (sym e) (round_fits x)) ∙ e

pub returns : goal.returns
unfolding end
returns c =
    let e = rw (to_z-of_z w32 c.args.first c.ranges.first, to_z-of_z w32 c.args.second c.ranges.second) at c.round_i32_f64.ensures in
    rounded c.round_i32_f64.result _ e
