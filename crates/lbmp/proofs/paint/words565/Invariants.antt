-- What is left is as before, what is behind is painted.
use mathlib.Core.Path.{◌≡◌}
use Rattle.lbmp.specs.Image.{at565}
use Rattle.lbmp.specs.Walk.{swept, painted}
use Rattle.lbmp.proofs.paint.words565.Given as goal

abbrev pub invariant-loop-i : goal.invariant-loop-i
invariant-loop-i l = l.out ≡ swept (painted (at565 l.p)) 0 l.i l.initial.out
