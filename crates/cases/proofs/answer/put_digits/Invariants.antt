-- `put_digits` puts the last digit first: the digits still to come, put after those that stand, are all.
use mathlib.Core.Path.{◌≡◌}
use Rattle.cases.specs.Answer.{placed, spelled}
use Rattle.cases.proofs.answer.put_digits.Given as goal

abbrev pub invariant-loop-i : goal.invariant-loop-i
invariant-loop-i l = placed l.out l.at (spelled l.base l.i l.rest) ≡ placed l.initial.out l.at (spelled l.base l.k l.n)
