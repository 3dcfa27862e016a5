-- `places` takes digits off while there are two or more left.
use mathlib.Core.Path.{◌≡◌}
use Prim.Native.Nat.{◌-◌, ◌+◌}
use Rattle.cases.specs.Answer.{places}
use Rattle.cases.proofs.answer.places.Given as goal

abbrev pub invariant-loop-k : goal.invariant-loop-k
invariant-loop-k l = places l.base 19 l.n + 1 ≡ l.k + places l.base (20 - l.k) l.rest
