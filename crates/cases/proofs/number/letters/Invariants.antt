-- What is left to read, after the value so far, is what was there to read.
use mathlib.Core.Path.{◌≡◌}
use lib.ListN.{drop}
use Rattle.cases.specs.Line.{words_of, next}
use Rattle.cases.specs.Number.{letters, name_of}
use Rattle.cases.proofs.number.letters.Given as goal

abbrev pub invariant-loop-i : goal.invariant-loop-i
invariant-loop-i l = name_of (words_of l.text) ≡ next 0 (letters l.value) (words_of (drop l.i l.text))
