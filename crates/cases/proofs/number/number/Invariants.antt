-- What is left to read, after the value so far, is what was there to read.
use mathlib.Core.Path.{◌≡◌}
use Prim.Native.Nat.{◌≤◌}
use lib.ListN.{drop}
use Rattle.cases.specs.Line.{words_of, next}
use Rattle.cases.specs.Number.{number_of}
use Rattle.cases.proofs.Numbers.{from_byte}
use Rattle.cases.proofs.number.number.Given as goal

abbrev pub invariant-loop-i : goal.invariant-loop-i
invariant-loop-i l = record {
  within : l.value ≤ l.most;
  none_yet : l.i ≡ 0 → l.value ≡ 0;
  still : number_of l.most (words_of l.text) ≡ next 0 (from_byte l.most l.i l.value) (words_of (drop l.i l.text));
}
