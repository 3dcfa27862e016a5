-- The arguments still to come, from those so far, are all.
use mathlib.Core.Path.{◌≡◌}
use lib.ListN.{drop}
use Rattle.cases.specs.Line.{got}
use Rattle.cases.specs.Row.{args_of, args_from}
use Rattle.cases.specs.Place.{left_of, taken}
use Rattle.cases.proofs.row.read_args.Given as goal

abbrev pub invariant-loop-i : goal.invariant-loop-i
invariant-loop-i l = args_from l.i (drop l.i l.kinds) (got (taken l.args) (left_of l.left)) ≡ args_of l.kinds (left_of l.fn.left)
