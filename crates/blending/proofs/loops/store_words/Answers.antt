-- `store_words` takes the loops of its format.
use mathlib.Core.Path.{◌≡◌}
use native.Mathlib.Omega.{arith}
use Rattle.words.specs.Format.{format_of}
use Rattle.blending.proofs.loops.store_words.Goals as goal

pub returns-in-0 : goal.returns-in-0
unfolding format_of
returns-in-0 c = rw c.in-0.is c.store_as.ensures

pub returns-in-1 : goal.returns-in-1
unfolding format_of
returns-in-1 c = rw c.in-1.is c.store_as-in-1.ensures

pub returns-in-2 : goal.returns-in-2
unfolding format_of
returns-in-2 c = rw c.in-2.is c.store_as-in-2.ensures

pub returns-in-3 : goal.returns-in-3
unfolding format_of
returns-in-3 c = rw c.in-3.is c.store_as-in-3.ensures

pub returns-in_default : goal.returns-in_default
unfolding format_of
returns-in_default c = let e : c.args.format ≡ 4 = omega arith in rw e c.store_as-in_default.ensures
