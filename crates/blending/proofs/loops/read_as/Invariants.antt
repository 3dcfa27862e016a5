-- `read_as` makes one word after another.
use mathlib.Core.Path.{◌≡◌}
use lib.ListN.{take}
use Rattle.blending.specs.Loops.{pairwise}
use Rattle.blending.proofs.Runs.{reading}
use Rattle.blending.proofs.loops.read_as.Given as goal

abbrev pub invariant-loop-word : goal.invariant-loop-word
invariant-loop-word g l = l.words ≡ pairwise (reading g.L.Layout.form) (take l.word-index l.initial.words) l.initial.words
