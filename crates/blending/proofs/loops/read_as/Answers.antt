-- `read_as` makes one word after another.
use mathlib.Core.Path.{refl, ◌∙◌}
use native.Mathlib.Omega.{arith}
use Rattle.blending.specs.Loops.{pairwise}
use Rattle.blending.proofs.Runs.{make_more, made_all, reading, read_all}
use Rattle.blending.proofs.loops.read_as.Goals as goal

pub loop-word-init : goal.loop-word-init
unfolding pairwise
loop-word-init g c = refl

pub loop-word-preserved : goal.loop-word-preserved
loop-word-preserved g c =
    let ws = c.args.words.now in
    let l = c.loop-word in
    make_more (reading g.L.Layout.form) ws ws l.words l.word-index _ (omega arith) (omega arith) l.invariant c.argb.ensures

pub returns : goal.returns
returns g c =
    let ws = c.args.words.now in
    let l = c.loop-word in
    l.invariant ∙ made_all (reading g.L.Layout.form) ws ws l.word-index (omega arith) ∙ read_all g.L.Layout.form ws
