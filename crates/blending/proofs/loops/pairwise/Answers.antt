-- `pairwise` makes one word after another.
use mathlib.Core.Path.{refl, ◌∙◌}
use native.Mathlib.Omega.{arith}
use Rattle.blending.specs.Loops.{pairwise}
use Rattle.blending.proofs.Runs.{make_more, made_all}
use Rattle.blending.proofs.loops.pairwise.Goals as goal

pub loop-i-init : goal.loop-i-init
unfolding pairwise
loop-i-init g c = λ f h. refl

pub loop-i-preserved : goal.loop-i-preserved
loop-i-preserved g c = λ f h.
    let l = c.loop-i in
    make_more f c.args.colors.now c.args.words.now l.words l.i _ (omega arith) (omega arith) (l.invariant f h) (h _ _ _ c.make.ensures)

pub returns : goal.returns
returns g c = λ f h. let l = c.loop-i in l.invariant f h ∙ made_all f c.args.colors.now c.args.words.now l.i (omega arith)
