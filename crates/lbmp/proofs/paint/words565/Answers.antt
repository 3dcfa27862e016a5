-- What is left is as before, what is behind is painted.
use mathlib.Core.Path.{refl, ap, ◌∙◌}
use Prim.Native.Nat.{ℕ}
use native.Mathlib.Omega.{arith}
use Rattle.lbmp.specs.Image.{at565}
use Rattle.lbmp.specs.Walk.{swept, painted}
use Rattle.lbmp.proofs.paint.Walks.{swept-turn}
use Rattle.lbmp.proofs.paint.Places.{is_565}
use Rattle.lbmp.proofs.paint.words565.Goals as goal

pub loop-i-init : goal.loop-i-init
unfolding swept
loop-i-init c = refl

pub loop-i-preserved : goal.loop-i-preserved
loop-i-preserved c =
    let a = c.args in
    let p = c.requires.1.1 in
    let l = c.loop-i in
    swept-turn (painted (at565 a.p.now)) l.i _ a.out.now l.invariant
    (is_565 a.p.now a.levels5.now a.levels6.now l.i _ _ _ _ p.0 p.1 c.u16_at.ensures.0 c.read565.ensures c.from_color.ensures)

pub returns : goal.returns
returns c =
    let a = c.args in
    c.loop-i.invariant ∙ ap (λ (n : ℕ). swept (painted (at565 a.p.now)) 0 n a.out.now) (omega arith)
