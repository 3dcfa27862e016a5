-- What is left is as before, what is behind is painted.
use mathlib.Core.Path.{refl, ap, ◌∙◌}
use Prim.Native.Nat.{ℕ}
use native.Mathlib.Omega.{arith}
use Rattle.lbmp.specs.Image.{at332}
use Rattle.lbmp.specs.Walk.{swept, painted}
use Rattle.lbmp.proofs.paint.Walks.{swept-turn}
use Rattle.lbmp.proofs.paint.Places.{is_332}
use Rattle.lbmp.proofs.paint.bytes332.Goals as goal

pub loop-i-init : goal.loop-i-init
unfolding swept
loop-i-init c = refl

pub loop-i-preserved : goal.loop-i-preserved
loop-i-preserved c =
    let a = c.args in
    let l = c.loop-i in
    swept-turn (painted (at332 a.p.now)) l.i _ a.out.now l.invariant
    (is_332 a.p.now a.table.now l.i _ _ _ _ c.requires.1.1 c.u8_at.ensures.0 c.read332.ensures c.from_color.ensures)

pub returns : goal.returns
returns c =
    let a = c.args in
    c.loop-i.invariant ∙ ap (λ (n : ℕ). swept (painted (at332 a.p.now)) 0 n a.out.now) (omega arith)
