-- The words behind are made anew.
use mathlib.Core.Path.{◌≡◌, ap, ◌∙◌}
use mathlib.Core.List.{List}
use Prim.Native.Nat.{ℕ, ◌+◌, ◌*◌}
use native.Mathlib.Omega.{arith}
use native.Mathlib.Nat.{add-mul, one-mul}
use Rattle.std.proofs.Common.{rules}
use Rattle.lbmp.specs.Walk.{swept}
use Rattle.lbmp.proofs.paint.Walks.{swept-turn, rows_none}
use Rattle.lbmp.proofs.paint.sweep_rows.Goals as goal

far : (f : ℕ → ℕ → ℕ) (l : List ℕ) {m : List ℕ} (a b : ℕ) → m ≡ swept f 0 a l → a ≡ b → m ≡ swept f 0 b l
far f l a b e g = e ∙ ap (λ (n : ℕ). swept f 0 n l) g

pub loop-y-init : goal.loop-y-init
loop-y-init g c = λ f m. rows_none f c.args.h.width c.args.out.now

pub loop-x-init : goal.loop-x-init
loop-x-init g c = λ f m. far f c.args.out.now _ _ (c.loop-y.invariant f m) (omega arith)

pub loop-x-preserved : goal.loop-x-preserved
loop-x-preserved g c = λ f m.
    let w = c.args.h.width in
    let y = c.loop-y.y in
    let x = c.loop-x.x in
    far f c.args.out.now (y * w + x + 1) (y * w + (x + 1))
    (swept-turn f (y * w + x) c.word.result c.args.out.now (c.loop-x.invariant f m) (m x y _ c.word.result (omega arith) (omega arith) (search rules) c.word.ensures)) (omega arith)

pub loop-y-preserved : goal.loop-y-preserved
loop-y-preserved g c = λ f m.
    let w = c.args.h.width in
    let y = c.loop-y.y in
    let x = c.loop-x.x in
    let z : x ≡ w = omega arith in
    far f c.args.out.now (y * w + x) ((y + 1) * w) (c.loop-x.invariant f m) (omega (arith, add-mul y 1 w, one-mul w, z))
