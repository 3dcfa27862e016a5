-- `solid_ink` meets its contract: a word of colour bytes alone leaves the highest byte free.
use mathlib.Core.Path.{ap}
use Prim.Native.Nat.{ℕ, ◌+◌}
use native.Mathlib.Omega.{arith}
use Rattle.words.specs.Ink.{ink}
use Rattle.words.proofs.Laws.{bare_fits}
use Rattle.words.proofs.solid_ink.Goals as goal

pub overflow_add-result : goal.overflow_add-result
overflow_add-result g c =
    let x = c.args.color in
    let h = bare_fits g.L.Layout.form x (record { a = omega arith; r = omega arith; g = omega arith; b = omega arith }) in
    record { fits = omega (arith, h, c.word-word.ensures) }

pub returns : goal.returns
returns g c = ap (λ (x : ℕ). ink 16777215 (4278190080 + x)) c.word-word.ensures
