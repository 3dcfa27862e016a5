-- `put_text` copies a text over as many bytes.
use mathlib.Core.Path.{◌≡◌, refl, sym}
use mathlib.Core.List.{append_assoc}
use Prim.Native.Nat.{◌+◌, ◌-◌}
use native.Mathlib.Omega.{arith}
use lib.ListN.{length}
use lib.Seq.{drop-drop}
use Rattle.cases.proofs.Texts.{placed-is}
use Rattle.cases.proofs.answer.put_text.Goals as goal

pub returns : goal.returns
returns c =
    let a = c.args in
    let n : a.at + length a.text.now - a.at ≡ length a.text.now = omega arith in
    let put = placed-is a.out.now a.at a.text.now c.requires in
    record { same = rw (n, c.copy_from_slice.ensures.after, drop-drop) (sym (rw append_assoc at put)); to = refl }
