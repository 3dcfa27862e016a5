-- The bytes copied are the cells' digits, the low one first.
use mathlib.Core.Path.{ap, ◌∙◌}
use mathlib.Core.List.{List, [], ◌∷◌, ◌++◌}
use Prim.Native.Nat.{ℕ}
use lib.ListN.{drop}
use Rattle.std.specs.Int.{w32, from_le_bytes}
use Rattle.pixels.proofs.bytes.Places.{load_is, word_lt}
use Rattle.pixels.proofs.bytes.word.Goals as goal

pub returns : goal.returns
returns g c =
    let N = g.row.N in
    let a = c.args in
    let p = c.requires in
    let read = c.from_le_bytes.ensures ∙ ap (λ (bs : List ℕ). from_le_bytes w32 (bs ++ drop N (0 ∷ 0 ∷ 0 ∷ 0 ∷ []))) c.copy_from_slice.ensures.after ∙ load_is N a.o a.b.now p.fits p.room in
    (read, rw read (word_lt N a.o a.b.now (record { byte = λ i. (c.type_inv.b i).fits })))
