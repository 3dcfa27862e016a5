-- Word by word.
use mathlib.Core.Path.{◌≡◌, refl, ap, ◌∙◌}
use mir.Syntax.{w32}
use mir.ValLaws.{to_z-of_z}
use Rattle.tuyrashka.specs.Exported.{bits_of, words_of}
use Rattle.tuyrashka.proofs.records.give_clip.Goals as goal

pub returns : goal.returns
unfolding words_of
returns c =
    let a = c.args in
    let x : c.bits.result ≡ bits_of a.c.x =
    c.bits.ensures ∙ ap bits_of (to_z-of_z w32 a.c.x (record { sfits = c.struct_told-1.given.0.1 })) in
    let y : c.bits-2.result ≡ bits_of a.c.y =
    c.bits-2.ensures ∙ ap bits_of (to_z-of_z w32 a.c.y (record { sfits = c.struct_told-2-1.given.1.0.1 })) in
    rw (x, y) refl
