-- Field by field; its corner is read by `signed`.
use mathlib.Core.Path.{refl}
use mir.Syntax.{w32}
use mir.ValLaws.{to_z-of_z}
use Rattle.tuyrashka.specs.Exported.{clip_of}
use Rattle.tuyrashka.proofs.records.clip_of.Goals as goal

pub returns : goal.returns
unfolding clip_of
returns c =
    let s = c.signed in
    let t = c.signed-2 in
    rw (to_z-of_z w32 s.result (record { sfits = s.type_inv }), to_z-of_z w32 t.result (record { sfits = t.type_inv }), s.ensures, t.ensures) refl
