-- `flip_bare` meets its contract: no test of alpha is needed.
use mathlib.Core.Path.{ap, ◌∙◌}
use lib.Bits.{bit_xor}
use Rattle.words.specs.Format.{argb}
use Rattle.words.specs.Word.{to_color}
use Rattle.blending.proofs.Faint.{faint_flips}
use Rattle.blending.proofs.drawn.flip_bare.Goals as goal

pub returns : goal.returns
returns g c =
    let a = c.args in
    ap (bit_xor a.raw) c.faint_word.ensures ∙ faint_flips g.L.Layout.form (to_color argb a.source) a.raw c.requires
