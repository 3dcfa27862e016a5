-- `Rgb8::over` meets its contract: the bits set are none.
use mathlib.Core.Path.{◌∙◌}
use Rattle.words.specs.Format.{argb}
use Rattle.words.specs.Word.{to_color}
use Rattle.words.proofs.Reading.{read_channels}
use Rattle.blending.specs.Blend.{rule_of}
use Rattle.blending.proofs.Tops.{set-rgb8}
use Rattle.blending.proofs.drawn.Rgb8Drawn.over.Goals as goal

pub returns : goal.returns
returns c =
    let a = c.args in
    c.blend_rgb.ensures ∙ set-rgb8 (rule_of a.rule) (to_color argb a.source) a.raw (read_channels argb a.source)
