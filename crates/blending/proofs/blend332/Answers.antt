-- `blend332` meets its contract: the channels laid are those of the word read.
use mathlib.Core.Path.{ap, ◌∙◌}
use native.Mathlib.Nat.{mod-eq_of_lt}
use Rattle.words.specs.Format.{rgb332, argb}
use Rattle.words.specs.Word.{from_color, to_color}
use Rattle.words.proofs.Reading.{read_channels}
use Rattle.blending.specs.Blend.{rule_of, blend_word}
use Rattle.blending.proofs.Opaque.{over-read}
use Rattle.blending.proofs.blend332.Goals as goal

pub returns : goal.returns
unfolding blend_word from_color to_color
returns c =
    let a = c.args in
    let h = read_channels rgb332 a.raw in
    ap (from_color rgb332)
    (c.lay-m.ensures.is
    ∙ over-read (rule_of a.rule) (to_color argb a.source) _ (to_color rgb332 a.raw) (mod-eq_of_lt h.r) (mod-eq_of_lt h.g) (mod-eq_of_lt h.b))
