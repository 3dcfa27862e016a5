-- `blend_rgb` meets its contract: the channels laid are those of the word read, under any highest byte.
use mathlib.Core.Path.{ap, ◌∙◌}
use Prim.Native.Nat.{ℕ, ◌%◌}
use lib.Bits.{bit_or}
use Rattle.words.specs.declared.Color.{Color}
use Rattle.words.specs.Format.{argb}
use Rattle.words.specs.Word.{from_color, to_color}
use Rattle.blending.specs.Blend.{over, blend_word, setting}
use Rattle.blending.proofs.Tops.{under}
use Rattle.blending.proofs.blend_rgb.Goals as goal

pub returns : goal.returns
unfolding setting blend_word over from_color to_color
returns c =
    let m = c.lay-m in
    ap (λ (v : ℕ). bit_or v c.args.set)
    (under 255 m.result.r m.result.g m.result.b m.ensures.red m.ensures.green m.ensures.blue ∙ ap (λ (v : Color). from_color argb v % 16777216) m.ensures.is)
