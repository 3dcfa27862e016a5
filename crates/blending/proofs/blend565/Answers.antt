-- `blend565` meets its contract: the channels laid are those of the word read.
use mathlib.Core.Path.{◌≡◌, ap, ◌∙◌}
use Prim.Native.Nat.{ℕ, ◌%◌, ◌<◌}
use native.Mathlib.Omega.{arith}
use Rattle.words.specs.Format.{rgb565, argb}
use Rattle.words.specs.Word.{from_color, to_color}
use Rattle.words.proofs.Reading.{read_channels}
use Rattle.blending.specs.Blend.{rule_of, blend_word}
use Rattle.blending.proofs.Opaque.{over-read}
use Rattle.blending.proofs.blend565.Goals as goal

byte : {x v : ℕ} → x ≡ v → v < 256 → x % 256 ≡ v
byte e h = omega arith

pub returns : goal.returns
unfolding blend_word from_color to_color
returns c =
    let a = c.args in
    let h = read_channels rgb565 a.raw in
    ap (from_color rgb565)
    (c.lay-m.ensures.is
    ∙ over-read (rule_of a.rule) (to_color argb a.source) _ (to_color rgb565 a.raw)
    (byte c.level5_of-r.ensures h.r)
    (byte c.level6_of-g.ensures h.g)
    (byte c.level5_of-b.ensures h.b))
