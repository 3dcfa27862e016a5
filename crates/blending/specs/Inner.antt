-- A float held to 0..255, what is mixed by an alpha and its two factors at hand, an ARGB word over three channels, and a colour scaled
-- at any alpha. Only inner contracts cite these.
use Rattle.std.specs.Prelude.{◌≡◌, cond, false, ℕ, ◌%◌, ◌<◌, pos, Float}
use Rattle.std.specs.Float.{fin, binary32}
use Rattle.std.specs.Float.Ieee.{lt, add, mul}
use Rattle.floats.specs.Size.{plus_zero}
use Rattle.floats.specs.Whole.{as_u8}
use Rattle.words.specs.Format.{argb}
use Rattle.words.specs.declared.Color.{Color}
use Rattle.words.specs.Word.{color, to_color}
use Rattle.blending.specs.Blend.{part, channel, Rule, rule1, rule2, mix, over}
use Rattle.blending.specs.declared.Mixed.{Mixed}

abbrev pub most : Float
most = fin false 255 (pos 0)

-- x, or 0 where x is not above it; x, or 255 where x is not below it.
unfoldable pub raised : Float → Float
raised x = cond (lt plus_zero x) x plus_zero

unfoldable pub lowered : Float → Float
lowered x = cond (lt x most) x most

unfoldable pub mixed : Rule → ℕ → Float → Float → ℕ → ℕ → ℕ
mixed rule1 a p q c bg = as_u8 (add binary32 (mul binary32 (channel c) p) (mul binary32 (channel bg) q))
mixed rule2 a p q c bg = mix rule2 a c bg

pub record Laid (k : Rule) (s x y z : ℕ) (m : Mixed) : Type 0 where
  pub is : color 255 m.r m.g m.b ≡ over k (to_color argb s) (color 255 (x % 256) (y % 256) (z % 256))
  pub red : m.r < 256
  pub green : m.g < 256
  pub blue : m.b < 256

-- Each channel by alpha, whatever it is: nothing at 0, the colour's own at 255. Alpha itself is left out.
unfoldable pub faint : Color → Color
faint c = color 0 (part c.a c.r) (part c.a c.g) (part c.a c.b)
