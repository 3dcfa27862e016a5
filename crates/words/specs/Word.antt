-- The word that a colour is stored as, and the colour that a word is read as.
use Rattle.std.specs.Prelude.{ℕ, ◌+◌, ◌*◌, ◌/◌, ◌%◌}
use Rattle.words.specs.declared.Color.{Color}
use Rattle.words.specs.Format.{Format, rgb332, rgb565, rgb8, argb, abgr, none}

-- "332: red (r*7+127)/255 in bits 7..5, green likewise in 4..2, blue (b*3+127)/255 in 1..0, division downward."
-- "565: r>>3, g>>2, b>>3." "Rgb8 stores 00RRGGBB". "ARGB and ABGR keep alpha."
unfoldable pub from_color : Format → Color → ℕ
from_color rgb332 c = (c.r * 7 + 127) / 255 * 32 + (c.g * 7 + 127) / 255 * 4 + (c.b * 3 + 127) / 255
from_color rgb565 c = c.r / 8 * 2048 + c.g / 4 * 32 + c.b / 8
from_color rgb8 c = c.r * 65536 + c.g * 256 + c.b
from_color argb c = c.a * 16777216 + c.r * 65536 + c.g * 256 + c.b
from_color abgr c = c.a * 16777216 + c.b * 65536 + c.g * 256 + c.r
from_color none c = 0

abbrev pub color : ℕ → ℕ → ℕ → ℕ → Color
color a r g b = record { a = a; r = r; g = g; b = b }

-- "(v*255+15)/31 for red and blue, (v*255+31)/63 for green"
unfoldable pub level5 : ℕ → ℕ
level5 v = (v * 255 + 15) / 31

unfoldable pub level6 : ℕ → ℕ
level6 v = (v * 255 + 31) / 63

-- 332 "Back: 36, 36, 85 times the field." 565 "Back:" the levels. Rgb8's "top byte is ignored in reading".
-- "Other formats read alpha as 255."
unfoldable pub to_color : Format → ℕ → Color
to_color rgb332 w = color 255 (w / 32 % 8 * 36) (w / 4 % 8 * 36) (w % 4 * 85)
to_color rgb565 w = color 255 (level5 (w / 2048 % 32)) (level6 (w / 32 % 64)) (level5 (w % 32))
to_color rgb8 w = color 255 (w / 65536 % 256) (w / 256 % 256) (w % 256)
to_color argb w = color (w / 16777216 % 256) (w / 65536 % 256) (w / 256 % 256) (w % 256)
to_color abgr w = color (w / 16777216 % 256) (w % 256) (w / 256 % 256) (w / 65536 % 256)
to_color none w = color 0 0 0 0

-- What reading sees of a word: Rgb8's "top byte is ignored in reading".
unfoldable pub seen : Format → ℕ → ℕ
seen rgb332 w = w
seen rgb565 w = w
seen rgb8 w = w % 16777216
seen argb w = w
seen abgr w = w
seen none w = w
