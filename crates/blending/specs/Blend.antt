-- What drawing a colour makes of the word stored.
use Rattle.std.specs.Prelude.{Bool, true, false, cond, ◌||◌, ℕ, ◌+◌, ◌-◌, ◌*◌, ◌/◌, ◌%◌, eqb, pos, Float}
use Rattle.std.specs.Int.Bits.{bit_or}
use Rattle.std.specs.Float.{binary32}
use Rattle.std.specs.Float.Ieee.{of_int, add, sub, mul, div}
use Rattle.floats.specs.Whole.{as_u8}
use Rattle.words.specs.declared.Color.{Color}
use Rattle.words.specs.Format.{Format}
use Rattle.words.specs.Word.{color, from_color, to_color}
use Rattle.words.specs.Ink.{plot_word}

-- "XOR on: alpha 1..254 first makes each channel (c*a+127)/255."
abbrev pub part : ℕ → ℕ → ℕ
part a c = (c * a + 127) / 255

unfoldable pub scaled : Color → Color
scaled c = cond (eqb c.a 0 || eqb c.a 255) c (color c.a (part c.a c.r) (part c.a c.g) (part c.a c.b))

-- A whole number in f32.
abbrev pub channel : ℕ → Float
channel n = of_int binary32 (pos n)

-- "factor = a/255 in f32"
unfoldable pub factor : ℕ → Float
factor a = div binary32 (channel a) (channel 255)

-- "(1-factor)"
unfoldable pub others : ℕ → Float
others a = sub binary32 (channel 1) (factor a)

-- "The canvas carries a rule number", 1 or 2; a canvas with another is refused before it is blended on.
pub data Rule : Type 0 where
  rule1 : Rule
  rule2 : Rule

unfoldable pub rule_of : ℕ → Rule
rule_of n = cond (eqb n 2) rule2 rule1

-- "Rule 1 is 01's f32 blend": "each channel c*factor + bg*(1-factor) in f32, one rounding an operation, cut downward to 0..255".
-- "Rule 2 is (c*a + bg*(255-a) + 127)/255 in whole numbers".
unfoldable pub mix : Rule → ℕ → ℕ → ℕ → ℕ
mix rule1 a c bg = as_u8 (add binary32 (mul binary32 (channel c) (factor a)) (mul binary32 (channel bg) (others a)))
mix rule2 a c bg = (c * a + bg * (255 - a) + 127) / 255

-- "XOR off: alpha 255 stores; else" the channels mixed; "stored alpha is 255".
unfoldable pub over : Rule → Color → Color → Color
over k c b =
    cond (eqb c.a 255) c (color 255 (mix k c.a c.r b.r) (mix k c.a c.g b.g) (mix k c.a c.b b.b))

-- "XOR on": what is plotted is the colour scaled. No rule enters.
abbrev pub flip_word : Format → Color → ℕ → ℕ
flip_word f c w = plot_word f true (scaled c) w

-- "`draw` blends instead."
unfoldable pub blend_word : Format → Rule → Bool → Color → ℕ → ℕ
blend_word f k true c w = flip_word f c w
blend_word f k false c w = from_color f (over k c (to_color f w))

-- What a blend makes of the three lower bytes, with bits set before and after it. With alpha's bits set, or none, this is a blend of
-- ARGB and ABGR, or of Rgb8 (proofs/Tops).
unfoldable pub setting : ℕ → (ℕ → ℕ) → ℕ → ℕ
setting bits blend w = bit_or (blend (bit_or w bits) % 16777216) bits
