-- What inversion makes of the word stored.
use Rattle.std.specs.Prelude.{ℕ, ◌-◌}
use Rattle.words.specs.declared.Color.{Color}
use Rattle.words.specs.declared.Ink.{Ink}
use Rattle.words.specs.Format.{Format, rgb332, rgb565, rgb8, argb, abgr, none}
use Rattle.words.specs.Word.{color, from_color, to_color}
use Rattle.words.specs.Ink.{ink}

-- "Inversion complements r, g, b through the colour and keeps alpha."
abbrev pub complement : Color → Color
complement c = color c.a (255 - c.r) (255 - c.g) (255 - c.b)

unfoldable pub invert_word : Format → ℕ → ℕ
invert_word f w = from_color f (complement (to_color f w))

-- The same as two masks; Rgb8's top byte is cleared.
unfoldable pub invert_ink : Format → Ink
invert_ink rgb332 = ink 4294967295 255
invert_ink rgb565 = ink 4294967295 65535
invert_ink rgb8 = ink 16777215 16777215
invert_ink argb = ink 4294967295 16777215
invert_ink abgr = ink 4294967295 16777215
invert_ink none = ink 4294967295 0
