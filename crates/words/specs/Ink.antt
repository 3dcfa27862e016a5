-- What a plot of a colour makes of the word stored.
use Rattle.std.specs.Prelude.{Bool, true, false, cond, ℕ, ◌+◌, ◌*◌, ◌%◌, eqb}
use Rattle.std.specs.Int.Bits.{bit_and, bit_xor}
use Rattle.words.specs.declared.Color.{Color}
use Rattle.words.specs.declared.Ink.{Ink}
use Rattle.words.specs.Format.{Format, rgb332, rgb565, rgb8, argb, abgr, none}
use Rattle.words.specs.Word.{from_color, color}

-- The formats that keep alpha.
unfoldable pub keeps_alpha : Format → Bool
keeps_alpha rgb332 = false
keeps_alpha rgb565 = false
keeps_alpha rgb8 = false
keeps_alpha argb = true
keeps_alpha abgr = true
keeps_alpha none = false

-- The colour bytes alone.
abbrev pub bare : Color → Color
bare c = color 0 c.r c.g c.b

-- "formats 0 to 2 XOR the stored word with the colour's word."
-- "Formats 3 and 4 XOR the colour bytes and set alpha to 255."
unfoldable pub xor_color : Format → ℕ → Color → ℕ
xor_color f w c = cond (keeps_alpha f) (4278190080 + bit_xor (w % 16777216) (from_color f (bare c))) (bit_xor w (from_color f c))

-- "A plot with XOR off stores the colour; with XOR on, alpha 0 does nothing, any other alpha XORs the plain colour."
unfoldable pub plot_word : Format → Bool → Color → ℕ → ℕ
plot_word f false c w = from_color f c
plot_word f true c w = cond (eqb c.a 0) w (xor_color f w c)

-- The same as two masks, so that a loop needs no choice a pixel: the bits kept of the word stored, and those then flipped.
unfoldable pub inked : Ink → ℕ → ℕ
inked i w = bit_xor (bit_and w i.keep) i.flip

abbrev pub ink : ℕ → ℕ → Ink
ink k f = record { keep = k; flip = f }

unfoldable pub xor_ink : Format → Color → Ink
xor_ink f c = cond (keeps_alpha f) (ink 16777215 (4278190080 + from_color f (bare c))) (ink 4294967295 (from_color f c))

unfoldable pub plot_ink : Format → Bool → Color → Ink
plot_ink f false c = ink 0 (from_color f c)
plot_ink f true c = cond (eqb c.a 0) (ink 4294967295 0) (xor_ink f c)

-- What two passes leave of a word where something stays of them: a top byte of 255 where it is alpha, and of 0 where it is not. Words of
-- fewer bytes have none, and are as they were.
unfoldable pub settled : Format → ℕ → ℕ
settled f w = cond (keeps_alpha f) 255 0 * 16777216 + w % 16777216
