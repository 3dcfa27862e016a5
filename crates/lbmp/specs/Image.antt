-- The pixels of a sound file: their colours, ARGB words, and how many are transparent.
use Rattle.std.specs.Prelude.{List, Option, Some, None, ℕ, zero, suc, ◌+◌, ◌-◌, ◌*◌, take, drop}
use Rattle.fields.specs.Fields.{u8_at, u16_at}
use Rattle.words.specs.declared.Color.{Color}
use Rattle.words.specs.Format.{rgb332, rgb565, argb}
use Rattle.words.specs.Word.{color, from_color, to_color}
use Rattle.words.specs.Ink.{bare}
use Rattle.words.specs.Table.{run}
use Rattle.lbmp.specs.declared.header.Kind.{Kind}
use Rattle.lbmp.specs.declared.header.Kind.TheVariants.{Greys, Rgb332, Rgb565}
use Rattle.lbmp.specs.Plane.{plane_at, plane_size, total}
use Rattle.lbmp.specs.File.{header_of, kind_of, pixel_bytes, mask_bytes}

-- "Grey is 255 - 85*(2*high+low)."
unfoldable pub grey : ℕ → ℕ
grey v = 255 - 85 * v

unfoldable pub grey_color : ℕ → ℕ → Color
grey_color high low = color 255 (grey (2 * high + low)) (grey (2 * high + low)) (grey (2 * high + low))

abbrev pub grey_at : List ℕ → List ℕ → ℕ → ℕ → Color
grey_at high low w i = grey_color (plane_at high w i) (plane_at low w i)

abbrev pub at332 : List ℕ → ℕ → Color
at332 p i = to_color rgb332 (u8_at p i)

abbrev pub at565 : List ℕ → ℕ → Color
at565 p i = to_color rgb565 (u16_at p (2 * i))

-- The colour of pixel i, the pixels counted in rows of w: type 2 has two planes of n bytes, "high first"; types 8 and 16 have 01's words.
unfoldable pub color_at : Option Kind → List ℕ → ℕ → ℕ → ℕ → Color
color_at (Some Greys) p n w i = grey_at (take n p) (drop n p) w i
color_at (Some Rgb332) p n w i = at332 p i
color_at (Some Rgb565) p n w i = at565 p i
color_at None p n w i = color 0 0 0 0

-- "A set mask bit makes alpha 0 and keeps the colour."
unfoldable pub masked : ℕ → Color → Color
masked zero c = c
masked (suc b) c = bare c

-- The ARGB word of a colour under a mask bit.
unfoldable pub word_under : ℕ → Color → ℕ
word_under b c = from_color argb (masked b c)

-- The word of pixel i of a file; a file with no mask has no mask bit set.
unfoldable pub word_at : List ℕ → ℕ → ℕ
word_at f i =
    word_under (plane_at (mask_bytes f) (header_of f).width i)
    (color_at (kind_of (header_of f).kind) (pixel_bytes f) (plane_size (header_of f).width (header_of f).height) (header_of f).width i)

abbrev pub pixels : List ℕ → ℕ
pixels f = (header_of f).width * (header_of f).height

-- All the words, in rows.
unfoldable pub image : List ℕ → List ℕ
image f = run (word_at f) 0 (pixels f)

-- "a transparent count": of the pixels whose mask bit is set.
unfoldable pub clear_in : List ℕ → ℕ → ℕ → ℕ
clear_in m w n = total (plane_at m w) n

unfoldable pub clear_of : List ℕ → ℕ
clear_of f = clear_in (mask_bytes f) (header_of f).width (pixels f)
