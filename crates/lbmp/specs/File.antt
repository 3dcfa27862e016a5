-- The header of a file, and the parts that follow it.
use Rattle.std.specs.Prelude.{cond, List, Option, Some, None, ℕ, ◌+◌, ◌*◌, eqb, take, drop}
use Rattle.fields.specs.Fields.{u32_at}
use Rattle.lbmp.specs.declared.header.Header.{Header}
use Rattle.lbmp.specs.declared.header.Kind.{Kind}
use Rattle.lbmp.specs.declared.header.Kind.TheVariants.{Greys, Rgb332, Rgb565}
use Rattle.lbmp.specs.Plane.{plane_size}

-- "Six little-endian u32: descriptor (not looked at here), type, width, height, size, mask."
unfoldable pub header_of : List ℕ → Header
header_of f = record { kind = u32_at f 4; width = u32_at f 8; height = u32_at f 12; size = u32_at f 16; mask = u32_at f 20 }

-- The types 2, 8 and 16; any other is unknown.
unfoldable pub kind_of : ℕ → Option Kind
kind_of n = cond (eqb n 2) (Some Greys) (cond (eqb n 8) (Some Rgb332) (cond (eqb n 16) (Some Rgb565) None))

-- "Expected size: type 2 one plane .., type 8 one byte a pixel, type 16 two."
unfoldable pub expected_size : Option Kind → ℕ → ℕ → ℕ
expected_size (Some Greys) w h = plane_size w h
expected_size (Some Rgb332) w h = w * h
expected_size (Some Rgb565) w h = 2 * (w * h)
expected_size None w h = 0

-- The bytes of the pixels, by the header's size: of type 2 "two [planes] follow".
unfoldable pub image_size : Option Kind → ℕ → ℕ
image_size (Some Greys) s = 2 * s
image_size (Some Rgb332) s = s
image_size (Some Rgb565) s = s
image_size None s = s

-- A mask is a plane, where there is one.
unfoldable pub mask_size : Header → ℕ
mask_size h = cond (eqb h.mask 1) (plane_size h.width h.height) 0

abbrev pub pixel_size : Header → ℕ
pixel_size h = image_size (kind_of h.kind) h.size

-- "An inner step hands back the pixel bytes as a part of the file, and the mask likewise."
unfoldable pub pixel_bytes : List ℕ → List ℕ
pixel_bytes f = take (pixel_size (header_of f)) (drop 24 f)

unfoldable pub mask_bytes : List ℕ → List ℕ
mask_bytes f = take (mask_size (header_of f)) (drop (24 + pixel_size (header_of f)) f)
