-- The formats of a canvas, and how large their words are.
use Rattle.std.specs.Prelude.{ℕ, zero, suc}

-- "Formats: 0 `Rgb332Pixel` (1 byte), 1 `Rgb565Pixel` (2), 2 `Rgb8Pixel`, 3 `ArgbPixel`, 4 `AbgrPixel` (4 each)."; any other
-- number is none.
pub data Format : Type 0 where
  rgb332 : Format
  rgb565 : Format
  rgb8 : Format
  argb : Format
  abgr : Format
  none : Format

unfoldable pub format_of : ℕ → Format
format_of zero = rgb332
format_of (suc zero) = rgb565
format_of (suc (suc zero)) = rgb8
format_of (suc (suc (suc zero))) = argb
format_of (suc (suc (suc (suc zero)))) = abgr
format_of (suc (suc (suc (suc (suc n))))) = none

-- "(1 byte)", "(2)", "(4 each)"; what is no format has no bytes.
unfoldable pub bytes_per_pixel : Format → ℕ
bytes_per_pixel rgb332 = 1
bytes_per_pixel rgb565 = 2
bytes_per_pixel rgb8 = 4
bytes_per_pixel argb = 4
bytes_per_pixel abgr = 4
bytes_per_pixel none = 0

-- How many words so many bytes hold.
unfoldable pub range : Format → ℕ
range rgb332 = 256
range rgb565 = 65536
range rgb8 = 4294967296
range argb = 4294967296
range abgr = 4294967296
range none = 1
