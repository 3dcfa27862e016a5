-- Little-endian numbers at a place in a file. Past the file's end there are zeros.
use Rattle.std.specs.Prelude.{List, ℕ, ◌+◌, ◌*◌, get_or}

abbrev pub u8_at : List ℕ → ℕ → ℕ
u8_at f o = get_or f o 0

unfoldable pub u16_at : List ℕ → ℕ → ℕ
u16_at f o = u8_at f o + 256 * u8_at f (o + 1)

unfoldable pub u32_at : List ℕ → ℕ → ℕ
u32_at f o = u16_at f o + 65536 * u16_at f (o + 2)
