-- Bit planes: eight rows a byte, as greys and masks have them.
use Rattle.std.specs.Prelude.{List, ℕ, zero, suc, ◌+◌, ◌*◌, ◌/◌, ◌%◌, ◌^◌, get_or}

-- "A plane is ceil(height/8)*width bytes."
unfoldable pub plane_size : ℕ → ℕ → ℕ
plane_size w h = (h + 7) / 8 * w

-- "Planes hold eight rows a byte, top row in bit 0." Past a plane's end there are zeros.
unfoldable pub plane_bit : List ℕ → ℕ → ℕ → ℕ → ℕ
plane_bit p w x y = get_or p (y / 8 * w + x) 0 / 2 ^ (y % 8) % 2

-- The same of the pixel i, the pixels counted in rows.
abbrev pub plane_at : List ℕ → ℕ → ℕ → ℕ
plane_at p w i = plane_bit p w (i % w) (i / w)

-- The sum of a rule's first n numbers.
unfoldable pub total : (ℕ → ℕ) → ℕ → ℕ
total f zero = 0
total f (suc n) = total f n + f n
