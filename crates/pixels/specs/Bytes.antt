-- How a canvas's bytes hold the words of its pixels.
-- All else speaks of a canvas's extent and of the word at a pixel, and knows nothing of offsets.
use Rattle.std.specs.Prelude.{◌≡◌, List, [], ◌∷◌, ℕ, zero, suc, ◌+◌, ◌*◌, ◌/◌, ◌%◌, ◌<◌, ◌≤◌, max, length, get_or, set}
use Rattle.words.specs.Format.{Format, format_of, bytes_per_pixel}
use Rattle.pixels.specs.declared.Canvas.{Canvas}

-- A cell holds one digit of a word: today always a whole byte, at its place. Later formats have other cells.
pub data Cell : Type 0 where
  byte : ℕ → Cell

abbrev pub place : Cell → ℕ
place (byte o) = o

-- How many values a cell has.
abbrev pub radix : Cell → ℕ
radix (byte o) = 256

unfoldable pub get : List ℕ → Cell → ℕ
get b (byte o) = get_or b o 0

unfoldable pub put : List ℕ → Cell → ℕ → List ℕ
put b (byte o) d = set b o d

-- The word in some cells, and the bytes with another word there: the lowest digit first.
unfoldable pub load : List Cell → List ℕ → ℕ
load [] b = 0
load (c ∷ cs) b = get b c + radix c * load cs b

unfoldable pub store : List Cell → List ℕ → ℕ → List ℕ
store [] b w = b
store (c ∷ cs) b w = store cs (put b c (w % radix c)) (w / radix c)

-- The s bytes from o on.
unfoldable pub cells : ℕ → ℕ → List Cell
cells zero o = []
cells (suc s) o = byte o ∷ cells s (suc o)

abbrev pub form : Canvas → Format
form v = format_of v.format

abbrev pub size : Canvas → ℕ
size v = bytes_per_pixel (form v)

-- "a row length in pixels, at least the width": a shorter one is refused, and counts as the width here.
unfoldable pub pitch : Canvas → ℕ
pitch v = max v.width v.row

-- "lent bytes: width times height pixels in rows, each little-endian", a pitch from row to row.
unfoldable pub pixel : Canvas → ℕ → ℕ → List Cell
pixel v x y = cells (size v) ((y * pitch v + x) * size v)

-- "row length times height", times the bytes of a pixel.
unfoldable pub extent : Canvas → ℕ
extent v = v.height * pitch v * size v

-- The same with a row's bytes in a word of 32 bits, in which those of every row that is not refused fit.
unfoldable pub folded : Canvas → ℕ
folded v = size v * v.row % 4294967296 * v.height

-- The word of the pixel at x and y, and the bytes with another.
unfoldable pub load_at : Canvas → List ℕ → ℕ → ℕ → ℕ
load_at v b x y = load (pixel v x y) b

unfoldable pub store_at : Canvas → List ℕ → ℕ → ℕ → ℕ → List ℕ
store_at v b x y w = store (pixel v x y) b w

-- The column that a byte stands in; "Bytes in the tails" are those of the columns from the width on.
unfoldable pub column : Canvas → ℕ → ℕ
column v o = o / size v % pitch v

abbrev pub Tail : Canvas → ℕ → Type 0
Tail v o = v.width ≤ column v o

-- A pixel of the canvas.
pub record On (v : Canvas) (x y : ℕ) : Type 0 where
  pub across : x < v.width
  pub down : y < v.height

-- Sides and a row length that are not refused.
pub record Bounded (v : Canvas) : Type 0 where
  pub high : v.height ≤ 32767
  pub rows : v.width ≤ v.row
  pub tails : v.row ≤ 32767

-- What may be counted on of a canvas that is not refused.
pub record Sized (v : Canvas) (b : List ℕ) : Type 0 where
  pub known : v.format ≤ 4
  pub wide : v.width ≤ 32767
  pub high : v.height ≤ 32767
  pub rows : v.width ≤ v.row
  pub tails : v.row ≤ 32767
  pub long : length b ≡ extent v
