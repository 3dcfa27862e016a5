-- What inner contracts cite: a walk over words, and what a sound file has.
use Rattle.std.specs.Prelude.{List, None, ◌≡◌, ℕ, zero, suc, ◌+◌, ◌*◌, ◌/◌, ◌%◌, ◌^◌, ◌≤◌, ◌<◌, get_or, set}
use Rattle.words.specs.declared.Color.{Color}
use Rattle.words.specs.Format.{argb}
use Rattle.words.specs.Word.{from_color}
use Rattle.lbmp.specs.declared.header.Header.{Header}
use Rattle.lbmp.specs.Plane.{plane_at}
use Rattle.lbmp.specs.File.{kind_of, expected_size, pixel_size, mask_size}

-- n words from o on, each made anew from its place and what stood there.
unfoldable pub swept : (ℕ → ℕ → ℕ) → ℕ → ℕ → List ℕ → List ℕ
swept f o zero l = l
swept f o (suc n) l = set (swept f o n l) (o + n) (f (o + n) (get_or (swept f o n l) (o + n) 0))

-- The word of a place's colour, whatever stood there.
unfoldable pub painted : (ℕ → Color) → ℕ → ℕ → ℕ
painted c i v = from_color argb (c i)

-- A word under a mask bit: its alpha goes.
unfoldable pub veiled : ℕ → ℕ → ℕ
veiled zero v = v
veiled (suc b) v = v % 16777216

unfoldable pub veil : List ℕ → ℕ → ℕ → ℕ → ℕ
veil m w i v = veiled (plane_at m w i) v

-- Whatever a call may give at the place of a pixel's byte, its bit and the word there is what f makes of the pixel and the word.
abbrev pub Makes : (ℕ → ℕ → ℕ → ℕ → Type 0) → ℕ → ℕ → (ℕ → ℕ → ℕ) → Type 0
Makes gives w h f = (x y v r : ℕ) → x < w → y < h → v < 2 ^ 32 → gives (y / 8 * w + x) (y % 8) v r → r ≡ f (y * w + x) v

-- What the fields of a header that is not refused are.
pub record Fair (h : Header) : Type 0 where
  pub known : kind_of h.kind ≡ None → ⊥
  pub few : h.width * h.height ≤ 4294967295
  pub wide : 0 < h.width
  pub high : 0 < h.height
  pub sized : h.size ≡ expected_size (kind_of h.kind) h.width h.height
  pub switch : h.mask ≤ 1

-- Such a header, with a file of so many bytes.
pub record Whole (h : Header) (n : ℕ) : Type 0 where
  pub fair : Fair h
  pub long : 24 + pixel_size h + mask_size h ≤ n
