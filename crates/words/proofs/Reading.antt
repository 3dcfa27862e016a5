-- Storing what was read gives the word again, and reading what was stored gives the colour where all its bits are kept: by arithmetic on the fields.
use mathlib.Core.Path.{◌≡◌}
use mathlib.Core.Bool.{true}
use Prim.Native.Nat.{ℕ, ◌+◌, ◌*◌, ◌/◌, ◌%◌, ◌≤◌, ◌<◌}
use native.Mathlib.Omega.{arith}
use Rattle.words.specs.declared.Color.{Color}
use Rattle.words.specs.Format.{Format, rgb332, rgb565, rgb8, argb, abgr, none, range}
use Rattle.words.specs.Word.{from_color, to_color, color, level5, level6, seen}
use Rattle.words.specs.Ink.{keeps_alpha}
use Rattle.words.proofs.Laws.{Channels}

field7 : (v : ℕ) → v < 8 → (v * 36 * 7 + 127) / 255 ≡ v
field7 v l = omega arith

field3 : (v : ℕ) → v < 4 → (v * 85 * 3 + 127) / 255 ≡ v
field3 v l = omega arith

field5 : (v : ℕ) → v < 32 → level5 v / 8 ≡ v
unfolding level5
field5 v l = omega arith

field6 : (v : ℕ) → v < 64 → level6 v / 4 ≡ v
unfolding level6
field6 v l = omega arith

pub byte5 : (v : ℕ) → v < 32 → level5 v < 256
unfolding level5
byte5 v l = omega arith

pub byte6 : (v : ℕ) → v < 64 → level6 v < 256
unfolding level6
byte6 v l = omega arith

-- A level is the whole number nearest to its share of 255.
nearest5 : (v : ℕ) → (v * 255 ≤ level5 v * 31 + 15) × (level5 v * 31 ≤ v * 255 + 15)
unfolding level5
nearest5 v = (omega arith, omega arith)

nearest6 : (v : ℕ) → (v * 255 ≤ level6 v * 63 + 31) × (level6 v * 63 ≤ v * 255 + 31)
unfolding level6
nearest6 v = (omega arith, omega arith)

-- What is read is a colour of bytes.
pub read_channels : (f : Format) (w : ℕ) → Channels (to_color f w)
unfolding to_color
read_channels rgb332 w = record { a = omega arith; r = omega arith; g = omega arith; b = omega arith }
read_channels rgb565 w =
    record { a = omega arith; r = byte5 (w / 2048 % 32) (omega arith); g = byte6 (w / 32 % 64) (omega arith); b = byte5 (w % 32) (omega arith) }
read_channels rgb8 w = record { a = omega arith; r = omega arith; g = omega arith; b = omega arith }
read_channels argb w = record { a = omega arith; r = omega arith; g = omega arith; b = omega arith }
read_channels abgr w = record { a = omega arith; r = omega arith; g = omega arith; b = omega arith }
read_channels none w = record { a = omega arith; r = omega arith; g = omega arith; b = omega arith }

pub low-bytes : (w : ℕ) → w / 65536 % 256 * 65536 + w / 256 % 256 * 256 + w % 256 ≡ w % 16777216
low-bytes w = omega arith

-- Storing what was read gives the word, without what reading ignores.
pub read-store : (f : Format) (w : ℕ) → w < range f → from_color f (to_color f w) ≡ seen f w
unfolding from_color to_color range seen
read-store rgb332 w l =
    rw (field7 (w / 32 % 8) (omega arith), field7 (w / 4 % 8) (omega arith), field3 (w % 4) (omega arith)) (omega arith)
read-store rgb565 w l =
    rw (field5 (w / 2048 % 32) (omega arith), field6 (w / 32 % 64) (omega arith), field5 (w % 32) (omega arith)) (omega arith)
read-store rgb8 w l = low-bytes w
read-store argb w l = omega (arith, low-bytes w)
read-store abgr w l = omega (arith, low-bytes w)
read-store none w l = omega arith

-- The four bytes of a word, the highest first.
module _ (p q s t : ℕ) (hp : p < 256) (hq : q < 256) (hs : s < 256) (ht : t < 256) where
  byte3 : (p * 16777216 + q * 65536 + s * 256 + t) / 16777216 % 256 ≡ p
  byte3 = omega arith

  byte2 : (p * 16777216 + q * 65536 + s * 256 + t) / 65536 % 256 ≡ q
  byte2 = omega arith

  byte1 : (p * 16777216 + q * 65536 + s * 256 + t) / 256 % 256 ≡ s
  byte1 = omega arith

  byte0 : (p * 16777216 + q * 65536 + s * 256 + t) % 256 ≡ t
  byte0 = omega arith

-- Reading what was stored gives the colour where alpha is kept.
pub store-read : (f : Format) (c : Color) → Channels c → keeps_alpha f ≡ true → to_color f (from_color f c) ≡ c
unfolding from_color to_color keeps_alpha
store-read rgb332 c h e = absurd (let z : ◌≡◌ {A = ℕ} 0 1 = cc in omega arith)
store-read rgb565 c h e = absurd (let z : ◌≡◌ {A = ℕ} 0 1 = cc in omega arith)
store-read rgb8 c h e = absurd (let z : ◌≡◌ {A = ℕ} 0 1 = cc in omega arith)
store-read argb c h e =
    rw (
      byte3 c.a c.r c.g c.b h.a h.r h.g h.b,
      byte2 c.a c.r c.g c.b h.a h.r h.g h.b,
      byte1 c.a c.r c.g c.b h.a h.r h.g h.b,
      byte0 c.a c.r c.g c.b h.a h.r h.g h.b,
    )
store-read abgr c h e =
    rw (
      byte3 c.a c.b c.g c.r h.a h.b h.g h.r,
      byte2 c.a c.b c.g c.r h.a h.b h.g h.r,
      byte1 c.a c.b c.g c.r h.a h.b h.g h.r,
      byte0 c.a c.b c.g c.r h.a h.b h.g h.r,
    )
store-read none c h e = absurd (let z : ◌≡◌ {A = ℕ} 0 1 = cc in omega arith)

-- Rgb8 keeps the colour bytes.
pub store_read_rgb8 : (c : Color) → Channels c → to_color rgb8 (from_color rgb8 c) ≡ color 255 c.r c.g c.b
unfolding from_color to_color
store_read_rgb8 c h =
    let r : (c.r * 65536 + c.g * 256 + c.b) / 65536 % 256 ≡ c.r = omega arith in
    let g : (c.r * 65536 + c.g * 256 + c.b) / 256 % 256 ≡ c.g = omega arith in
    let b : (c.r * 65536 + c.g * 256 + c.b) % 256 ≡ c.b = omega arith in
    rw (r, g, b)
