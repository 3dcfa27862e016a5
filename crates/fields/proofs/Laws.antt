-- A field of a file of bytes has its range, and its bytes are its digits, the low one first.
use mathlib.Core.Path.{◌≡◌}
use mathlib.Core.List.{List}
use Prim.Native.Nat.{ℕ, ◌+◌, ◌/◌, ◌%◌, ◌<◌}
use native.Mathlib.Omega.{arith}
use Rattle.fields.specs.Fields.{u8_at, u16_at, u32_at}

module _ (f : List ℕ) (bytes : (i : ℕ) → u8_at f i < 256) (o : ℕ) where
  pub u16-lt : u16_at f o < 65536
  unfolding u16_at
  u16-lt = omega (arith, bytes o, bytes (o + 1))

  pub u16-low : u16_at f o % 256 ≡ u8_at f o
  unfolding u16_at
  u16-low = omega (arith, bytes o)

  pub u16-high : u16_at f o / 256 ≡ u8_at f (o + 1)
  unfolding u16_at
  u16-high = omega (arith, bytes o)

module _ (f : List ℕ) (bytes : (i : ℕ) → u8_at f i < 256) (o : ℕ) where
  pub u32-lt : u32_at f o < 4294967296
  unfolding u32_at
  u32-lt = omega (arith, u16-lt f bytes o, u16-lt f bytes (o + 2))

  pub u32-low : u32_at f o % 65536 ≡ u16_at f o
  unfolding u32_at
  u32-low = omega (arith, u16-lt f bytes o)

  pub u32-high : u32_at f o / 65536 ≡ u16_at f (o + 2)
  unfolding u32_at
  u32-high = omega (arith, u16-lt f bytes o)
