-- How large planes and parts are.
use mathlib.Core.Path.{◌≡◌, refl}
use Rattle.std.specs.Prelude.{Option, Some, None}
use Prim.Native.Nat.{ℕ, ◌+◌, ◌*◌, ◌/◌, ◌^◌, ◌<◌, ◌≤◌}
use native.Mathlib.Omega.{arith}
use native.Mathlib.Nat.{mul-le-mul, mul-le-mul_right, mul_comm, add-mul, one-mul}
use borrow.Author.Tests.{eq-eqb, ne_eqb}
use Rattle.lbmp.specs.declared.header.Header.{Header}
use Rattle.lbmp.specs.declared.header.Kind.{Kind}
use Rattle.lbmp.specs.declared.header.Kind.TheVariants.{Greys, Rgb332, Rgb565}
use Rattle.lbmp.specs.Plane.{plane_size}
use Rattle.lbmp.specs.File.{expected_size, mask_size}

-- The product of two numbers of 32 bits fits 64 bits.
pub product_fits : (a b : ℕ) → a < 4294967296 → b < 4294967296 → a * b < 2 ^ 64
product_fits a b ha hb =
    let p : a ≤ 4294967295 = omega arith in
    let q : b ≤ 4294967295 = omega arith in
    let m : a * b ≤ 4294967295 * 4294967295 = mul-le-mul p q in
    omega arith

-- A plane's bytes are no more than the pixels.
pub plane_le : (w h : ℕ) → plane_size w h ≤ w * h
unfolding plane_size
plane_le w h =
    let m : (h + 7) / 8 * w ≤ h * w = mul-le-mul_right w (omega arith) in
    omega (arith, mul_comm w h)

pub plane_fits : (w h : ℕ) → w < 4294967296 → h < 4294967296 → plane_size w h < 2 ^ 62
unfolding plane_size
plane_fits w h hw hh =
    let p : (h + 7) / 8 ≤ 536870912 = omega arith in
    let q : w ≤ 4294967295 = omega arith in
    let m : (h + 7) / 8 * w ≤ 536870912 * 4294967295 = mul-le-mul p q in
    omega arith

-- A row's bytes stand in its plane.
pub plane_row : (w h y : ℕ) → y < h → y / 8 * w + w ≤ plane_size w h
unfolding plane_size
plane_row w h y l =
    let m : (y / 8 + 1) * w ≤ (h + 7) / 8 * w = mul-le-mul_right w (omega arith) in
    omega (arith, add-mul (y / 8) 1 w, one-mul w)

-- The byte of a pixel stands in its plane.
pub plane_inside : (w h x y : ℕ) → x < w → y < h → y / 8 * w + x < plane_size w h
plane_inside w h x y lx ly = omega (arith, plane_row w h y ly)

pub expected_le : (k : Option Kind) (w h : ℕ) → expected_size k w h ≤ 2 * (w * h)
unfolding expected_size
expected_le (Some Greys) w h = omega (arith, plane_le w h)
expected_le (Some Rgb332) w h = omega arith
expected_le (Some Rgb565) w h = omega arith
expected_le None w h = omega arith

pub mask_plane : (h : Header) → h.mask ≡ 1 → mask_size h ≡ plane_size h.width h.height
unfolding mask_size
mask_plane h e = rw (eq-eqb _ _ e) refl

pub mask_none : (h : Header) → (h.mask ≡ 1 → ⊥) → mask_size h ≡ 0
unfolding mask_size
mask_none h e = rw (ne_eqb _ _ e) refl

-- The bytes whose eight rows are all of the image stand in the plane.
pub full_le : (w h : ℕ) → h / 8 * w ≤ plane_size w h
unfolding plane_size
full_le w h = mul-le-mul_right w (omega arith)
