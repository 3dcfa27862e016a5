-- The laws of words, over the format: a colour's word fits, and an ink does what a plot does. A format enters by its range, by its words
-- of colours, and by whether it keeps alpha.
use mathlib.Core.Path.{◌≡◌, refl, sym, ap, ◌∙◌}
use mathlib.Core.Bool.{Bool, true, false, cond}
use Prim.Native.Nat.{ℕ, ◌+◌, ◌*◌, ◌/◌, ◌%◌, ◌^◌, ◌<◌, ◌≤◌}
use native.Mathlib.Omega.{arith}
use native.Mathlib.Nat.{zero-add, mod-lt}
use lib.Bits.{bit_and, bit_xor, and_mask, and_zero_r, xor_zero_r, xor_block}
use lib.Dec.{eqb}
use Rattle.words.specs.declared.Color.{Color}
use Rattle.words.specs.Format.{Format, rgb332, rgb565, rgb8, argb, abgr, none, bytes_per_pixel, range}
use Rattle.words.specs.Word.{from_color}
use Rattle.words.specs.Ink.{keeps_alpha, bare, xor_color, plot_word, ink, inked, xor_ink, plot_ink}

-- A colour whose channels are bytes.
pub record Channels (c : Color) : Type 0 where
  pub a : c.a < 256
  pub r : c.r < 256
  pub g : c.g < 256
  pub b : c.b < 256

pub range-bytes : (f : Format) → range f ≡ 256 ^ bytes_per_pixel f
unfolding range bytes_per_pixel
range-bytes rgb332 = refl
range-bytes rgb565 = refl
range-bytes rgb8 = refl
range-bytes argb = refl
range-bytes abgr = refl
range-bytes none = refl

pub range_u32 : (f : Format) → range f ≤ 4294967296
unfolding range
range_u32 rgb332 = omega arith
range_u32 rgb565 = omega arith
range_u32 rgb8 = omega arith
range_u32 argb = omega arith
range_u32 abgr = omega arith
range_u32 none = omega arith

pub fits : (f : Format) (c : Color) → Channels c → from_color f c < range f
unfolding from_color range
fits rgb332 c h =
    let r : (c.r * 7 + 127) / 255 < 8 = omega arith in
    let g : (c.g * 7 + 127) / 255 < 8 = omega arith in
    let b : (c.b * 3 + 127) / 255 < 4 = omega arith in
    omega arith
fits rgb565 c h = omega arith
fits rgb8 c h = omega arith
fits argb c h = omega arith
fits abgr c h = omega arith
fits none c h = omega arith

-- A colour's bytes alone leave the highest byte free.
pub bare_fits : (f : Format) (c : Color) → Channels c → from_color f (bare c) < 16777216
unfolding from_color
bare_fits rgb332 c h = omega arith
bare_fits rgb565 c h = omega arith
bare_fits rgb8 c h = omega arith
bare_fits argb c h = omega arith
bare_fits abgr c h = omega arith
bare_fits none c h = omega arith

-- XOR of the colour bytes, with alpha made 255.
abbrev solid : ℕ → ℕ → ℕ
solid k w = 4278190080 + bit_xor (w % 16777216) k

-- XOR with a colour of bare word j and whole word k, where alpha is kept or not.
abbrev mixed : Bool → ℕ → ℕ → ℕ → ℕ
mixed t j k w = cond t (solid j w) (bit_xor w k)

-- ---- the two masks of an ink

pub keep_all : (f : Format) (w : ℕ) → w < range f → bit_and w 4294967295 ≡ w
keep_all f w l = and_mask w 32 ∙ omega (arith, range_u32 f)

-- Flipping all of the highest byte where it is free sets it.
flip-solid : (k w : ℕ) → k < 16777216 → bit_xor (bit_and w 16777215) (4278190080 + k) ≡ solid k w
flip-solid k w l =
    ap (λ (x : ℕ). bit_xor x (4278190080 + k)) (and_mask w 24 ∙ sym (zero-add (w % 16777216)))
    ∙ xor_block 24 0 255 (w % 16777216) k (mod-lt w (omega arith)) l

pub ink-is : (f : Format) (x : Bool) (c : Color) (w : ℕ) → Channels c → w < range f → inked (plot_ink f x c) w ≡ plot_word f x c w
unfolding inked plot_ink plot_word xor_ink xor_color
ink-is f false c w h l = ap (λ (x : ℕ). bit_xor x (from_color f c)) (and_zero_r w)
ink-is f true c w h l = by_alpha (eqb c.a 0)
  where
    j : ℕ
    j = from_color f (bare c)

    k : ℕ
    k = from_color f c

    by_kept : (t : Bool) → inked (cond t (ink 16777215 (4278190080 + j)) (ink 4294967295 k)) w ≡ mixed t j k w
    by_kept true = flip-solid j w (bare_fits f c h)
    by_kept false = ap (λ (x : ℕ). bit_xor x k) (keep_all f w l)

    by_alpha : (z : Bool) → inked (cond z (ink 4294967295 0) (xor_ink f c)) w ≡ cond z w (xor_color f w c)
    by_alpha true = xor_zero_r (bit_and w 4294967295) ∙ keep_all f w l
    by_alpha false = by_kept (keeps_alpha f)
