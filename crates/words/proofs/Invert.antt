-- The ink of inversion does what inversion does: it flips the bits of the format that hold colours.
use mathlib.Core.Path.{◌≡◌, refl, sym, ap, ap₂, ◌∙◌}
use Prim.Native.Nat.{ℕ, ◌+◌, ◌-◌, ◌*◌, ◌/◌, ◌%◌, ◌^◌, ◌<◌}
use native.Mathlib.Omega.{arith}
use native.Mathlib.Nat.{mod-lt, mod-eq_of_lt, div-add-mod'}
use lib.Bits.{bit_and, bit_xor, and_mask, xor_zero_r, xor_block, xor_add_and}
use Rattle.words.specs.Format.{Format, rgb332, rgb565, rgb8, argb, abgr, none, range}
use Rattle.words.specs.Word.{from_color, to_color, level5, level6}
use Rattle.words.specs.Ink.{inked}
use Rattle.words.specs.Invert.{invert_word, invert_ink}
use Rattle.words.proofs.Laws.{keep_all}
use Rattle.words.proofs.Reading.{low-bytes}

field7 : (v : ℕ) → v < 8 → ((255 - v * 36) * 7 + 127) / 255 ≡ 7 - v
field7 v l = omega arith

field3 : (v : ℕ) → v < 4 → ((255 - v * 85) * 3 + 127) / 255 ≡ 3 - v
field3 v l = omega arith

field5 : (v : ℕ) → v < 32 → (255 - level5 v) / 8 ≡ 31 - v
unfolding level5
field5 v l = omega arith

field6 : (v : ℕ) → v < 64 → (255 - level6 v) / 4 ≡ 63 - v
unfolding level6
field6 v l = omega arith

-- Three bytes, each taken from its ones, are taken so together.
three : (p q s : ℕ) → p < 256 → q < 256 → s < 256 → (255 - p) * 65536 + (255 - q) * 256 + (255 - s) ≡ 16777215 - (p * 65536 + q * 256 + s)
three p q s hp hq hs = omega arith

low_ones : (w : ℕ) → (255 - w / 65536 % 256) * 65536 + (255 - w / 256 % 256) * 256 + (255 - w % 256) ≡ 16777215 - w % 16777216
low_ones w =
    three (w / 65536 % 256) (w / 256 % 256) (w % 256) (omega arith) (omega arith) (omega arith) ∙ ap (λ (x : ℕ). 16777215 - x) (low-bytes w)

-- The fields of 565 and 332 likewise.
fields565 : (p q s : ℕ) → p < 32 → q < 64 → s < 32 → (31 - p) * 2048 + (63 - q) * 32 + (31 - s) ≡ 65535 - (p * 2048 + q * 32 + s)
fields565 p q s hp hq hs = omega arith

fields332 : (p q s : ℕ) → p < 8 → q < 8 → s < 4 → (7 - p) * 32 + (7 - q) * 4 + (3 - s) ≡ 255 - (p * 32 + q * 4 + s)
fields332 p q s hp hq hs = omega arith

-- The bits flipped, as a difference.
flipped : Format → ℕ → ℕ
flipped rgb332 w = 255 - w
flipped rgb565 w = 65535 - w
flipped rgb8 w = 16777215 - w % 16777216
flipped argb w = w / 16777216 * 16777216 + (16777215 - w % 16777216)
flipped abgr w = w / 16777216 * 16777216 + (16777215 - w % 16777216)
flipped none w = 0

invert_flips : (f : Format) (w : ℕ) → w < range f → invert_word f w ≡ flipped f w
unfolding invert_word from_color to_color range flipped
invert_flips rgb332 w l =
    rw (field7 (w / 32 % 8) (omega arith), field7 (w / 4 % 8) (omega arith), field3 (w % 4) (omega arith))
    (fields332 (w / 32 % 8) (w / 4 % 8) (w % 4) (omega arith) (omega arith) (omega arith) ∙ omega arith)
invert_flips rgb565 w l =
    rw (field5 (w / 2048 % 32) (omega arith), field6 (w / 32 % 64) (omega arith), field5 (w % 32) (omega arith))
    (fields565 (w / 2048 % 32) (w / 32 % 64) (w % 32) (omega arith) (omega arith) (omega arith) ∙ omega arith)
invert_flips rgb8 w l = low_ones w
invert_flips argb w l = omega (arith, low_ones w)
invert_flips abgr w l = omega (arith, low_ones w)
invert_flips none w l = refl

-- XOR with ones takes from them.
xor_ones : (k w : ℕ) → w < 2 ^ k → bit_xor w (2 ^ k - 1) ≡ 2 ^ k - 1 - w
xor_ones k w l = from (bit_xor w (2 ^ k - 1)) (2 ^ k - 1) w (xor_add_and w (2 ^ k - 1)) (and_mask w k ∙ mod-eq_of_lt l)
  where
    from : (x m w : ℕ) {y : ℕ} → x + y * 2 ≡ w + m → y ≡ w → x ≡ m - w
    from x m w e f = omega arith

-- Bytes above those flipped stay.
xor_low : (w : ℕ) → bit_xor w 16777215 ≡ w / 16777216 * 16777216 + (16777215 - w % 16777216)
xor_low w =
    ap (λ (x : ℕ). bit_xor x 16777215) (sym (div-add-mod' w 16777216))
    ∙ xor_block 24 (w / 16777216) 0 (w % 16777216) 16777215 (mod-lt w (omega arith)) (omega arith)
    ∙ ap₂ (λ (x y : ℕ). x * 16777216 + y) (xor_zero_r (w / 16777216)) (xor_ones 24 (w % 16777216) (mod-lt w (omega arith)))

-- The ink does what inversion does.
pub invert-is : (f : Format) (w : ℕ) → w < range f → inked (invert_ink f) w ≡ invert_word f w
unfolding inked invert_ink range flipped
invert-is rgb332 w l = ap (λ (x : ℕ). bit_xor x 255) (keep_all rgb332 w l) ∙ xor_ones 8 w l ∙ sym (invert_flips rgb332 w l)
invert-is rgb565 w l = ap (λ (x : ℕ). bit_xor x 65535) (keep_all rgb565 w l) ∙ xor_ones 16 w l ∙ sym (invert_flips rgb565 w l)
invert-is rgb8 w l =
    ap (λ (x : ℕ). bit_xor x 16777215) (and_mask w 24) ∙ xor_ones 24 (w % 16777216) (mod-lt w (omega arith)) ∙ sym (invert_flips rgb8 w l)
invert-is argb w l = ap (λ (x : ℕ). bit_xor x 16777215) (keep_all argb w l) ∙ xor_low w ∙ sym (invert_flips argb w l)
invert-is abgr w l = ap (λ (x : ℕ). bit_xor x 16777215) (keep_all abgr w l) ∙ xor_low w ∙ sym (invert_flips abgr w l)
invert-is none w l = xor_zero_r (bit_and w 4294967295) ∙ keep_all none w l ∙ omega (arith, invert_flips none w l)
