-- Words of four bytes: the highest byte does not enter a blend, so that setting alpha's bits before and after it, or none,
-- gives the format's word.
use mathlib.Core.Path.{◌≡◌, refl, sym, ap, ◌∙◌}
use mathlib.Core.Bool.{Bool, true, false, cond}
use Prim.Native.Nat.{ℕ, ◌+◌, ◌*◌, ◌/◌, ◌%◌, ◌<◌}
use native.Mathlib.Nat.{mod-lt}
use native.Mathlib.Omega.{arith}
use lib.Dec.{T, eqb, eqb→eq}
use lib.Bits.{bit_or, or_mod, or_zero_r, or_shifted_r}
use Rattle.words.specs.declared.Color.{Color}
use Rattle.words.specs.Format.{rgb8, argb, abgr}
use Rattle.words.specs.Word.{color, from_color, to_color}
use Rattle.words.proofs.Laws.{Channels}
use Rattle.words.proofs.Reading.{read_channels}
use Rattle.blending.specs.Blend.{Rule, mix, over, blend_word, setting}
use Rattle.blending.proofs.Laws.{over_channels}
use Rattle.blending.proofs.Opaque.{over-read}

-- Three bytes under any highest one.
pub under : (a p q s : ℕ) → p < 256 → q < 256 → s < 256 → p * 65536 + q * 256 + s ≡ (a * 16777216 + p * 65536 + q * 256 + s) % 16777216
under a p q s hp hq hs = omega arith

solid : (a p q s : ℕ) → a ≡ 255 → p < 256 → q < 256 → s < 256 →
    4278190080 + (a * 16777216 + p * 65536 + q * 256 + s) % 16777216 ≡ a * 16777216 + p * 65536 + q * 256 + s
solid a p q s e hp hq hs = omega arith

low-kept : (w : ℕ) → bit_or w 4278190080 % 16777216 ≡ w % 16777216
low-kept w = or_mod w 4278190080 24 ∙ or_zero_r (w % 16777216)

module _ (x w : ℕ) (e : x % 16777216 ≡ w % 16777216) where
  byte0 : x % 256 ≡ w % 256
  byte0 = omega arith

  byte1 : x / 256 % 256 ≡ w / 256 % 256
  byte1 = omega arith

  byte2 : x / 65536 % 256 ≡ w / 65536 % 256
  byte2 = omega arith

over-solid : (k : Rule) (c b : Color) → (over k c b).a ≡ 255
unfolding over
over-solid k c b = go (eqb c.a 255) (eqb→eq c.a 255)
  where
    go :
        (t : Bool) → (T t → c.a ≡ 255) →
        (cond t c (color 255 (mix k c.a c.r b.r) (mix k c.a c.g b.g) (mix k c.a c.b b.b))).a ≡ 255
    go true f = f tt
    go false f = refl

-- Alpha's bits set on what a blend leaves of three bytes.
set-solid : (v : ℕ) → bit_or (v % 16777216) 4278190080 ≡ 4278190080 + v % 16777216
set-solid v = or_shifted_r 255 24 (v % 16777216) (mod-lt v (omega arith))

colors : (k : Rule) (c : Color) (w : ℕ) → over k c (to_color argb w) ≡ over k c (to_color rgb8 w)
unfolding over to_color
colors k c w = refl

-- ARGB and ABGR, with alpha's bits.
pub set-argb : (k : Rule) (c : Color) (w : ℕ) → Channels c → setting 4278190080 (blend_word argb k false c) w ≡ blend_word argb k false c w
unfolding setting blend_word from_color to_color
set-argb k c w h =
    let x = bit_or w 4278190080 in
    let e = low-kept w in
    let v = over k c (to_color argb x) in
    let o = over_channels k c (to_color argb x) h (read_channels argb x) in
    set-solid (from_color argb v)
    ∙ solid v.a v.r v.g v.b (over-solid k c (to_color argb x)) o.r o.g o.b
    ∙ ap (from_color argb) (over-read k c (to_color argb x) (to_color argb w) (byte2 x w e) (byte1 x w e) (byte0 x w e))

pub set-abgr : (k : Rule) (c : Color) (w : ℕ) → Channels c → setting 4278190080 (blend_word abgr k false c) w ≡ blend_word abgr k false c w
unfolding setting blend_word from_color to_color
set-abgr k c w h =
    let x = bit_or w 4278190080 in
    let e = low-kept w in
    let v = over k c (to_color abgr x) in
    let o = over_channels k c (to_color abgr x) h (read_channels abgr x) in
    set-solid (from_color abgr v)
    ∙ solid v.a v.b v.g v.r (over-solid k c (to_color abgr x)) o.b o.g o.r
    ∙ ap (from_color abgr) (over-read k c (to_color abgr x) (to_color abgr w) (byte0 x w e) (byte1 x w e) (byte2 x w e))

-- Rgb8, with none.
pub set-rgb8 : (k : Rule) (c : Color) (w : ℕ) → Channels c → setting 0 (blend_word argb k false c) w ≡ blend_word rgb8 k false c w
unfolding setting blend_word from_color
set-rgb8 k c w h =
    let x = bit_or w 0 in
    let v = over k c (to_color argb x) in
    let o = over_channels k c (to_color argb x) h (read_channels argb x) in
    or_zero_r (from_color argb v % 16777216)
    ∙ sym (under v.a v.r v.g v.b o.r o.g o.b)
    ∙ ap (from_color rgb8) (ap (λ (y : ℕ). over k c (to_color argb y)) (or_zero_r w) ∙ colors k c w)
