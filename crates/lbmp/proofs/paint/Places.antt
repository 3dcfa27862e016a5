-- What the code makes of a pixel is the word that its place has.
use mathlib.Core.Path.{◌≡◌, sym, ap, ap₂, ◌∙◌}
use mathlib.Core.List.{List}
use Prim.Native.Nat.{ℕ, ◌+◌, ◌*◌, ◌/◌, ◌%◌, ◌^◌, ◌<◌}
use lib.ListN.{get_or}
use Rattle.fields.specs.Fields.{u16_at}
use Rattle.words.specs.declared.Color.{Color}
use Rattle.words.specs.Format.{rgb332, rgb565, argb, format_of}
use Rattle.words.specs.Word.{from_color, to_color}
use Rattle.words.specs.Table.{fives, sixes, back332, through332, through565}
use Rattle.words.proofs.Table.{read_332, read_565}
use Rattle.lbmp.specs.Plane.{plane_bit, plane_at}
use Rattle.lbmp.specs.Image.{grey_color, grey_at, at332, at565}
use Rattle.lbmp.specs.Walk.{painted, veiled, veil}
use Rattle.lbmp.proofs.planes.Bits.{plane_at_lem}

module _ (w y x : ℕ) (l : x < w) where
  bit_at : (p : List ℕ) (b : ℕ) → b ≡ get_or p (y / 8 * w + x) 0 / 2 ^ (y % 8) % 2 → b ≡ plane_at p w (y * w + x)
  unfolding plane_bit
  bit_at p b e = e ∙ sym (plane_at_lem p w y x l)

  pub veil-is : (m : List ℕ) (b r v : ℕ) → b ≡ get_or m (y / 8 * w + x) 0 / 2 ^ (y % 8) % 2 → r ≡ veiled b v → r ≡ veil m w (y * w + x) v
  unfolding veil
  veil-is m b r v e g = g ∙ ap (λ (k : ℕ). veiled k v) (bit_at m b e)

  pub grey-is : (p q : List ℕ) (a b r v : ℕ) → a ≡ get_or p (y / 8 * w + x) 0 / 2 ^ (y % 8) % 2 → b ≡ get_or q (y / 8 * w + x) 0 / 2 ^ (y % 8) % 2
      → r ≡ from_color argb (grey_color a b) → r ≡ painted (grey_at p q w) (y * w + x) v
  unfolding painted
  grey-is p q a b r v ea eb g = g ∙ ap₂ (λ (i j : ℕ). from_color argb (grey_color i j)) (bit_at p a ea) (bit_at q b eb)

pub is_332 : (p t : List ℕ) (i b r v : ℕ) (c : Color) → t ≡ back332 → b ≡ get_or p i 0 → c ≡ through332 t b → r ≡ from_color (format_of 3) c
    → r ≡ painted (at332 p) i v
unfolding painted format_of
is_332 p t i b r v c et eb ec er = er ∙ ap (from_color argb) (ec ∙ read_332 b et ∙ ap (to_color rgb332) eb)

pub is_565 : (p s t : List ℕ) (i b r v : ℕ) (c : Color) → s ≡ fives → t ≡ sixes → b ≡ u16_at p (2 * i) → c ≡ through565 s t b
    → r ≡ from_color (format_of 3) c → r ≡ painted (at565 p) i v
unfolding painted format_of
is_565 p s t i b r v c es et eb ec er = er ∙ ap (from_color argb) (ec ∙ read_565 b es et ∙ ap (to_color rgb565) eb)
