-- A colour scaled with no test of alpha: at 0 it flips nothing, at 255 it is the colour. So XOR needs no branch where alpha is not kept.
use mathlib.Core.Path.{◌≡◌, refl, sym, ap, ◌∙◌}
use mathlib.Core.Bool.{Bool, true, false, cond, true≢false, ◌||◌}
use Prim.Native.Nat.{ℕ, ◌+◌, ◌*◌, ◌%◌}
use native.Mathlib.Nat.{mod-eq_of_lt}
use native.Mathlib.Omega.{arith}
use lib.Dec.{T, eqb, eqb→eq}
use lib.Bits.{bit_xor, xor_mod, xor_zero_r}
use borrow.Author.Tests.{eqb-true, eqb-false, eq-eqb, ne_eqb}
use Rattle.words.specs.declared.Color.{Color}
use Rattle.words.specs.Format.{Format, rgb332, rgb565, rgb8, argb, abgr, none}
use Rattle.words.specs.Word.{color, from_color}
use Rattle.words.specs.Ink.{keeps_alpha, bare, xor_color, plot_word}
use Rattle.words.proofs.Laws.{Channels, bare_fits}
use Rattle.blending.specs.Blend.{part, scaled, flip_word}
use Rattle.blending.specs.Inner.{faint}
use Rattle.blending.proofs.Laws.{scaled_channels}

part_none : (a x : ℕ) → a ≡ 0 → part a x ≡ 0
part_none a x e = rw e (omega arith)

part-whole : (a x : ℕ) → a ≡ 255 → x ≡ part a x
part-whole a x e = rw e (omega arith)

scaled_alpha : (c : Color) → (scaled c).a ≡ c.a
unfolding scaled
scaled_alpha c = go (eqb c.a 0 || eqb c.a 255)
  where
    go : (t : Bool) → (cond t c (color c.a (part c.a c.r) (part c.a c.g) (part c.a c.b))).a ≡ c.a
    go true = refl
    go false = refl

scaled-faint : (c : Color) → (c.a ≡ 0 → ⊥) → bare (scaled c) ≡ faint c
unfolding scaled faint
scaled-faint c n = rw (ne_eqb c.a 0 n) (go (eqb c.a 255) (eqb→eq c.a 255))
  where
    go :
        (t : Bool) → (T t → c.a ≡ 255) →
        bare (cond t c (color c.a (part c.a c.r) (part c.a c.g) (part c.a c.b)))
        ≡ color 0 (part c.a c.r) (part c.a c.g) (part c.a c.b)
    go true f = let e = f tt in cc (part-whole c.a c.r e, part-whole c.a c.g e, part-whole c.a c.b e)
    go false f = refl

black : (f : Format) → from_color f (color 0 0 0 0) ≡ 0
unfolding from_color
black rgb332 = refl
black rgb565 = refl
black rgb8 = refl
black argb = refl
black abgr = refl
black none = refl

nothing : (f : Format) (c : Color) → c.a ≡ 0 → from_color f (faint c) ≡ 0
unfolding faint
nothing f c e = rw (part_none c.a c.r e, part_none c.a c.g e, part_none c.a c.b e) (black f)

bare-word : (f : Format) (c : Color) → keeps_alpha f ≡ false → from_color f c ≡ from_color f (bare c)
unfolding from_color keeps_alpha
bare-word rgb332 c k = refl
bare-word rgb565 c k = refl
bare-word rgb8 c k = refl
bare-word argb c k = absurd (true≢false k)
bare-word abgr c k = absurd (true≢false k)
bare-word none c k = refl

-- Where alpha is not kept.
pub faint_flips : (f : Format) (c : Color) (w : ℕ) → keeps_alpha f ≡ false → bit_xor w (from_color f (faint c)) ≡ flip_word f c w
unfolding plot_word xor_color
faint_flips f c w k =
    go (eqb c.a 0) refl
    ∙ sym (ap (λ (a : ℕ). cond (eqb a 0) w (xor_color f w (scaled c))) (scaled_alpha c))
  where
    go : (z : Bool) → eqb c.a 0 ≡ z → bit_xor w (from_color f (faint c)) ≡ cond z w (xor_color f w (scaled c))
    go true e = ap (bit_xor w) (nothing f c (eqb-true c.a 0 e)) ∙ xor_zero_r w
    go false e =
        ap (bit_xor w) (ap (from_color f) (sym (scaled-faint c (eqb-false c.a 0 e))) ∙ sym (bare-word f (scaled c) k))
        ∙ sym (flips k)
      where
        flips : keeps_alpha f ≡ false → xor_color f w (scaled c) ≡ bit_xor w (from_color f (scaled c))
        flips k = rw k

-- Where it is.
pub keeps_at_0 : (f : Format) (c : Color) (w : ℕ) → c.a ≡ 0 → w ≡ flip_word f c w
unfolding plot_word
keeps_at_0 f c w e = rw (scaled_alpha c, eq-eqb c.a 0 e)

pub faint-solid :
    (f : Format) (c : Color) (w : ℕ) → keeps_alpha f ≡ true → Channels c → (c.a ≡ 0 → ⊥) →
    4278190080 + bit_xor w (from_color f (faint c)) % 16777216 ≡ flip_word f c w
unfolding plot_word xor_color
faint-solid f c w k h n =
    let s = scaled-faint c n in
    rw (scaled_alpha c, ne_eqb c.a 0 n, k, ← s)
    (ap (λ (x : ℕ). 4278190080 + x)
    (xor_mod w (from_color f (bare (scaled c))) 24
    ∙ ap (bit_xor (w % 16777216)) (mod-eq_of_lt (bare_fits f (scaled c) (scaled_channels c h)))))

zero-top : (r g b : ℕ) → r * 65536 + g * 256 + b ≡ 0 * 16777216 + r * 65536 + g * 256 + b
zero-top r g b = omega arith

-- ARGB's bytes are where Rgb8 has them.
pub as_rgb8 : (c : Color) → from_color rgb8 (faint c) ≡ from_color argb (faint c)
unfolding faint from_color
as_rgb8 c = zero-top (part c.a c.r) (part c.a c.g) (part c.a c.b)
