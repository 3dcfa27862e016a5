-- The laws of blending: a word keeps to its format's range, an ink does what drawing with XOR on does, and a drawing with XOR on is the
-- stamp of a plot.
use mathlib.Core.Path.{◌≡◌, refl, ap}
use mathlib.Core.Bool.{Bool, true, false, cond, not, ◌&&◌, ◌||◌}
use Prim.Native.Nat.{ℕ, ◌+◌, ◌-◌, ◌*◌, ◌≤◌, ◌<◌}
use native.Mathlib.Nat.{mul-le-mul, mul-le-mul_right}
use native.Mathlib.Omega.{arith}
use lib.Dec.{eqb}
use borrow.Author.Tests.{eq-eqb, ne_eqb}
use lib.Ieee.Casts.{to_unsigned-lt}
use Rattle.words.specs.declared.Color.{Color}
use Rattle.words.specs.Format.{Format, range}
use Rattle.words.specs.Word.{color, from_color, to_color}
use Rattle.words.specs.Ink.{keeps_alpha, inked, plot_ink}
use Rattle.words.proofs.Laws.{Channels, fits, ink-is}
use Rattle.words.proofs.Reading.{read_channels}
use Rattle.words.proofs.Stamps.{Stamps, plot_stamps, plot-keeps}
use Rattle.blending.specs.Blend.{part, scaled, Rule, rule1, rule2, rule_of, mix, over, blend_word}

-- ---- the rule by its number

pub second : (n : ℕ) → n ≡ 2 → rule_of n ≡ rule2
unfolding rule_of
second n e = rw (eq-eqb n 2 e) refl

pub first : (n : ℕ) → (n ≡ 2 → ⊥) → rule_of n ≡ rule1
unfolding rule_of
first n e = rw (ne_eqb n 2 e) refl

-- ---- channels stay bytes

pub product : (c a : ℕ) → c < 256 → a < 256 → c * a ≤ 65025
product c a p q =
    let h : c ≤ 255 = omega arith in
    let k : a ≤ 255 = omega arith in
    mul-le-mul h k

part-lt : (a c : ℕ) → a < 256 → c < 256 → part a c < 256
part-lt a c ha hc = omega (arith, product c a hc ha)

-- Two channels by their shares of 255: at most as much as the larger one has.
module _ (a n c bg m : ℕ) (e : a + n ≡ 255) where
  pub shares_le : c ≤ m → bg ≤ m → c * a + bg * n ≤ 255 * m
  shares_le p q = omega (arith, mul-le-mul_right a p, mul-le-mul_right n q, ap (λ (t : ℕ). m * t) e)

pub rest_of_lem : (a : ℕ) → a < 256 → a + (255 - a) ≡ 255
rest_of_lem a h = omega arith

-- Two bytes by an alpha.
pub total-le : (a c bg : ℕ) → a < 256 → c < 256 → bg < 256 → c * a + bg * (255 - a) ≤ 65025
total-le a c bg h p q = shares_le a (255 - a) c bg 255 (rest_of_lem a h) (omega arith) (omega arith)

mix-lt : (k : Rule) (a c bg : ℕ) → a < 256 → c < 256 → bg < 256 → mix k a c bg < 256
unfolding mix
mix-lt rule1 a c bg h p q = to_unsigned-lt 8 _
mix-lt rule2 a c bg h p q = omega (arith, total-le a c bg h p q)

pub scaled_channels : (c : Color) → Channels c → Channels (scaled c)
unfolding scaled
scaled_channels c h = go (eqb c.a 0 || eqb c.a 255)
  where
    go : (t : Bool) → Channels (cond t c (color c.a (part c.a c.r) (part c.a c.g) (part c.a c.b)))
    go true = h
    go false =
        record { a = h.a; r = part-lt c.a c.r h.a h.r; g = part-lt c.a c.g h.a h.g; b = part-lt c.a c.b h.a h.b }

pub over_channels : (k : Rule) (c b : Color) → Channels c → Channels b → Channels (over k c b)
unfolding over
over_channels k c b h l = go (eqb c.a 255)
  where
    go : (t : Bool) → Channels (cond t c (color 255 (mix k c.a c.r b.r) (mix k c.a c.g b.g) (mix k c.a c.b b.b)))
    go true = h
    go false = record {
      a = omega arith;
      r = mix-lt k c.a c.r b.r h.a h.r l.r;
      g = mix-lt k c.a c.g b.g h.a h.g l.g;
      b = mix-lt k c.a c.b b.b h.a h.b l.b;
    }

pub blend_keeps : (f : Format) (k : Rule) (x : Bool) (c : Color) (w : ℕ) → Channels c → w < range f → blend_word f k x c w < range f
unfolding blend_word
blend_keeps f k true c w h l = plot-keeps f true (scaled c) w (scaled_channels c h) l
blend_keeps f k false c w h l = fits f (over k c (to_color f w)) (over_channels k c (to_color f w) h (read_channels f w))

-- ---- XOR off

-- "alpha 255 stores"
pub opaque_stores : (f : Format) (k : Rule) (c : Color) (w : ℕ) → c.a ≡ 255 → blend_word f k false c w ≡ from_color f c
unfolding blend_word over
opaque_stores f k c w e = ap (from_color f) (rw e refl)

-- ---- XOR on

pub blend_ink_is : (f : Format) (k : Rule) (c : Color) (w : ℕ) → Channels c → w < range f → inked (plot_ink f true (scaled c)) w ≡ blend_word f k true c w
unfolding blend_word
blend_ink_is f k c w h l = ink-is f true (scaled c) w (scaled_channels c h) l

scaled_alpha : (c : Color) → eqb (scaled c).a 0 ≡ eqb c.a 0
unfolding scaled
scaled_alpha c = go (eqb c.a 0 || eqb c.a 255)
  where
    go : (t : Bool) → eqb (cond t c (color c.a (part c.a c.r) (part c.a c.g) (part c.a c.b))).a 0 ≡ eqb c.a 0
    go true = refl
    go false = refl

-- A drawing is the stamp of a plot.
pub blend_stamps : (f : Format) (k : Rule) (c : Color) → Channels c → Stamps f (not (eqb c.a 0) && keeps_alpha f) (blend_word f k true c)
unfolding blend_word
blend_stamps f k c h = rw (← scaled_alpha c) (plot_stamps f (scaled c) (scaled_channels c h))
