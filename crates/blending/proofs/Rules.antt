-- What is promised of rule 2, and where the two rules differ.
use mathlib.Core.Path.{◌≡◌, refl, ap}
use mathlib.Core.Bool.{Bool, true, false, cond}
use Prim.Native.Nat.{ℕ, ◌+◌, ◌-◌, ◌*◌, ◌%◌, ◌≤◌, ◌<◌, min, max}
use native.Mathlib.Nat.{mul-le-mul_right}
use native.Mathlib.Omega.{arith}
use lib.Dec.{T, eqb, eqb→eq}
use lib.Ieee.{of_int, add, sub, mul, div, to_unsigned}
use Rattle.words.specs.declared.Color.{Color}
use Rattle.words.specs.Word.{color}
use Rattle.words.proofs.Laws.{Channels}
use Rattle.blending.specs.Blend.{factor, others, rule1, rule2, mix, over}
use Rattle.blending.proofs.Laws.{shares_le, rest_of_lem}
use Rattle.blending.proofs.Opaque.{fields}
use Rattle.blending.proofs.Falls.{total, falls}

-- ---- rule 2

-- "under rule 2 a channel over an equal one is unchanged at every alpha"
pub equal_stays : (a c : ℕ) → a < 256 → mix rule2 a c c ≡ c
unfolding mix
equal_stays a c h = omega (arith, ap (λ (t : ℕ). c * t) (rest_of_lem a h))

-- "the answer lies between the two channels"
pub between : (a c bg : ℕ) → a < 256 → (min c bg ≤ mix rule2 a c bg) × (mix rule2 a c bg ≤ max c bg)
unfolding mix
between a c bg h =
    let e = rest_of_lem a h in (
      omega (arith, shares_ge a (255 - a) c bg (min c bg) e (omega arith) (omega arith)),
      omega (arith, shares_le a (255 - a) c bg (max c bg) e (omega arith) (omega arith)),
    )
  where
    shares_ge : (a n c bg m : ℕ) → a + n ≡ 255 → m ≤ c → m ≤ bg → 255 * m ≤ c * a + bg * n
    shares_ge a n c bg m e p q = omega (arith, mul-le-mul_right a p, mul-le-mul_right n q, ap (λ (t : ℕ). m * t) e)

-- "rounds to the nearest level": by less than a half.
pub nearest_level : (a c bg : ℕ) → (total a c bg ≤ mix rule2 a c bg * 255 + 127) × (mix rule2 a c bg * 255 ≤ total a c bg + 127)
unfolding mix
nearest_level a c bg = (omega arith, omega arith)

-- A colour over one with the same channels, at any alpha.
pub color-stays :
    (c b : Color) → Channels c → c.r ≡ b.r → c.g ≡ b.g → c.b ≡ b.b → over rule2 c b ≡ color 255 b.r b.g b.b
unfolding over
color-stays c b h p q s = go (eqb c.a 255) (eqb→eq c.a 255)
  where
    go :
        (t : Bool) → (T t → c.a ≡ 255) →
        cond t c (color 255 (mix rule2 c.a c.r b.r) (mix rule2 c.a c.g b.g) (mix rule2 c.a c.b b.b))
        ≡ color 255 b.r b.g b.b
    go true f = fields c (f tt) p q s
    go false f =
        rw (p, q, s, equal_stays c.a b.r h.a, equal_stays c.a b.g h.a, equal_stays c.a b.b h.a) refl

-- ---- the two rules

module _ (a c bg : ℕ) (ha : a < 256) (hc : c < 256) (hb : bg < 256) where
  -- Rule 2 gives what rule 1 gives, or one more.
  pub rules_near : (mix rule1 a c bg ≤ mix rule2 a c bg) × (mix rule2 a c bg ≤ mix rule1 a c bg + 1)
  unfolding mix
  rules_near = let f = falls a c bg ha hc hb in (omega arith, omega arith)

  -- By how many 255ths the blend without rounding is above a whole number decides which: with 1 to 127 they agree, with 128 or more
  -- they differ.
  pub rules_agree : 0 < total a c bg % 255 → total a c bg % 255 ≤ 127 → mix rule1 a c bg ≡ mix rule2 a c bg
  rules_agree l h = let f = falls a c bg ha hc hb in omega (arith, nearest_level a c bg)

  pub rules_differ : 128 ≤ total a c bg % 255 → mix rule2 a c bg ≡ mix rule1 a c bg + 1
  rules_differ h = let f = falls a c bg ha hc hb in omega (arith, nearest_level a c bg)

-- With none they may do either: 3 over 3 is 3 at alpha 64 by both, and 2 at alpha 65 by rule 1.
whole_agrees : mix rule1 64 3 3 ≡ 3
unfolding mix factor others of_int add sub mul div to_unsigned
whole_agrees = refl

pub whole_falls : mix rule1 65 3 3 ≡ 2
unfolding mix factor others of_int add sub mul div to_unsigned
whole_falls = refl
