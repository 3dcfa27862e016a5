-- At alpha 255 the mixed channels are the colour's own under both rules, since its factor is 1 and the rest 0: so `over` needs no test
-- of alpha.
use mathlib.Core.Path.{◌≡◌, refl, sym, ap, ◌∙◌}
use mathlib.Core.Bool.{Bool, true, false, cond, true≢false}
use Prim.Native.Nat.{ℕ, ◌+◌, ◌*◌, ◌/◌, ◌<◌}
use native.Mathlib.Nat.{mul-one, mul-div_cancel}
use native.Mathlib.Omega.{arith}
use lib.Dec.{T, eqb, eqb→eq, lit<}
use lib.IntN.{pos}
use lib.Ieee.{Float, nan, inf, fin, binary32, up, down, round, add, sub, mul, div, of_int, to_unsigned}
use lib.Ieee.Fits.{down_pos}
use lib.Ieee.Exact.{HasValue}
use lib.Ieee.Scale.{round_same}
use Rattle.floats.specs.Size.{plus_zero}
use Rattle.floats.specs.Whole.{as_u8}
use Rattle.words.specs.declared.Color.{Color}
use Rattle.words.specs.Word.{color}
use Rattle.words.proofs.Laws.{Channels}
use Rattle.blending.specs.Blend.{channel, factor, others, Rule, rule1, rule2, mix, over}
use Rattle.blending.specs.Inner.{mixed}
use Rattle.blending.proofs.Held.{channel-value}

abbrev one : Float
one = fin false 1 (pos 0)

opaque_factor : factor 255 ≡ one
unfolding factor div of_int
opaque_factor = refl

opaque_others : others 255 ≡ plus_zero
unfolding others sub factor div of_int
opaque_others = refl

-- A whole number by 1, by 0, with 0 added, and cut.
by_one : (x : Float) (n : ℕ) → HasValue x false n 1 → mul binary32 x one ≡ round binary32 false n 1
unfolding mul
by_one nan n v = absurd v
by_one (inf s) n v = absurd v
by_one (fin true m e) n v = absurd (true≢false v.0)
by_one (fin false m e) n v = round_same binary32 false (m * up e * (1 * 1)) (down e * 1) n 1 (omega (arith, down_pos e)) (lit< tt) (omega (arith, v.1))

by_zero : (x : Float) (n : ℕ) → HasValue x false n 1 → mul binary32 x plus_zero ≡ plus_zero
unfolding mul
by_zero nan n v = absurd v
by_zero (inf s) n v = absurd v
by_zero (fin true m e) n v = absurd (true≢false v.0)
by_zero (fin false m e) n v = round_same binary32 false (m * up e * (0 * 1)) (down e * 1) 0 1 (omega (arith, down_pos e)) (lit< tt) (omega arith)

and_zero : (x : Float) (n : ℕ) → HasValue x false n 1 → add binary32 x plus_zero ≡ round binary32 false n 1
unfolding add
and_zero nan n v = absurd v
and_zero (inf s) n v = absurd v
and_zero (fin true m e) n v = absurd (true≢false v.0)
and_zero (fin false m e) n v = round_same binary32 false (m * up e * 1 + 0 * 1 * down e) (down e * 1) n 1 (omega (arith, down_pos e)) (lit< tt) (omega (arith, v.1))

cut_back : (x : Float) (n : ℕ) → n < 256 → HasValue x false n 1 → as_u8 x ≡ n
unfolding to_unsigned
cut_back nan n h v = absurd v
cut_back (inf s) n h v = absurd v
cut_back (fin true m e) n h v = absurd (true≢false v.0)
cut_back (fin false m e) n h v =
    let q : m * up e / down e ≡ n = ap (λ (x : ℕ). x / down e) (sym (mul-one (m * up e)) ∙ v.1) ∙ mul-div_cancel n (down_pos e) in
    rw q (omega arith)

whole : (c bg : ℕ) → (c * 255 + bg * 0 + 127) / 255 ≡ c
whole c bg = omega arith

pub mix_opaque : (k : Rule) (c bg : ℕ) → c < 256 → bg < 256 → mix k 255 c bg ≡ c
unfolding mix of_int
mix_opaque rule2 c bg hc hb = whole c bg
mix_opaque rule1 c bg hc hb =
    let v = channel-value c (omega arith) in
    rw (opaque_factor, opaque_others, by_one (channel c) c v, by_zero (channel bg) bg (channel-value bg (omega arith)), and_zero (channel c) c v)
    (cut_back (channel c) c hc v)

own : (k : Rule) (a c bg : ℕ) → a ≡ 255 → c < 256 → bg < 256 → c ≡ mix k a c bg
own k a c bg e hc hb = rw e (sym (mix_opaque k c bg hc hb))

pub fields : (c : Color) {a r g b : ℕ} → c.a ≡ a → c.r ≡ r → c.g ≡ g → c.b ≡ b → c ≡ color a r g b
fields c p q s t = rw (← p, ← q, ← s, ← t)

over-mixed :
    (k : Rule) (c b : Color) → Channels c → Channels b →
    over k c b ≡ color 255 (mix k c.a c.r b.r) (mix k c.a c.g b.g) (mix k c.a c.b b.b)
unfolding over
over-mixed k c b hc hb = go (eqb c.a 255) (eqb→eq c.a 255)
  where
    whole : Color
    whole = color 255 (mix k c.a c.r b.r) (mix k c.a c.g b.g) (mix k c.a c.b b.b)

    go : (t : Bool) → (T t → c.a ≡ 255) → cond t c whole ≡ whole
    go true f =
        let e = f tt in
        fields c e (own k c.a c.r b.r e hc.r hb.r) (own k c.a c.g b.g e hc.g hb.g) (own k c.a c.b b.b e hc.b hb.b)
    go false f = refl

-- What is mixed by a colour's alpha and its two factors is that colour over the other.
pub mixed-over :
    (k : Rule) (c b : Color) → Channels c → Channels b → {a : ℕ} {p q : Float} {r g l : ℕ} → a ≡ c.a → p ≡ factor c.a → q ≡ others c.a →
    r ≡ mixed k a p q c.r b.r → g ≡ mixed k a p q c.g b.g → l ≡ mixed k a p q c.b b.b → color 255 r g l ≡ over k c b
unfolding mixed mix
mixed-over rule1 c b hc hb ea ep eq er eg el = rw (er, eg, el, ep, eq) (sym (over-mixed rule1 c b hc hb))
mixed-over rule2 c b hc hb ea ep eq er eg el = rw (er, eg, el, ea) (sym (over-mixed rule2 c b hc hb))

-- A background enters by its three channels alone.
pub over-read : (k : Rule) (c b d : Color) → b.r ≡ d.r → b.g ≡ d.g → b.b ≡ d.b → over k c b ≡ over k c d
unfolding over
over-read k c b d p q s = rw (p, q, s)
