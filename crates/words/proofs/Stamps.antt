-- Plots with XOR on, and inversions, are stamps: a stamp settles the top byte of a word or leaves it, and then flips bits below it. Any
-- two stamps commute, and one put on twice leaves what it settles. A format enters by its range, by whether it keeps alpha, and by
-- what its stamps flip.
use mathlib.Core.Path.{◌≡◌, refl, sym, ap, ◌∙◌}
use mathlib.Core.Bool.{Bool, true, false, cond, not, ◌&&◌}
use Prim.Native.Nat.{ℕ, ◌+◌, ◌*◌, ◌%◌, ◌≤◌, ◌<◌}
use native.Mathlib.Omega.{arith}
use native.Mathlib.Nat.{zero-add, mod-lt, mod-eq_of_lt}
use lib.Bits.{bit_xor, and_mask, xor_zero_r, xor_block, xor_mod, xor_lt}
use lib.Dec.{eqb}
use Rattle.words.specs.declared.Color.{Color}
use Rattle.words.specs.Format.{Format, rgb332, rgb565, rgb8, argb, abgr, none, range}
use Rattle.words.specs.Word.{from_color}
use Rattle.words.specs.Ink.{keeps_alpha, bare, xor_color, plot_word, inked, settled}
use Rattle.words.specs.Invert.{invert_word, invert_ink}
use Rattle.words.proofs.Laws.{Channels, fits, bare_fits, keep_all}
use Rattle.words.proofs.Invert.{invert-is}
use Rattle.words.proofs.Xor.{xor_swap, xor_back}

-- A word settled or not.
abbrev pub left : Format → Bool → ℕ → ℕ
left f s w = cond s (settled f w) w

abbrev pub stamp : Format → Bool → ℕ → ℕ → ℕ
stamp f s j w = bit_xor (left f s w) j

-- On the words of a format, g is a stamp that settles, or does not.
pub record Stamps (f : Format) (s : Bool) (g : ℕ → ℕ) : Type 0 where
  pub flips : ℕ
  pub below : flips < 16777216
  pub fits : flips < range f
  pub does : (w : ℕ) → w < range f → g w ≡ stamp f s flips w

-- ---- which stamps there are

-- Words without a top byte are settled as they are.
settled-below : (f : Format) (w : ℕ) → keeps_alpha f ≡ false → w < 16777216 → settled f w ≡ w
unfolding settled
settled-below f w e l = rw e (zero-add (w % 16777216) ∙ mod-eq_of_lt l)

pub settled_narrow : (f : Format) (w : ℕ) → range f ≤ 16777216 → w < range f → settled f w ≡ w
unfolding range keeps_alpha
settled_narrow rgb332 w l m = settled-below rgb332 w refl (omega (arith, m))
settled_narrow rgb565 w l m = settled-below rgb565 w refl (omega (arith, m))
settled_narrow rgb8 w l m = absurd (omega (arith, l))
settled_narrow argb w l m = absurd (omega (arith, l))
settled_narrow abgr w l m = absurd (omega (arith, l))
settled_narrow none w l m = settled-below none w refl (omega (arith, m))

-- Flipping bits below the top byte leaves it.
below_xor : (t j w : ℕ) → j < 16777216 → t * 16777216 + bit_xor (w % 16777216) j ≡ bit_xor (t * 16777216 + w % 16777216) j
below_xor t j w l =
    ap (λ (x : ℕ). x * 16777216 + bit_xor (w % 16777216) j) (sym (xor_zero_r t))
    ∙ sym (xor_block 24 t 0 (w % 16777216) j (mod-lt w (omega arith)) l)
    ∙ ap (bit_xor (t * 16777216 + w % 16777216)) (zero-add j)

pub xor_stamps : (f : Format) (c : Color) → Channels c → Stamps f (keeps_alpha f) (λ w. xor_color f w c)
unfolding xor_color keeps_alpha settled range from_color
xor_stamps rgb332 c h = record { flips = from_color rgb332 c; below = omega (arith, fits rgb332 c h); fits = fits rgb332 c h; does = λ w l. refl }
xor_stamps rgb565 c h = record { flips = from_color rgb565 c; below = omega (arith, fits rgb565 c h); fits = fits rgb565 c h; does = λ w l. refl }
xor_stamps rgb8 c h = record { flips = from_color rgb8 c; below = bare_fits rgb8 c h; fits = fits rgb8 c h; does = λ w l. refl }
xor_stamps argb c h =
    let b : from_color argb (bare c) < 16777216 = bare_fits argb c h in
    record { flips = from_color argb (bare c); below = b; fits = omega (arith, b); does = λ w l. below_xor 255 (from_color argb (bare c)) w b }
xor_stamps abgr c h =
    let b : from_color abgr (bare c) < 16777216 = bare_fits abgr c h in
    record { flips = from_color abgr (bare c); below = b; fits = omega (arith, b); does = λ w l. below_xor 255 (from_color abgr (bare c)) w b }
xor_stamps none c h = record { flips = from_color none c; below = omega (arith, fits none c h); fits = fits none c h; does = λ w l. refl }

positive : (f : Format) → 0 < range f
unfolding range
positive rgb332 = omega arith
positive rgb565 = omega arith
positive rgb8 = omega arith
positive argb = omega arith
positive abgr = omega arith
positive none = omega arith

-- A plot with XOR on settles where alpha is kept, unless its own is 0.
pub plot_stamps : (f : Format) (c : Color) → Channels c → Stamps f (not (eqb c.a 0) && keeps_alpha f) (plot_word f true c)
unfolding plot_word
plot_stamps f c h = by_alpha (eqb c.a 0)
  where
    by_alpha : (z : Bool) → Stamps f (not z && keeps_alpha f) (λ w. cond z w (xor_color f w c))
    by_alpha true = record { flips = 0; below = omega arith; fits = positive f; does = λ w l. sym (xor_zero_r w) }
    by_alpha false = xor_stamps f c h

-- Inversion settles where alpha is not kept, and flips all bits that hold colours.
pub invert_stamps : (f : Format) → Stamps f (not (keeps_alpha f)) (invert_word f)
unfolding inked invert_ink keeps_alpha settled range
invert_stamps rgb332 = record {
  flips = 255;
  below = omega arith;
  fits = omega arith;
  does = λ w l. sym (invert-is rgb332 w l) ∙ ap (λ (x : ℕ). bit_xor x 255) (keep_all rgb332 w l ∙ sym (settled-below rgb332 w refl (omega (arith, l))));
}
invert_stamps rgb565 = record {
  flips = 65535;
  below = omega arith;
  fits = omega arith;
  does = λ w l. sym (invert-is rgb565 w l) ∙ ap (λ (x : ℕ). bit_xor x 65535) (keep_all rgb565 w l ∙ sym (settled-below rgb565 w refl (omega (arith, l))));
}
invert_stamps rgb8 = record {
  flips = 16777215;
  below = omega arith;
  fits = omega arith;
  does = λ w l. sym (invert-is rgb8 w l) ∙ ap (λ (x : ℕ). bit_xor x 16777215) (and_mask w 24 ∙ sym (zero-add (w % 16777216)));
}
invert_stamps argb = record {
  flips = 16777215;
  below = omega arith;
  fits = omega arith;
  does = λ w l. sym (invert-is argb w l) ∙ ap (λ (x : ℕ). bit_xor x 16777215) (keep_all argb w l);
}
invert_stamps abgr = record {
  flips = 16777215;
  below = omega arith;
  fits = omega arith;
  does = λ w l. sym (invert-is abgr w l) ∙ ap (λ (x : ℕ). bit_xor x 16777215) (keep_all abgr w l);
}
invert_stamps none = record {
  flips = 0;
  below = omega arith;
  fits = omega arith;
  does = λ w l. sym (invert-is none w l) ∙ ap (λ (x : ℕ). bit_xor x 0) (keep_all none w l ∙ sym (settled-below none w refl (omega (arith, l))));
}

-- ---- the laws of stamps

-- Settling heeds no bits below the top byte.
top_xor : (t j w : ℕ) → j < 16777216 → t * 16777216 + bit_xor w j % 16777216 ≡ bit_xor (t * 16777216 + w % 16777216) j
top_xor t j w l =
    ap (λ (x : ℕ). t * 16777216 + x) (xor_mod w j 24 ∙ ap (bit_xor (w % 16777216)) (mod-eq_of_lt l)) ∙ below_xor t j w l

left_xor : (f : Format) (s : Bool) (j w : ℕ) → j < 16777216 → left f s (bit_xor w j) ≡ bit_xor (left f s w) j
unfolding settled
left_xor f true j w l = top_xor (cond (keeps_alpha f) 255 0) j w l
left_xor f false j w l = refl

same-top : (t w : ℕ) → t * 16777216 + (t * 16777216 + w % 16777216) % 16777216 ≡ t * 16777216 + w % 16777216
same-top t w = omega arith

-- What is settled stays.
pub settled_twice : (f : Format) (w : ℕ) → settled f (settled f w) ≡ settled f w
unfolding settled
settled_twice f w = same-top (cond (keeps_alpha f) 255 0) w

left_swap : (f : Format) (s t : Bool) (w : ℕ) → left f s (left f t w) ≡ left f t (left f s w)
left_swap f true true w = refl
left_swap f true false w = refl
left_swap f false t w = refl

left_twice : (f : Format) (s : Bool) (w : ℕ) → left f s (left f s w) ≡ left f s w
left_twice f true w = settled_twice f w
left_twice f false w = refl

stamp_swap : (f : Format) (s t : Bool) (j k w : ℕ) → j < 16777216 → k < 16777216 → stamp f s j (stamp f t k w) ≡ stamp f t k (stamp f s j w)
stamp_swap f s t j k w hj hk =
    ap (λ (x : ℕ). bit_xor x j) (left_xor f s k (left f t w) hk ∙ ap (λ (x : ℕ). bit_xor x k) (left_swap f s t w))
    ∙ xor_swap (left f t (left f s w)) k j
    ∙ ap (λ (x : ℕ). bit_xor x k) (sym (left_xor f t j (left f s w) hj))

stamp_twice : (f : Format) (s : Bool) (j w : ℕ) → j < 16777216 → stamp f s j (stamp f s j w) ≡ left f s w
stamp_twice f s j w h =
    ap (λ (x : ℕ). bit_xor x j) (left_xor f s j (left f s w) h) ∙ xor_back (left f s (left f s w)) j ∙ left_twice f s w

pub settled_fits : (f : Format) (w : ℕ) → w < range f → settled f w < range f
unfolding settled keeps_alpha range
settled_fits rgb332 w l = omega arith
settled_fits rgb565 w l = omega arith
settled_fits rgb8 w l = omega arith
settled_fits argb w l = omega arith
settled_fits abgr w l = omega arith
settled_fits none w l = omega arith

left_fits : (f : Format) (s : Bool) (w : ℕ) → w < range f → left f s w < range f
left_fits f true w l = settled_fits f w l
left_fits f false w l = l

xor_fits : (f : Format) (w j : ℕ) → w < range f → j < range f → bit_xor w j < range f
unfolding range
xor_fits rgb332 w j l m = xor_lt 8 w j l m
xor_fits rgb565 w j l m = xor_lt 16 w j l m
xor_fits rgb8 w j l m = xor_lt 32 w j l m
xor_fits argb w j l m = xor_lt 32 w j l m
xor_fits abgr w j l m = xor_lt 32 w j l m
xor_fits none w j l m = xor_lt 0 w j l m

module _ {f : Format} {s : Bool} {g : ℕ → ℕ} (p : Stamps f s g) where
  pub stamps_keep : (w : ℕ) → w < range f → g w < range f
  stamps_keep w l = rw (p.does w l) (xor_fits f (left f s w) p.flips (left_fits f s w l) p.fits)

  pub stamps_twice : (w : ℕ) → w < range f → g (g w) ≡ left f s w
  stamps_twice w l = p.does (g w) (stamps_keep w l) ∙ ap (stamp f s p.flips) (p.does w l) ∙ stamp_twice f s p.flips w p.below

pub stamps_swap : {f : Format} {s t : Bool} {g h : ℕ → ℕ} → Stamps f s g → Stamps f t h → (w : ℕ) → w < range f → g (h w) ≡ h (g w)
stamps_swap {f} {s} {t} {g} {h} p q w l =
    p.does (h w) (stamps_keep q w l) ∙ ap (stamp f s p.flips) (q.does w l)
    ∙ stamp_swap f s t p.flips q.flips w p.below q.below
    ∙ sym (q.does (g w) (stamps_keep p w l) ∙ ap (stamp f t q.flips) (p.does w l))

-- A plot keeps to the range.
pub plot-keeps : (f : Format) (x : Bool) (c : Color) (w : ℕ) → Channels c → w < range f → plot_word f x c w < range f
unfolding plot_word
plot-keeps f false c w h l = fits f c h
plot-keeps f true c w h l = stamps_keep (plot_stamps f c h) w l
