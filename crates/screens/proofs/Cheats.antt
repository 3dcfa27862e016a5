-- "A build that refuses everything, paints one fixed screen, paints nothing, draws the first of a list and skips the rest, or
-- invents the count is shut out by demand 2": five theorems on the definition that the contracts of the calls cite.
use mathlib.Core.Path.{◌≡◌, refl, sym, ap, ◌∙◌}
use mathlib.Core.List.{List, [], ◌∷◌, flat_map}
use Prim.Native.Nat.{ℕ}
use native.Mathlib.Omega.{arith}
use lib.IntN.{pos}
use lib.ListN.{get_or}
use Rattle.words.specs.declared.Color.{Color}
use Rattle.words.specs.Format.{format_of, bytes_per_pixel}
use Rattle.words.specs.Word.{color, from_color}
use Rattle.words.specs.Ink.{plot_word}
use Rattle.pixels.specs.declared.Canvas.{Canvas}
use Rattle.pixels.specs.Bytes.{get, put, load, store, cells, pixel, pitch, extent, load_at, store_at}
use Rattle.canvas.specs.Clip.{within, in_clip}
use Rattle.canvas.specs.Faults.{format_fault, rule_fault, size_fault, row_fault, length_fault, or_else, first, verdict}
use Rattle.canvas.specs.Plot.{tint, dip, on_canvas, fate, hits}
use Rattle.pixels.specs.Hits.{touch, paint}
use Rattle.canvas.specs.Boxes.{select, fill}
use Rattle.canvas.specs.Call.{Call, put_pixel, fill_rect, dots, drawing, call}
use Rattle.canvas.specs.Calls.{after}
use Rattle.screens.specs.Screens.{clip, small}

abbrev pub white : Color
white = color 255 255 255 255

abbrev pub black : Color
black = color 255 0 0 0

-- a plot at a column of a row of two pixels, a byte each
abbrev pub on : ℕ → Color → Call
on x c = put_pixel (pos x) (pos 0) c (clip 0 0 2 1)

whitened : (call (small 2 1) (on 0 white) (0 ∷ 0 ∷ [])).bytes ≡ 255 ∷ 0 ∷ []
unfolding drawing verdict first format_fault rule_fault size_fault row_fault length_fault pitch extent format_of bytes_per_pixel or_else
    dots tint dip hits fate on_canvas in_clip within paint touch load_at store_at pixel cells load store get put plot_word from_color
whitened = refl

blackened : (call (small 2 1) (on 0 black) (0 ∷ 0 ∷ [])).bytes ≡ 0 ∷ 0 ∷ []
unfolding drawing verdict first format_fault rule_fault size_fault row_fault length_fault pitch extent format_of bytes_per_pixel or_else
    dots tint dip hits fate on_canvas in_clip within paint touch load_at store_at pixel cells load store get put plot_word from_color
blackened = refl

differ : ◌≡◌ {A = List ℕ} (255 ∷ 0 ∷ []) (0 ∷ 0 ∷ []) → ⊥
differ e = let z : ◌≡◌ {A = ℕ} 255 0 = ap (λ (l : List ℕ). get_or l 0 0) e in omega (arith, z)

-- paints one fixed screen: no bytes are what every call leaves
pub no_fixed_screen : (s : List ℕ) → ((v : Canvas) (k : Call) (b : List ℕ) → (call v k b).bytes ≡ s) → ⊥
no_fixed_screen s h = differ (sym whitened ∙ h (small 2 1) (on 0 white) (0 ∷ 0 ∷ []) ∙ sym (h (small 2 1) (on 0 black) (0 ∷ 0 ∷ [])) ∙ blackened)

-- paints nothing: some call changes the bytes
pub not_nothing : ((v : Canvas) (k : Call) (b : List ℕ) → (call v k b).bytes ≡ b) → ⊥
not_nothing h = differ (sym whitened ∙ h (small 2 1) (on 0 white) (0 ∷ 0 ∷ []))

-- draws the first of a list and skips the rest: of a box of two pixels both are painted, and of two calls both are made
pub not_the_first_alone : ((call (small 2 1) (fill_rect (pos 0) (pos 0) 2 1 white (clip 0 0 2 1)) (0 ∷ 0 ∷ [])).bytes ≡ 255 ∷ 255 ∷ [])
    × (after (small 2 1) (on 0 white ∷ on 1 white ∷ []) (0 ∷ 0 ∷ []) ≡ 255 ∷ 255 ∷ [])
unfolding after drawing verdict first format_fault rule_fault size_fault row_fault length_fault pitch extent format_of bytes_per_pixel
    or_else dots tint dip fill flat_map select hits fate on_canvas in_clip within paint touch load_at store_at pixel cells load store
    get put plot_word from_color
not_the_first_alone = (refl, refl)
