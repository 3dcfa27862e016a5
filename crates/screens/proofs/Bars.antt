-- A menu bar of one pixel, inverted, and an XOR box over it; then both again, in the other order: the two exceptions, computed.
use mathlib.Core.Path.{◌≡◌, refl}
use mathlib.Core.Bool.{true}
use mathlib.Core.List.{List, [], ◌∷◌, flat_map}
use Prim.Native.Nat.{ℕ}
use lib.IntN.{pos}
use Rattle.words.specs.Format.{format_of, bytes_per_pixel}
use Rattle.words.specs.Word.{color, from_color, to_color}
use Rattle.words.specs.Ink.{keeps_alpha, xor_color, plot_word}
use Rattle.words.specs.Invert.{invert_word}
use Rattle.pixels.specs.declared.Canvas.{Canvas}
use Rattle.pixels.specs.Bytes.{get, put, load, store, cells, pixel, pitch, extent, load_at, store_at}
use Rattle.pixels.specs.Hits.{touch, paint}
use Rattle.canvas.specs.Clip.{within, in_clip}
use Rattle.canvas.specs.Faults.{format_fault, rule_fault, size_fault, row_fault, length_fault, or_else, first, verdict}
use Rattle.canvas.specs.Plot.{tint, dip, on_canvas, fate, hits}
use Rattle.canvas.specs.Boxes.{select, fill}
use Rattle.canvas.specs.Call.{Call, fill_rect, invert_rect, dots, drawing}
use Rattle.canvas.specs.Calls.{after}
use Rattle.screens.specs.Screens.{clip}

-- one pixel of four bytes, with XOR on
abbrev pub one : ℕ → Canvas
one f = record { format = f; width = 1; height = 1; row = 1; xor = true; rule = 1 }

abbrev pub bar : Call
bar = invert_rect (pos 0) (pos 0) 1 1 (clip 0 0 1 1)

abbrev pub box : Call
box = fill_rect (pos 0) (pos 0) 1 1 (color 128 200 100 50) (clip 0 0 1 1)

-- what the bytes 1, 2, 3, 4 are after these calls
abbrev pub left : ℕ → List Call → List ℕ
left f ks = after (one f) ks (1 ∷ 2 ∷ 3 ∷ 4 ∷ [])

-- Rgb8's top byte ends at 0 under the bar, and comes back under the box alone; ARGB's alpha ends at 255 under the box, and comes back under
-- the bar alone
pub bars : (left 2 (bar ∷ box ∷ box ∷ bar ∷ []) ≡ 1 ∷ 2 ∷ 3 ∷ 0 ∷ []) × (left 2 (box ∷ box ∷ []) ≡ 1 ∷ 2 ∷ 3 ∷ 4 ∷ [])
    × (left 3 (bar ∷ box ∷ box ∷ bar ∷ []) ≡ 1 ∷ 2 ∷ 3 ∷ 255 ∷ []) × (left 3 (bar ∷ bar ∷ []) ≡ 1 ∷ 2 ∷ 3 ∷ 4 ∷ [])
unfolding after drawing verdict first format_fault rule_fault size_fault row_fault length_fault pitch extent format_of bytes_per_pixel or_else dots tint dip fill flat_map select
    hits fate on_canvas in_clip within paint touch load_at store_at pixel cells load store get put
    keeps_alpha xor_color plot_word invert_word from_color to_color
bars = (refl, refl, refl, refl)
