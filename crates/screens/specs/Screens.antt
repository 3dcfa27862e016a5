-- "The cases marked * are one proved table under a single theorem": the table, and what each kind of row says.
use Rattle.std.specs.Prelude.{◌≡◌, true, false, List, [], ◌∷◌, ℕ, ◌/◌, ◌%◌, ℤ, pos, negsuc, length}
use Rattle.words.specs.declared.Color.{Color}
use Rattle.words.specs.Format.{Format, rgb332, rgb565, rgb8, argb, abgr}
use Rattle.words.specs.Word.{color, from_color, to_color}
use Rattle.words.specs.Ink.{plot_word}
use Rattle.pixels.specs.declared.Canvas.{Canvas}
use Rattle.canvas.specs.declared.Clip.{Clip}
use Rattle.canvas.specs.Clip.{intersection}
use Rattle.canvas.specs.Plot.{Point, at, hits}
use Rattle.canvas.specs.Lines.{line}
use Rattle.canvas.specs.Call.{Call, draw_line, clip_of, plots as plotsOf}
use Rattle.lbmp.specs.File.{kind_of}
use Rattle.lbmp.specs.Image.{grey_color, color_at, word_under}

abbrev pub clip : ℕ → ℕ → ℕ → ℕ → Clip
clip x y w h = record { x = pos x; y = pos y; width = w; height = h }

-- A canvas of a byte a pixel, without tails, by rule 1.
abbrev pub small : ℕ → ℕ → Canvas
small w h = record { format = 0; width = w; height = h; row = w; xor = false; rule = 1 }

pub data Row : Type 0 where
  stores : Format → Color → ℕ → Row
  reads : Format → ℕ → Color → Row
  xors : Format → ℕ → Color → ℕ → Row
  meets : Clip → Clip → Clip → Row
  plots : Canvas → ℤ → ℤ → ℤ → ℤ → List Point → Row
  lands : Canvas → Call → ℕ → Row
  greys : ℕ → ℕ → Row
  masks : ℕ → ℕ → ℕ → Row

abbrev pub Holds : Row → Type 0
Holds (stores f c w) = from_color f c ≡ w
Holds (reads f w c) = to_color f w ≡ c
Holds (xors f w c w') = plot_word f true c w ≡ w'
Holds (meets c d e) = intersection c d ≡ e
Holds (plots v x1 y1 x2 y2 ps) = line v x1 y1 x2 y2 ≡ ps
Holds (lands v k n) = length (hits v (clip_of k) (plotsOf v k)) ≡ n
-- v is 2*high+low.
Holds (greys v g) = grey_color (v / 2) (v % 2) ≡ color 255 g g g
-- The only pixel of a file of this type, its byte under a mask bit.
Holds (masks kind byte w) = word_under 1 (color_at (kind_of kind) (byte ∷ []) 0 1 0) ≡ w

pub data Every : List Row → Type 0 where
  none : Every []
  also : {r : Row} {rs : List Row} → Holds r → Every rs → Every (r ∷ rs)

-- "Colour a=128, 200,100,50: 332 0xAD, 565 0xCB26, Rgb8 0x00C86432, ARGB 0x80C86432, ABGR 0x803264C8."
-- "0xAD reads 180,108,85. 0xCB26 reads 206,101,49."
-- "ARGB 0x00FF00FF XOR red: 0xFF0000FF; again: 0xFFFF00FF."
-- "Clips (0,0,10,10) and (5,6,10,10): (5,6,5,4). (0,0,4,4) and (10,0,4,4): (10,0,0,4)."
-- "Line (0,0) to (2,1): (0,0),(1,0),(2,1). Back: (2,1),(1,1),(0,0)."
-- "On 4x4, line (-10,1) to (10,1) lands 4."
-- "LBMP greys for 0,1,2,3: 255,170,85,0. Type 8 byte 0xAD under a mask bit: 0x00B46C55."
unfoldable pub table : List Row
table =
    stores rgb332 (color 128 200 100 50) 0xAD
    ∷ stores rgb565 (color 128 200 100 50) 0xCB26
    ∷ stores rgb8 (color 128 200 100 50) 0x00C86432
    ∷ stores argb (color 128 200 100 50) 0x80C86432
    ∷ stores abgr (color 128 200 100 50) 0x803264C8
    ∷ reads rgb332 0xAD (color 255 180 108 85)
    ∷ reads rgb565 0xCB26 (color 255 206 101 49)
    ∷ xors argb 0x00FF00FF (color 255 255 0 0) 0xFF0000FF
    ∷ xors argb 0xFF0000FF (color 255 255 0 0) 0xFFFF00FF
    ∷ meets (clip 0 0 10 10) (clip 5 6 10 10) (clip 5 6 5 4)
    ∷ meets (clip 0 0 4 4) (clip 10 0 4 4) (clip 10 0 0 4)
    ∷ plots (small 4 4) (pos 0) (pos 0) (pos 2) (pos 1) (at (pos 0) (pos 0) ∷ at (pos 1) (pos 0) ∷ at (pos 2) (pos 1) ∷ [])
    ∷ plots (small 4 4) (pos 2) (pos 1) (pos 0) (pos 0) (at (pos 2) (pos 1) ∷ at (pos 1) (pos 1) ∷ at (pos 0) (pos 0) ∷ [])
    ∷ lands (small 4 4) (draw_line (negsuc 9) (pos 1) (pos 10) (pos 1) (color 255 255 0 0) (clip 0 0 4 4)) 4
    ∷ greys 0 255
    ∷ greys 1 170
    ∷ greys 2 85
    ∷ greys 3 0
    ∷ masks 8 0xAD 0x00B46C55
    ∷ []
