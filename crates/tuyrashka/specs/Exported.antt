-- How the records of include/tuyrashka.h name a canvas, a clip and a colour, and how answers read in them. A record that is lent is
-- the list of its words; where a field stands in it is said here alone.
use Rattle.std.specs.Prelude.{Bool, true, false, not, List, [], ◌∷◌, ℕ, eqb, ℤ, get_or, Option, Some, None}
use Rattle.std.specs.Int.{w32}
use Rattle.std.proofs.Common.{to_z, of_z}
use Rattle.words.specs.declared.Color.{Color}
use Rattle.words.specs.Format.{argb}
use Rattle.words.specs.Word.{from_color, to_color}
use Rattle.pixels.specs.declared.Canvas.{Canvas}
use Rattle.canvas.specs.declared.Clip.{Clip}
use Rattle.canvas.specs.Call.{Outcome}
use Rattle.canvas.specs.Look.{Reading}
use Rattle.lbmp.specs.Call as lbmp
use Rattle.res.specs.Search as res

-- struct tuyrashka_canvas; XOR is on where its word is not 0.
unfoldable pub canvas_of : List ℕ → Canvas
canvas_of r = record {
  format = get_or r 0 0;
  width = get_or r 1 0;
  height = get_or r 2 0;
  xor = not (eqb (get_or r 3 0) 0);
  row = get_or r 4 0;
  rule = get_or r 5 0;
}

-- An image that is drawn from is a canvas too; its XOR switch says nothing.
unfoldable pub source_of : List ℕ → Canvas
source_of r = let c = canvas_of r in record { format = c.format; width = c.width; height = c.height; row = c.row; xor = false; rule = c.rule }

-- The bits of an i32.
abbrev pub bits_of : ℤ → ℕ
bits_of z = of_z w32 z

-- struct tuyrashka_clip; its corner is two i32, each with the bits of its word.
unfoldable pub clip_of : List ℕ → Clip
clip_of r = record { x = to_z w32 (get_or r 0 0); y = to_z w32 (get_or r 1 0); width = get_or r 2 0; height = get_or r 3 0 }

unfoldable pub words_of : Clip → List ℕ
words_of c = bits_of c.x ∷ bits_of c.y ∷ c.width ∷ c.height ∷ []

-- A colour is a word of the format ARGB.
abbrev pub color_of : ℕ → Color
color_of w = to_color argb w

-- struct tuyrashka_drawn.
abbrev pub drawn_of : ℕ → List ℕ
drawn_of landed = landed ∷ []

-- struct tuyrashka_size.
abbrev pub size_of : ℕ → ℕ → List ℕ
size_of w h = w ∷ h ∷ []

-- What a drawing call returns, the record it gives back, and what the lent bytes hold then.
unfoldable pub gives : Outcome → ℕ × (List ℕ × List ℕ)
gives o = (o.status, (drawn_of o.count, o.bytes))

-- What get_pixel returns, whether a pixel is there, and its colour's word or 0.
abbrev pub tell : ℕ → Option Color → ℕ × (Bool × ℕ)
tell s None = (s, (false, 0))
tell s (Some c) = (s, (true, from_color argb c))

unfoldable pub tells : Reading → ℕ × (Bool × ℕ)
tells r = tell r.status r.color

-- What decode_lbmp returns, the sides, the transparent count, and what the lent words hold then.
unfoldable pub gives_bitmap : lbmp.Outcome → ℕ × (List ℕ × (ℕ × List ℕ))
gives_bitmap o = let a = o.answer in (a.status, (size_of a.width a.height, (a.clear, o.words)))

-- What decode_res returns, where the pixels start, and the sides.
unfoldable pub gives_icon : res.Reading → ℕ × (ℕ × List ℕ)
gives_icon a = (a.status, (a.start, size_of a.width a.height))
