-- Area copy: "`copy_area` and `invert_rect` ignore XOR."; a copy is no drawing that a second one takes away.
-- "Both clear the top byte of Rgb8 pixels they write", since they go through the colour.
use Rattle.std.specs.Prelude.{List, [], ◌∷◌, ℕ, ℤ, nat_abs, length}
use Rattle.words.specs.Word.{from_color, to_color}
use Rattle.pixels.specs.declared.Canvas.{Canvas}
use Rattle.canvas.specs.declared.Clip.{Clip}
use Rattle.pixels.specs.Bytes.{form, load_at}
use Rattle.canvas.specs.Faults.{verdict}
use Rattle.canvas.specs.Boxes.{spots, source_of, shown}
use Rattle.canvas.specs.Call.{Outcome, drawing}

-- The word at a source point, through the colour, in place of the word stored.
abbrev pub copied : Canvas → List ℕ → ℤ → ℤ → ℤ → ℤ → ℕ → ℕ → ℕ → ℕ
copied v b dx dy sx sy i j w = from_color (form v) (to_color (form v) (load_at v b (nat_abs (source_of dx sx i)) (nat_abs (source_of dy sy j))))

-- "Area copy answers as if every source pixel had been read before any was written, skipping source points off the canvas."
unfoldable pub copy_area : Canvas → ℤ → ℤ → ℤ → ℤ → ℕ → ℕ → Clip → List ℕ → Outcome
copy_area v dx dy sx sy w h c b =
    drawing (verdict v (length b)) v c
    (spots (copied v b dx dy sx sy) (shown dx sx w v.width v.width) (shown dy sy h v.height v.height)) b

-- An outcome, and its count in a record of one number.
abbrev pub counted : Outcome → Outcome × List ℕ
counted o = (o, o.count ∷ [])
