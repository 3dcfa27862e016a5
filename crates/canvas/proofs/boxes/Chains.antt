-- Shapes drawn one after the other: their plots, how many they are, and the room for them.
use Rattle.std.proofs.Common.{◌≡◌, ℕ, ◌+◌, ◌-◌, ◌*◌, ◌<◌, ◌≤◌, List, ◌++◌, length, ℤ, pos, ◌+ℤ◌, sym, ap, append_assoc, arith, length-append}
use Rattle.pixels.specs.declared.Canvas.{Canvas}
use Rattle.canvas.specs.declared.Clip.{Clip}
use Rattle.canvas.specs.declared.Tally.{Tally}
use Rattle.pixels.specs.Bytes.{Sized}
use Rattle.canvas.specs.Plot.{Point, Plot, inks}
use Rattle.canvas.specs.Boxes.{fill, edges}
use Rattle.canvas.specs.Walk.{lowered, Work, work, Ready, Did}
use Rattle.canvas.proofs.plot.Draws.{did_append, did_length, drawn_grows, ready_front, ready_back}
use Rattle.canvas.proofs.plot.Paints.{inks-length}
use Rattle.pixels.proofs.bytes.Pixels.{sized-length}
use Rattle.canvas.proofs.boxes.Boxes.{inks-append, fill-le}
use Rattle.canvas.proofs.boxes.Outline.{lowered-add}

-- one list of points for another
pub did_same : {v : Canvas} {c : Clip} {w w' : Work} (f : ℕ → ℕ) (ps qs : List Point) → ps ≡ qs → Did v c (inks f qs) w w' → Did v c (inks f ps) w w'
did_same f ps qs e d = rw e d

pub ready_same : {v : Canvas} {c : Clip} {w : Work} (f : ℕ → ℕ) (ps qs : List Point) → ps ≡ qs → Ready v c (inks f ps) w → Ready v c (inks f qs) w
ready_same f ps qs e r = rw e at r

pub then : {v : Canvas} {c : Clip} (f : ℕ → ℕ) (ps qs : List Point) {w w' w'' : Work} → Did v c (inks f ps) w w' → Did v c (inks f qs) w' w'' → Did v c (inks f (ps ++ qs)) w w''
then f ps qs d e = rw (inks-append f ps qs) (did_append (inks f ps) (inks f qs) d e)

-- what the first of two shapes may count on, and the second after it
pub ready_first : {v : Canvas} {c : Clip} (f : ℕ → ℕ) (ps qs : List Point) {w : Work} → Ready v c (inks f (ps ++ qs)) w → Ready v c (inks f ps) w
ready_first f ps qs r = ready_front (inks f ps) (inks f qs) (rw (inks-append f ps qs) at r)

pub ready_then : {v : Canvas} {c : Clip} (f : ℕ → ℕ) (ps qs : List Point) {w w' : Work} → Did v c (inks f ps) w w' → Ready v c (inks f (ps ++ qs)) w → Ready v c (inks f qs) w'
ready_then f ps qs d r = ready_back d (rw (inks-append f ps qs) at r)

-- at most so many more have landed
pub did_le : {v : Canvas} {c : Clip} (f : ℕ → ℕ) (ps : List Point) {w w' : Work} → Did v c (inks f ps) w w' → w'.tally.landed ≤ w.tally.landed + length ps
did_le {v} {c} f ps {w} d = omega (arith, ap (λ (x : Work). x.tally.landed) d.same, (drawn_grows v c (inks f ps) w).1, inks-length f ps)

pub ready_room : {v : Canvas} {c : Clip} (f : ℕ → ℕ) (ps : List Point) {b : List ℕ} {t : Tally} → Sized v b → t.landed + length ps < 18446744073709551616 → Ready v c (inks f ps) (work b t)
ready_room {v} {c} f ps {b} {t} s l = record { sized = s; room = omega (arith, (drawn_grows v c (inks f ps) (work b t)).1, inks-length f ps) }

pub did_sized : {v : Canvas} {c : Clip} {ps : List Plot} {w w' : Work} → Did v c ps w w' → Sized v w.bytes → Sized v w'.bytes
did_sized d s = sized-length (did_length d) s

-- ---- the four edges, two and two

module _ (v : Canvas) (c : Clip) (f : ℕ → ℕ) (p q w h rx ry l m : ℕ) (el : l ≡ w - 2 * rx) (em : m ≡ h - 2 * ry) where
  abbrev rows : List Point
  rows = fill v (lowered (p + rx)) (lowered q) l 1 ++ fill v (lowered (p + rx)) (lowered (q + (h - 1))) l 1

  abbrev columns : List Point
  columns = fill v (lowered p) (lowered (q + ry)) 1 m ++ fill v (lowered (p + (w - 1))) (lowered (q + ry)) 1 m

  edges_are : edges v (lowered p) (lowered q) w h rx ry ≡ rows ++ columns
  unfolding edges
  edges_are =
      rw (lowered-add p rx, lowered-add q (h - 1), lowered-add q ry, lowered-add p (w - 1), ← el, ← em)
      (sym (append_assoc (fill v (lowered (p + rx)) (lowered q) l 1) (fill v (lowered (p + rx)) (lowered (q + (h - 1))) l 1) columns))

  pub rows_ready : {a : Work} → Ready v c (inks f (edges v (lowered p) (lowered q) w h rx ry)) a → Ready v c (inks f rows) a
  rows_ready r = ready_first f rows columns (rw edges_are at r)

  pub columns_ready : {a a1 : Work} → Did v c (inks f rows) a a1 → Ready v c (inks f (edges v (lowered p) (lowered q) w h rx ry)) a → Ready v c (inks f columns) a1
  columns_ready d r = ready_then f rows columns d (rw edges_are at r)

  pub edges_did : {a a1 a2 : Work} → Did v c (inks f rows) a a1 → Did v c (inks f columns) a1 a2 → Did v c (inks f (edges v (lowered p) (lowered q) w h rx ry)) a a2
  edges_did d e = rw edges_are (then f rows columns d e)

pub edges_le : (v : Canvas) (x y : ℤ) (w h rx ry : ℕ) → v.width ≤ 32767 → v.height ≤ 32767 → length (edges v x y w h rx ry) ≤ 4294705156
unfolding edges
edges_le v x y w h rx ry hw hh =
    let f1 = fill v (x +ℤ pos rx) y (w - 2 * rx) 1 in
    let f2 = fill v (x +ℤ pos rx) (y +ℤ pos (h - 1)) (w - 2 * rx) 1 in
    let f3 = fill v x (y +ℤ pos ry) 1 (h - 2 * ry) in
    let f4 = fill v (x +ℤ pos (w - 1)) (y +ℤ pos ry) 1 (h - 2 * ry) in
    omega (
      arith,
      length-append f1 (f2 ++ (f3 ++ f4)),
      length-append f2 (f3 ++ f4),
      length-append f3 f4,
      fill-le v (x +ℤ pos rx) y (w - 2 * rx) 1 hw hh,
      fill-le v (x +ℤ pos rx) (y +ℤ pos (h - 1)) (w - 2 * rx) 1 hw hh,
      fill-le v x (y +ℤ pos ry) 1 (h - 2 * ry) hw hh,
      fill-le v (x +ℤ pos (w - 1)) (y +ℤ pos ry) 1 (h - 2 * ry) hw hh,
    )
