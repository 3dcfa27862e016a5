-- What the contracts of the inner functions speak of parts of a canvas by; no public contract cites this file.
use Rattle.std.specs.Prelude.{◌≡◌, List, ℕ, ℤ, ◌+◌, ◌-◌, ◌≤◌, ◌<◌, nat_abs}
use Rattle.pixels.specs.declared.Canvas.{Canvas}
use Rattle.pixels.specs.Hits.{Hit}
use Rattle.pixels.specs.Rows.{run, field}
use Rattle.canvas.specs.declared.Clip.{Clip}
use Rattle.canvas.specs.Plot.{hits}
use Rattle.canvas.specs.Boxes.{spots, source_of, shown}
use Rattle.images.specs.declared.parts.Part.{Part}

-- A hit on each pixel of a part, row by row.
abbrev pub filled : (ℕ → ℕ → ℕ → ℕ) → Part → List Hit
filled f p = field f (run p.x p.w) (run p.y p.h)

-- A part is on the canvas, and what it is taken from on the source.
pub record Placed (v s : Canvas) (p : Part) : Type 0 where
  pub wide : p.x + p.w ≤ v.width
  pub high : p.y + p.h ≤ v.height
  pub columns : p.sx + p.w ≤ s.width
  pub rows : p.sy + p.h ≤ s.height

-- What a box shows: of plots at its pixels those of the part land, and each pixel's source is as far from sx and sy as the pixel from x and y.
pub record Shows (v s : Canvas) (dx dy sx sy : ℤ) (w h : ℕ) (c : Clip) (p : Part) : Type 0 where
  pub lands : (f : ℕ → ℕ → ℕ → ℕ) → hits v c (spots f (shown dx sx w s.width v.width) (shown dy sy h s.height v.height)) ≡ filled f p
  pub column : (i : ℕ) → p.x ≤ i → i < p.x + p.w → nat_abs (source_of dx sx i) ≡ p.sx + (i - p.x)
  pub row : (j : ℕ) → p.y ≤ j → j < p.y + p.h → nat_abs (source_of dy sy j) ≡ p.sy + (j - p.y)
