-- What the contracts of the inner functions of strokes, pies, round fills and round outlines speak of; no public contract cites this file.
use Rattle.std.specs.Prelude.{◌≡◌, ℕ, zero, suc, ◌+◌, ◌-◌, ◌<◌, ◌≤◌, Bool, false, cond, not, ◌&&◌, List, [], ◌∷◌, ◌++◌, length, pos, slice_index, Float}
use mathlib.Core.List.{flat_map}
use Rattle.angle.specs.Stroke.{radians}
use Rattle.curves.specs.declared.corners.Corners.{Corners}
use Rattle.curves.specs.Corners.{corner_of}
use Rattle.curves.specs.declared.bulges.Side.{Side}
use Rattle.curves.specs.Bulges.{part_on, has_at, Sided}
use Rattle.curves.specs.declared.pies.Pie.{Pie}
use Rattle.curves.specs.Pies.{is_all, degrees_of, covers, Asked}
use Rattle.pixels.specs.declared.Canvas.{Canvas}
use Rattle.canvas.specs.Plot.{Point, at}
use Rattle.canvas.specs.Boxes.{side}
use Rattle.ovals.specs.declared.runs.Region.{Region}
use Rattle.ovals.specs.Curves.{sieve}
use Rattle.ovals.specs.Strokes.{stroke}
use Rattle.pixels.specs.Hits.{Hit, paint}
use Rattle.pixels.specs.Rows.{mark, flat}
use Rattle.canvas.specs.Walk.{lowered, plus, Work, work}

-- A hit on a pixel that passes a test, and those of a part of a row and of a box.
unfoldable pub sift : (ℕ → ℕ → Bool) → (ℕ → ℕ) → ℕ → ℕ → List Hit
sift t f y x = cond (t x y) (mark (flat f) y x) []

abbrev pub sifts : (ℕ → ℕ → Bool) → (ℕ → ℕ) → List ℕ → ℕ → List Hit
sifts t f xs y = flat_map (sift t f y) xs

abbrev pub sifted : (ℕ → ℕ → Bool) → (ℕ → ℕ) → List ℕ → List ℕ → List Hit
sifted t f xs ys = flat_map (sifts t f xs) ys

-- What hits make of the bytes and of the tally.
abbrev pub land : Canvas → List Hit → Work → Work
land v hs w = work (paint v hs w.bytes) (plus w.tally (length hs))

-- The two upper or lower quarters at the corners of a round rectangle, from these angles in radians.
abbrev pub half : Canvas → Corners → Bool → Float → Float → List Point
half v c low first second =
    let quarter = radians (pos 90) in
    stroke v (corner_of c (not low) low) first quarter ++ stroke v (corner_of c low low) second quarter

-- n of the points with these columns and rows, which are lifted, from the k-th on.
unfoldable pub spots_at : List ℕ → List ℕ → ℕ → ℕ → List Point
spots_at ps qs k zero = []
spots_at ps qs k (suc n) = at (lowered (slice_index ps k)) (lowered (slice_index qs k)) ∷ spots_at ps qs (suc k) n

-- Whether a region with these sides, its corner lifted, and with the sweep of this pie takes a pixel.
abbrev pub region_at : Side → Side → Pie → ℕ → ℕ → ℕ → ℕ → Bool
region_at sx sy k p q i j = has_at sx (part_on sy (j + 2147483648 - q)) (i + 2147483648 - p) && covers k i j

-- The places from x0 up to x1 are among the n from a lifted one on.
pub record Lies (p n x0 x1 : ℕ) : Type 0 where
  pub begins : x0 < x1 → p ≤ x0 + 2147483648
  pub ends : x0 < x1 → x1 + 2147483648 ≤ p + n

-- Of a part sweep: its degrees are known, and it may be asked for the pixels of a box with a lifted corner.
pub record Asks (k : Pie) (p w q h : ℕ) : Type 0 where
  pub degrees : is_all k.sweep ≡ false → k.degrees ≡ degrees_of k.sweep
  pub asked : is_all k.sweep ≡ false → (i j : ℕ) → i ≤ 32767 → j ≤ 32767
      → p ≤ i + 2147483648 → i + 2147483648 < p + w → q ≤ j + 2147483648 → j + 2147483648 < q + h → Asked k i j

-- Whether a region takes a pixel, and its points on a canvas.
abbrev pub takes : Region → ℕ → ℕ → Bool
takes r = region_at r.sx r.sy r.pie r.p r.q

abbrev pub plots : Canvas → Region → List Point
plots v r = sieve (takes r) (side (lowered r.p) r.sx.count v.width) (side (lowered r.q) r.sy.count v.height)

-- What may be counted on of a region.
pub record Bounded (r : Region) : Type 0 where
  pub left : r.p < 17179869184
  pub top : r.q < 17179869184
  pub columns : Sided r.sx
  pub rows : Sided r.sy
  pub asks : Asks r.pie r.p r.sx.count r.q r.sy.count
