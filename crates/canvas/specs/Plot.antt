-- Plots: where they land, and which hits they are then.
use Rattle.std.specs.Prelude.{ℕ, Bool, true, false, ◌&&◌, List, [], ◌∷◌, map, ℤ, pos, unsigned_abs}
use Rattle.words.specs.declared.Color.{Color}
use Rattle.pixels.specs.declared.Canvas.{Canvas}
use Rattle.canvas.specs.declared.Clip.{Clip}
use Rattle.pixels.specs.Hits.{Hit, hit}
use Rattle.canvas.specs.Clip.{within, in_clip}

-- A shape is a list of points, on the canvas or off it.
pub record Point : Type 0 where
  pub x : ℤ
  pub y : ℤ

abbrev pub at : ℤ → ℤ → Point
at x y = record { x = x; y = y }

-- A point, and what becomes of the word stored there.
pub record Plot : Type 0 where
  pub x : ℤ
  pub y : ℤ
  pub ink : ℕ → ℕ

abbrev pub plot : (ℕ → ℕ) → ℤ → ℤ → Plot
plot f x y = record { x = x; y = y; ink = f }

-- A plot with one ink at each of the points.
unfoldable pub inks : (ℕ → ℕ) → List Point → List Plot
inks f ps = map (λ p. plot f p.x p.y) ps

-- What is put on a point: a colour plotted, a colour drawn over what is there, or the complement of what is there.
pub data Dye : Type 0 where
  plain : Color → Dye
  over : Color → Dye
  inverse : Dye

-- A point, and what is put on it.
pub record Dot : Type 0 where
  pub x : ℤ
  pub y : ℤ
  pub dye : Dye

abbrev pub dot : Dye → ℤ → ℤ → Dot
dot d x y = record { x = x; y = y; dye = d }

unfoldable pub tint : Dye → List Point → List Dot
tint d ps = map (λ p. dot d p.x p.y) ps

-- The plots of dots, by what a dye makes of the word stored.
unfoldable pub dip : (Dye → ℕ → ℕ) → List Dot → List Plot
dip g ds = map (λ d. plot (g d.dye) d.x d.y) ds

unfoldable pub on_canvas : Canvas → ℤ → ℤ → Bool
on_canvas v x y = within (pos 0) v.width x && within (pos 0) v.height y

-- What becomes of a plot.
pub data Fate : Type 0 where
  landed : Fate
  outside : Fate
  clipped : Fate

abbrev pub judge : Bool → Bool → Fate
judge true true = landed
judge true false = clipped
judge false t = outside

-- "The canvas bound is tested, then the clip"
unfoldable pub fate : Canvas → Clip → Plot → Fate
fate v c p = judge (on_canvas v p.x p.y) (in_clip c p.x p.y)

abbrev pub hit_of : Plot → Hit
hit_of p = hit p.ink (unsigned_abs p.x) (unsigned_abs p.y)

abbrev pub keep : Fate → Hit → List Hit → List Hit
keep landed h hs = h ∷ hs
keep outside h hs = hs
keep clipped h hs = hs

-- "plots that land on the canvas and inside the clip", in order
unfoldable pub hits : Canvas → Clip → List Plot → List Hit
hits v c [] = []
hits v c (p ∷ ps) = keep (fate v c p) (hit_of p) (hits v c ps)
