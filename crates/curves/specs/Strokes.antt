-- Strokes: how many steps one has, and the point at each. Definitions only.
use Rattle.std.specs.Prelude.{ℕ, zero, suc, ◌+◌, ◌*◌, min, max, List, [], ◌∷◌, map, ℤ, Float}
use Rattle.std.specs.Float.{binary32}
use Rattle.std.specs.Float.Ieee.{add, sub, mul}
use Rattle.floats.specs.Size.{one, abs_of, max_of}
use Rattle.floats.specs.Whole.{round_as, lifted, ceil_size}
use Rattle.angle.specs.declared.sine.SineCosine.{SineCosine}
use Rattle.angle.specs.Sine.{sine_cosine_of}
use Rattle.angle.specs.Stroke.{stroke_angle}
use Rattle.curves.specs.declared.oval.Oval.{Oval}

-- "A stroke has radius max(a,b,1)"
unfoldable pub stroke_radius : Oval → Float
stroke_radius o = max_of (max_of o.a o.b) one

-- "steps = 2*ceil(|sweep in radians| * radius) held between 1 and 16*max(width+height,1)"
unfoldable pub steps_of : Oval → Float → ℕ → ℕ → ℕ
steps_of o sweep width height = min (max (2 * ceil_size (mul binary32 (abs_of sweep) (stroke_radius o))) 1) (16 * max (width + height) 1)

pub record Spot : Type 0 where
  pub x : ℤ
  pub y : ℤ

-- "the point is cx + a*cos t, cy - b*sin t, rounded halves away from zero"
unfoldable pub x_at : Oval → Float → ℤ
x_at o cosine = round_as 31 (add binary32 o.cx (mul binary32 o.a cosine))

unfoldable pub y_at : Oval → Float → ℤ
y_at o sine = round_as 31 (sub binary32 o.cy (mul binary32 o.b sine))

unfoldable pub spot_of : Oval → SineCosine → Spot
spot_of o t = record { x = x_at o t.cosine; y = y_at o t.sine }

-- "for i from 0, t = start + (sweep*i)/steps in f32 radians"
unfoldable pub stroke_point : Oval → Float → Float → ℕ → ℕ → Spot
stroke_point o start sweep i steps = spot_of o (sine_cosine_of (stroke_angle start sweep i steps))

-- n of the angles, from the i-th on.
unfoldable pub angles_from : Float → Float → ℕ → ℕ → ℕ → List Float
angles_from start sweep steps i zero = []
angles_from start sweep steps i (suc n) = stroke_angle start sweep i steps ∷ angles_from start sweep steps (suc i) n

-- n of the points, from the i-th on; their columns and their rows, lifted.
unfoldable pub spots_from : Oval → Float → Float → ℕ → ℕ → ℕ → List Spot
spots_from o start sweep steps i zero = []
spots_from o start sweep steps i (suc n) = stroke_point o start sweep i steps ∷ spots_from o start sweep steps (suc i) n

abbrev pub columns : List Spot → List ℕ
columns ss = map (λ (s : Spot). lifted s.x) ss

abbrev pub rows : List Spot → List ℕ
rows ss = map (λ (s : Spot). lifted s.y) ss
