-- Of a canvas a call looks at the sides: where it plots, and which of its plots land, hangs on nothing else.
use Rattle.std.proofs.Common.{◌≡◌, List, [], ◌∷◌, refl, ap}
use Rattle.pixels.specs.declared.Canvas.{Canvas}
use Rattle.canvas.specs.declared.Clip.{Clip}
use Rattle.canvas.specs.Plot.{Plot, on_canvas, fate, hit_of, keep, hits}
use Rattle.canvas.specs.Call.{Call, shape, draw, dots}

-- the sides of one canvas, and all else of another
abbrev pub sided_as : Canvas → Canvas → Canvas
sided_as v u = record { format = u.format; width = v.width; height = v.height; row = u.row; xor = u.xor; rule = u.rule }

-- a call whose points hang on the sides, as those of all do
abbrev pub Sided : Call → Type 0
Sided (shape own points dye clip) = (v u : Canvas) → points (sided_as v u) ≡ points v
Sided (draw dx dy w h source image sx sy clip) = Unit {0}

pub data AllSided : List Call → Type 0 where
  no_call : AllSided []
  one-call : {k : Call} {ks : List Call} → Sided k → AllSided ks → AllSided (k ∷ ks)

module _ (v u : Canvas) where
  pub hits_sided : (c : Clip) (ps : List Plot) → hits (sided_as v u) c ps ≡ hits v c ps
  unfolding hits fate on_canvas
  hits_sided c [] = refl
  hits_sided c (p ∷ ps) = ap (keep (fate v c p) (hit_of p)) (hits_sided c ps)

  pub dots_sided : (k : Call) → Sided k → dots (sided_as v u) k ≡ dots v k
  unfolding dots
  dots_sided (shape own points dye clip) e = rw (e v u) refl
  dots_sided (draw dx dy w h source image sx sy clip) e = refl
