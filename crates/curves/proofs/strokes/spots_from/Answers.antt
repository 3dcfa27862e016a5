-- `spots_from` meets its contract: the angles, their sines and cosines, and the points. Assumes nothing.
use Rattle.std.proofs.Common.{◌≡◌, ℕ, zero, suc, List, ◌∷◌, map, refl, ap, ◌∙◌}
use lib.Ieee.{Float}
use Rattle.floats.specs.Whole.{lifted}
use Rattle.angle.specs.Sine.{sine_of, cosine_of, sine_cosine_of}
use Rattle.angle.specs.Stroke.{stroke_angle}
use Rattle.curves.specs.declared.oval.Oval.{Oval}
use Rattle.curves.specs.Strokes.{x_at, y_at, spot_of, stroke_point, angles_from, spots_from, columns, rows}
use Rattle.curves.proofs.strokes.spots_from.Goals as goal

module _ (o : Oval) (start sweep : Float) (steps : ℕ) where
  columns_are : (i n : ℕ) → map (λ (x : Float). lifted (x_at o x)) (map cosine_of (angles_from start sweep steps i n)) ≡ columns (spots_from o start sweep steps i n)
  unfolding angles_from spots_from stroke_point spot_of sine_cosine_of
  columns_are i zero = refl
  columns_are i (suc n) = ap (λ (ps : List ℕ). lifted (x_at o (cosine_of (stroke_angle start sweep i steps))) ∷ ps) (columns_are (suc i) n)

  rows_are : (i n : ℕ) → map (λ (x : Float). lifted (y_at o x)) (map sine_of (angles_from start sweep steps i n)) ≡ rows (spots_from o start sweep steps i n)
  unfolding angles_from spots_from stroke_point spot_of sine_cosine_of
  rows_are i zero = refl
  rows_are i (suc n) = ap (λ (qs : List ℕ). lifted (y_at o (sine_of (stroke_angle start sweep i steps))) ∷ qs) (rows_are (suc i) n)

pub returns : goal.returns
returns c =
    let t = c.angles.ensures in
    let a = c.args in (
      c.spots_of.ensures.ps_after ∙ ap (map (λ (x : Float). lifted (x_at a.o x))) (c.sines_of.ensures.1 ∙ ap (map cosine_of) t) ∙ columns_are a.o a.start a.sweep a.steps a.i 16,
      c.spots_of.ensures.qs_after ∙ ap (map (λ (x : Float). lifted (y_at a.o x))) (c.sines_of.ensures.0 ∙ ap (map sine_of) t) ∙ rows_are a.o a.start a.sweep a.steps a.i 16,
    )
