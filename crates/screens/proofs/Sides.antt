-- Every shape looks at the sides of a canvas, and at nothing else of it.
use mathlib.Core.Path.{◌≡◌, refl}
use Prim.Native.Nat.{ℕ}
use lib.IntN.{ℤ}
use Rattle.pixels.specs.declared.Canvas.{Canvas}
use Rattle.canvas.specs.Lines.{line}
use Rattle.canvas.specs.Boxes.{fill, border, outline, edges}
use Rattle.ovals.specs.Strokes.{stroke, arc, quarters, round_outline}
use Rattle.ovals.specs.Curves.{pie, round_fill}
use Rattle.canvas.proofs.plot.Sides.{sided_as}

pub of_line : (x1 y1 x2 y2 : ℤ) (v u : Canvas) → line (sided_as v u) x1 y1 x2 y2 ≡ line v x1 y1 x2 y2
unfolding line
of_line x1 y1 x2 y2 v u = refl

module _ (x y : ℤ) (w h : ℕ) where
  pub of_outline : (v u : Canvas) → outline (sided_as v u) x y w h ≡ outline v x y w h
  unfolding outline border fill
  of_outline v u = refl

  pub of_fill : (v u : Canvas) → fill (sided_as v u) x y w h ≡ fill v x y w h
  unfolding fill
  of_fill v u = refl

  pub of_arc : (s a : ℤ) (v u : Canvas) → arc (sided_as v u) x y w h s a ≡ arc v x y w h s a
  unfolding arc stroke
  of_arc s a v u = refl

  pub of_pie : (s a : ℤ) (v u : Canvas) → pie (sided_as v u) x y w h s a ≡ pie v x y w h s a
  unfolding pie
  of_pie s a v u = refl

  pub of_round : (aw ah : ℕ) (v u : Canvas) → round_outline (sided_as v u) x y w h aw ah ≡ round_outline v x y w h aw ah
  unfolding round_outline outline border fill edges quarters stroke
  of_round aw ah v u = refl

  pub of_round_fill : (aw ah : ℕ) (v u : Canvas) → round_fill (sided_as v u) x y w h aw ah ≡ round_fill v x y w h aw ah
  unfolding round_fill fill
  of_round_fill aw ah v u = refl
