-- The calls that draw arcs, pies and round rectangles, among those of the canvas.
use Rattle.std.specs.Prelude.{ℕ, ℤ}
use Rattle.words.specs.declared.Color.{Color}
use Rattle.canvas.specs.declared.Clip.{Clip}
use Rattle.canvas.specs.Plot.{plain}
use Rattle.canvas.specs.Call.{Call, shape}
use Rattle.ovals.specs.Faults.{shape_fault, arc_fault}
use Rattle.ovals.specs.Strokes.{arc, round_outline}
use Rattle.ovals.specs.Curves.{pie, round_fill}

abbrev pub draw_arc : ℤ → ℤ → ℕ → ℕ → ℤ → ℤ → Color → Clip → Call
draw_arc x y w h start sweep color clip = shape (arc_fault x y w h start sweep) (λ v. arc v x y w h start sweep) (plain color) clip

abbrev pub fill_arc : ℤ → ℤ → ℕ → ℕ → ℤ → ℤ → Color → Clip → Call
fill_arc x y w h start sweep color clip = shape (arc_fault x y w h start sweep) (λ v. pie v x y w h start sweep) (plain color) clip

abbrev pub draw_round_rect : ℤ → ℤ → ℕ → ℕ → ℕ → ℕ → Color → Clip → Call
draw_round_rect x y w h aw ah color clip = shape (shape_fault x y w h) (λ v. round_outline v x y w h aw ah) (plain color) clip

abbrev pub fill_round_rect : ℤ → ℤ → ℕ → ℕ → ℕ → ℕ → Color → Clip → Call
fill_round_rect x y w h aw ah color clip = shape (shape_fault x y w h) (λ v. round_fill v x y w h aw ah) (plain color) clip
