-- The two sides of the canvas.
use Rattle.std.proofs.Common.{refl}
use Rattle.canvas.specs.Plot.{on_canvas}
use Rattle.canvas.proofs.plot.on_canvas.Goals as goal

pub returns-then-on_side : goal.returns-then-on_side
unfolding on_canvas
returns-then-on_side c = rw (← c.on_side.ensures, c.if-on_side.true) c.on_side-then-on_side.ensures

pub returns-else-on_side : goal.returns-else-on_side
unfolding on_canvas
returns-else-on_side c = rw (← c.on_side.ensures, c.if-on_side.false) refl
