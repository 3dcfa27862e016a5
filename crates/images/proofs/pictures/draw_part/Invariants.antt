-- What is done leaves the rest of the rows as they were.
use mathlib.Core.Path.{◌≡◌}
use Rattle.pixels.specs.Hits.{paint}
use Rattle.pixels.specs.Rows.{run, field}
use Rattle.images.specs.Chunks.{overlaid}
use Rattle.images.proofs.pictures.draw_part.Given as goal

abbrev pub invariant-loop-k : goal.invariant-loop-k
invariant-loop-k l = l.b ≡ paint l.canvas (field (overlaid l.canvas l.source l.image l.x l.y l.sx l.sy) (run l.x l.w) (run l.y l.k)) l.initial.b
