-- The canvas's intersection, read from words and back.
use mathlib.Core.Path.{ap, ap₂, ◌∙◌}
use Rattle.canvas.specs.Clip.{intersection}
use Rattle.tuyrashka.specs.Exported.{words_of}
use Rattle.tuyrashka.proofs.tuyrashka_clip_intersect.Goals as goal

pub returns : goal.returns
returns c =
    let both = c.intersect.ensures ∙ ap₂ intersection c.clip_of-c.ensures c.clip_of-d.ensures in
    c.give_clip.ensures ∙ ap words_of both
