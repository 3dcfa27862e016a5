-- `blend_ink` meets its contract: it is the ink of a plot of the colour scaled.
use mathlib.Core.Path.{ap, ◌∙◌}
use mathlib.Core.Bool.{true}
use Rattle.words.specs.Format.{format_of}
use Rattle.words.specs.Ink.{plot_ink}
use Rattle.blending.proofs.blend_ink.Goals as goal

pub returns : goal.returns
returns c = c.plot_ink.ensures ∙ ap (plot_ink (format_of c.args.format) true) c.scaled_by_alpha.ensures
