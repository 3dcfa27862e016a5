-- `lent` counts by the seed's kind.
use mathlib.Core.Path.{◌∙◌, ap}
use Rattle.cases.specs.Case.{capped}
use Rattle.cases.proofs.Cases.{bytes_lent, canvas_lent}
use Rattle.cases.proofs.case.lent.Goals as goal

pub returns-in-Bytes : goal.returns-in-Bytes
returns-in-Bytes c = c.fitting.ensures ∙ bytes_lent c.args.room _ _ _ c.args.args.seed c.in-Bytes.digits c.in-Bytes.is

pub returns-in_default : goal.returns-in_default
returns-in_default c = c.held.ensures ∙ ap (capped c.args.room) (canvas_lent _ _ _ c.args.args.seed c.in_default.not-Bytes)
