-- By the answer's three cases.
use mathlib.Core.Path.{refl, sym, ap, ◌∙◌}
use Rattle.words.specs.Format.{format_of}
use Rattle.canvas.specs.Look.{status_of, seen_of}
use Rattle.cases.specs.declared.answer.Found.TheVariants.{Argb}
use Rattle.replies.specs.Answers.{argb_of}
use Rattle.replies.proofs.answers.seen.Goals as goal

pub returns-in-Ok-Some : goal.returns-in-Ok-Some
unfolding status_of seen_of argb_of format_of
returns-in-Ok-Some c = rw c.in-Ok-Some.is (refl, ap Argb c.from_color.ensures ∙ sym (ap argb_of (rw c.in-Ok-Some.is at c.in-Ok-Some.field-0-is)))

pub returns-in-Ok-None : goal.returns-in-Ok-None
unfolding status_of seen_of argb_of
returns-in-Ok-None c = rw c.in-Ok-None.is (refl, sym (ap argb_of (rw c.in-Ok-None.is at c.in-Ok-None.field-0-is)))

pub returns-in-Err : goal.returns-in-Err
unfolding status_of seen_of argb_of
returns-in-Err c = rw (c.in-Err.is, c.number.ensures) (refl, refl)
