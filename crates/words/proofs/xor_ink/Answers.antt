-- `words::xor_ink` meets its contract, number by number.
use mathlib.Core.Path.{ap, ◌∙◌}
use native.Mathlib.Omega.{arith}
use Rattle.words.specs.Format.{format_of}
use Rattle.words.specs.Ink.{keeps_alpha, ink, xor_ink}
use Rattle.words.proofs.Formats.{keeps-none}
use Rattle.words.proofs.xor_ink.Goals as goal

pub returns-in-3 : goal.returns-in-3
unfolding format_of xor_ink keeps_alpha
returns-in-3 c = rw c.in-3.is c.solid_ink.ensures

pub returns-in-4 : goal.returns-in-4
unfolding format_of xor_ink keeps_alpha
returns-in-4 c = rw c.in-4.is c.solid_ink-in-4.ensures

pub returns-in_default : goal.returns-in_default
unfolding xor_ink
returns-in_default c =
    rw (keeps-none c.args.format (λ e. omega arith) (λ e. omega arith))
    (c.flipping.ensures ∙ ap (ink 4294967295) c.from_color.ensures)
