-- `words::plot_ink` meets its contract, by the two tests.
use mathlib.Core.Path.{ap}
use Rattle.std.proofs.Common.{rules}
use borrow.Author.Tests.{not-true, not-false, eq-eqb, ne_eqb}
use Rattle.words.specs.Ink.{ink, plot_ink}
use Rattle.words.proofs.plot_ink.Goals as goal

pub returns-then-not-xor : goal.returns-then-not-xor
unfolding plot_ink
returns-then-not-xor c = rw (not-true c.args.xor (search rules)) (ap (ink 0) c.from_color.ensures)

pub returns-then-color-eq0 : goal.returns-then-color-eq0
unfolding plot_ink
returns-then-color-eq0 c = rw (not-false c.args.xor (search rules), eq-eqb _ _ c.if-color-eq0.true) c.flipping.ensures

pub returns : goal.returns
unfolding plot_ink
returns c = rw (not-false c.args.xor (search rules), ne_eqb _ _ c.if-color-eq0.false) c.xor_ink.ensures
