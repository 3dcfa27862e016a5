-- `Rgb565::color` meets its contract: the levels are bytes.
use native.Mathlib.Omega.{arith}
use Rattle.words.specs.Word.{to_color}
use Rattle.words.proofs.Reading.{byte5, byte6}
use Rattle.words.proofs.layout.Rgb565Layout.color.Goals as goal

pub overflow_cast-r : goal.overflow_cast-r
overflow_cast-r c = record { fits = rw c.level5_of-r.ensures (byte5 _ (omega arith)) }

pub overflow_cast-g : goal.overflow_cast-g
overflow_cast-g c = record { fits = rw c.level6_of-g.ensures (byte6 _ (omega arith)) }

pub overflow_cast-b : goal.overflow_cast-b
overflow_cast-b c = record { fits = rw c.level5_of-b.ensures (byte5 _ (omega arith)) }

pub returns : goal.returns
unfolding to_color
returns c = rw (c.level5_of-r.ensures, c.level6_of-g.ensures, c.level5_of-b.ensures)
