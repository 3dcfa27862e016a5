-- `Abgr::word` meets its contract: the bytes, the lowest first, make the sum.
use native.Mathlib.Omega.{arith}
use Rattle.words.specs.Word.{from_color}
use Rattle.words.proofs.layout.AbgrLayout.word.Goals as goal

pub returns : goal.returns
unfolding from_color
returns c = omega (arith, c.from_le_bytes.ensures)
