-- `Argb::store` meets its contract: storing what was read gives the word.
use mathlib.Core.Path.{sym}
use native.Mathlib.Omega.{arith}
use Rattle.words.specs.Format.{argb, range}
use Rattle.words.specs.Word.{seen}
use Rattle.words.proofs.Reading.{read-store}
use Rattle.blending.proofs.drawn.ArgbDrawn.store.Goals as goal

pub returns : goal.returns
unfolding range seen
returns c = sym (read-store argb c.args.word (omega arith))
