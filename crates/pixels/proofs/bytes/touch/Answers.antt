-- The word is read, inked and put back.
use mathlib.Core.Path.{◌∙◌, ap}
use Rattle.words.specs.Ink.{inked}
use Rattle.pixels.specs.Bytes.{store, cells}
use Rattle.pixels.proofs.bytes.touch.Goals as goal

pub returns : goal.returns
returns g c = record { same = c.put.ensures ∙ ap (store (cells g.row.N c.args.o) c.args.b.now) (c.on.ensures ∙ ap (inked c.args.ink) c.word.ensures.0) }
