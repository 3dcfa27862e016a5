-- `Rgb8::store` meets its contract: the low bytes stand alike.
use mathlib.Core.Path.{sym}
use Rattle.words.specs.Word.{from_color, to_color}
use Rattle.words.proofs.Reading.{low-bytes}
use Rattle.blending.proofs.drawn.Rgb8Drawn.store.Goals as goal

pub returns : goal.returns
unfolding from_color to_color
returns c = sym (low-bytes c.args.source)
