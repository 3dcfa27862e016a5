-- All of the chunk is read before any of it is written.
use native.Mathlib.Omega.{arith}
use mathlib.Core.Path.{◌∙◌}
use lib.Seq.{length-take-le}
use Rattle.images.proofs.copy.Moves.{chunk_done}
use Rattle.pixels.proofs.chunks.Chunks.{words-taken}
use Rattle.images.proofs.copy.copy_chunk.Goals as goal

pub returns : goal.returns
returns c =
    let a = c.args in
    chunk_done a.canvas a.b.now _ a.y a.x a.sy a.sx _ _ _ (c.take.auto.ws ∙ length-take-le a.n a.chunk.now (omega arith))
    (words-taken _ _ _ _ _ c.take.ensures) c.see.ensures c.lay.ensures
