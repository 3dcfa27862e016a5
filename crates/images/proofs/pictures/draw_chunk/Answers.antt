-- All of the chunk is worked out before any of it is written.
use native.Mathlib.Omega.{arith}
use mathlib.Core.Path.{◌∙◌}
use lib.Seq.{length-take-le}
use Rattle.images.proofs.pictures.Overlays.{chunk_draws, solid-read}
use Rattle.pixels.proofs.chunks.Chunks.{words-taken}
use Rattle.images.proofs.pictures.draw_chunk.Goals as goal

pub compose-requires : goal.compose-requires
compose-requires c = (c.requires.sized.known, solid-read c.args.source _ _ c.read_colors.ensures)

pub returns : goal.returns
returns c =
    let a = c.args in
    chunk_draws a.canvas a.source a.b.now _ a.image.now a.y a.x a.sy a.sx _ _ _ _ _ c.requires.high c.requires.wide
    (c.take.auto.ws ∙ length-take-le a.n a.cs.now (omega arith)) (c.take-2.auto.ws ∙ length-take-le a.n a.ws.now (omega arith))
    (words-taken _ _ _ _ _ c.take.ensures) c.read_colors.ensures
    (words-taken _ _ _ _ _ c.take-2.ensures) c.compose.ensures c.lay.ensures
