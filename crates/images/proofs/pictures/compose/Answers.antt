-- A solid colour is stored by a blend too.
use mathlib.Core.Path.{sym, ap, ◌∙◌}
use mathlib.Core.Bool.{Bool}
use borrow.Author.Tests.{not-true}
use Rattle.blending.specs.Loops.{blended}
use Rattle.pixels.specs.Bytes.{form}
use Rattle.canvas.specs.Call.{carried}
use Rattle.images.proofs.pictures.Overlays.{solid-stores}
use Rattle.images.proofs.pictures.compose.Goals as goal

pub returns-then-source-lt3 : goal.returns-then-source-lt3
returns-then-source-lt3 c =
    let f = form c.args.canvas in
    let k = carried c.args.canvas in
    let cs = c.args.cs.now in
    let ws = c.args.ws.now in
    c.store_words.ensures
    ∙ solid-stores f k cs ws (λ i l. c.requires.1.solid c.if-source-lt3.true i l)
    ∙ ap (λ (t : Bool). blended f k t cs ws) (sym (not-true _ c.if-not-canvas.true))
