-- One test finds a point off the canvas; the word of any other is read as a colour.
use Rattle.std.proofs.Common.{sym, ◌∙◌}
use borrow.Author.Tests.{not-true, not-false}
use Rattle.canvas.proofs.plot.Fates.{lifted_on}
use Rattle.canvas.proofs.look.Looks.{off_canvas, color_there}
use Rattle.canvas.proofs.look.pixel_at.Goals as goal

pub returns-then-not-on_canvas : goal.returns-then-not-on_canvas
returns-then-not-on_canvas c = off_canvas c.args.canvas c.args.b.now _ _ (sym c.on_canvas.ensures ∙ not-true _ c.if-not-on_canvas.true-raw)

pub overflow_sub-x : goal.overflow_sub-x
overflow_sub-x c = (lifted_on c.args.canvas c.args.p c.args.q (sym c.on_canvas.ensures ∙ not-false _ c.if-not-on_canvas.false-raw)).left

pub overflow_sub-y : goal.overflow_sub-y
overflow_sub-y c = (lifted_on c.args.canvas c.args.p c.args.q (sym c.on_canvas.ensures ∙ not-false _ c.if-not-on_canvas.false-raw)).top

pub load_at-raw-requires : goal.load_at-raw-requires
load_at-raw-requires c = (c.requires, (lifted_on c.args.canvas c.args.p c.args.q (sym c.on_canvas.ensures ∙ not-false _ c.if-not-on_canvas.false-raw)).on)

pub returns : goal.returns
returns c = color_there c.args.canvas c.args.b.now c.args.p c.args.q _ _ (sym c.on_canvas.ensures ∙ not-false _ c.if-not-on_canvas.false-raw) c.load_at-raw.ensures.0 c.to_color.ensures
