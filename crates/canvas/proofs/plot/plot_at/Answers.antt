-- One test puts a plot outside the canvas, and one outside the clip; what passes them is a hit.
use Rattle.std.proofs.Common.{true, false, sym, refl, ◌∙◌, ap₂, arith}
use borrow.Author.Tests.{not-true, not-false}
use Rattle.words.specs.Ink.{inked}
use Rattle.canvas.specs.Plot.{plot, outside, clipped, landed}
use Rattle.canvas.specs.Walk.{lowered, work}
use Rattle.canvas.proofs.span.Lifts.{lowered_pos}
use Rattle.canvas.proofs.plot.Fates.{is-outside, lifted_on, lifted-fate}
use Rattle.canvas.proofs.plot.Draws.{did_one, one_fits}
use Rattle.canvas.proofs.plot.plot_at.Goals as goal

pub returns-then-not-on_canvas : goal.returns-then-not-on_canvas
returns-then-not-on_canvas c =
    let a = c.args in
    did_one a.canvas a.clip (plot (inked a.ink) (lowered a.p) (lowered a.q)) outside _ _
    (is-outside a.canvas a.clip _ _ (inked a.ink) (sym c.on_canvas.ensures ∙ not-true _ c.if-not-on_canvas.true-raw)) refl

pub overflow_sub-x : goal.overflow_sub-x
overflow_sub-x c = (lifted_on c.args.canvas c.args.p c.args.q (sym c.on_canvas.ensures ∙ not-false _ c.if-not-on_canvas.false-raw)).left

pub overflow_sub-y : goal.overflow_sub-y
overflow_sub-y c = (lifted_on c.args.canvas c.args.p c.args.q (sym c.on_canvas.ensures ∙ not-false _ c.if-not-on_canvas.false-raw)).top

pub in_clip-requires : goal.in_clip-requires
in_clip-requires c =
    let l = lifted_on c.args.canvas c.args.p c.args.q (sym c.on_canvas.ensures ∙ not-false _ c.if-not-on_canvas.false-raw) in
    (omega (arith, l.on.across, c.requires.sized.wide), omega (arith, l.on.down, c.requires.sized.high))

pub returns-then-not-in_clip : goal.returns-then-not-in_clip
returns-then-not-in_clip c =
    let a = c.args in
    did_one a.canvas a.clip (plot (inked a.ink) (lowered a.p) (lowered a.q)) clipped _ _
    (lifted-fate a.canvas a.p a.q (sym c.on_canvas.ensures ∙ not-false _ c.if-not-on_canvas.false-raw) a.clip (inked a.ink) false
    (sym (not-true _ c.if-not-in_clip.true-raw) ∙ c.in_clip.ensures)) refl

pub touch_at-requires : goal.touch_at-requires
touch_at-requires c = (c.requires.sized, (lifted_on c.args.canvas c.args.p c.args.q (sym c.on_canvas.ensures ∙ not-false _ c.if-not-on_canvas.false-raw)).on)

pub landed_more-requires : goal.landed_more-requires
landed_more-requires c =
    let a = c.args in
    one_fits (lifted-fate a.canvas a.p a.q (sym c.on_canvas.ensures ∙ not-false _ c.if-not-on_canvas.false-raw) a.clip
    (inked a.ink) true (sym (not-false _ c.if-not-in_clip.false-raw) ∙ c.in_clip.ensures)) c.requires

pub returns : goal.returns
returns c =
    let l = lifted_on c.args.canvas c.args.p c.args.q (sym c.on_canvas.ensures ∙ not-false _ c.if-not-on_canvas.false-raw) in
    did_one c.args.canvas c.args.clip (plot (inked c.args.ink) (lowered c.args.p) (lowered c.args.q)) landed _ _
    (lifted-fate c.args.canvas c.args.p c.args.q (sym c.on_canvas.ensures ∙ not-false _ c.if-not-on_canvas.false-raw) c.args.clip
    (inked c.args.ink) true (sym (not-false _ c.if-not-in_clip.false-raw) ∙ c.in_clip.ensures))
    (rw (lowered_pos c.args.p l.left, lowered_pos c.args.q l.top) (ap₂ work c.touch_at.ensures c.landed_more.ensures))
