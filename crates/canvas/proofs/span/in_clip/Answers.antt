-- Both sides of the clip are spans.
use Rattle.std.proofs.Common.{pos, ◌∙◌}
use Rattle.canvas.proofs.span.Spans.{clip_no, clip_yes}
use Rattle.canvas.proofs.span.in_clip.Goals as goal

pub returns-then-in_span : goal.returns-then-in_span
returns-then-in_span c =
    clip_yes c.args.clip (pos c.args.x) (pos c.args.y) _ (record { sfits = c.struct_told-1.given.0.1 }) c.in_span.ensures _
    (record { sfits = c.struct_told-then-in_span-1.given.1.0.1 }) c.if-in_span.true c.in_span-then-in_span.ensures

pub returns-else-in_span : goal.returns-else-in_span
returns-else-in_span c = c.if-in_span.false ∙ clip_no c.args.clip (pos c.args.x) (pos c.args.y) _ (record { sfits = c.struct_told-1.given.0.1 }) c.in_span.ensures c.if-in_span.false
