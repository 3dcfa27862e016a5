-- No two outcomes: what a contract lets a call of arcs, pies and round rectangles answer and leave is one thing.
use Rattle.std.proofs.Common.{◌≡◌, sym, ◌∙◌}
use Rattle.canvas.proofs.Determined.{leaves-same}
use Rattle.ovals.proofs.rounds.draw_round_rect.Reads as draw_round_rect
use Rattle.ovals.proofs.strokes.draw_arc.Reads as draw-arc
use Rattle.ovals.proofs.fills.fill_arc.Reads as fill-arc
use Rattle.ovals.proofs.fills.fill_round_rect.Reads as fill_round_rect

pub draw_arc_determined : (κs : _) (a : _) (s s' : _) (r r' : _) → draw-arc.Post κs a r s → draw-arc.Post κs a r' s' → (r ≡ r') × (s.1.0.now ≡ s'.1.0.now)
draw_arc_determined κs a s s' r r' p q = leaves-same r r' s.1.0.now s'.1.0.now (p ∙ sym q)

pub draw_round_rect_determined : (κs : _) (a : _) (s s' : _) (r r' : _) → draw_round_rect.Post κs a r s → draw_round_rect.Post κs a r' s' → (r ≡ r') × (s.1.0.now ≡ s'.1.0.now)
draw_round_rect_determined κs a s s' r r' p q = leaves-same r r' s.1.0.now s'.1.0.now (p ∙ sym q)

pub fill_arc_determined : (κs : _) (a : _) (s s' : _) (r r' : _) → fill-arc.Post κs a r s → fill-arc.Post κs a r' s' → (r ≡ r') × (s.1.0.now ≡ s'.1.0.now)
fill_arc_determined κs a s s' r r' p q = leaves-same r r' s.1.0.now s'.1.0.now (p ∙ sym q)

pub fill_round_rect_determined : (κs : _) (a : _) (s s' : _) (r r' : _) → fill_round_rect.Post κs a r s → fill_round_rect.Post κs a r' s' → (r ≡ r') × (s.1.0.now ≡ s'.1.0.now)
fill_round_rect_determined κs a s s' r r' p q = leaves-same r r' s.1.0.now s'.1.0.now (p ∙ sym q)
