-- No two answers meet the contract of the public function: it is an equation for the answer. Nothing is lent.
use mathlib.Core.Path.{◌≡◌, sym, ◌∙◌}
use Rattle.segments.proofs.clip_segment.Reads as clip-segment

clip_segment_determined : (κs : _) (a : _) (s s' : _) (r r' : _) → clip-segment.Post κs a r s → clip-segment.Post κs a r' s' → r ≡ r'
clip_segment_determined κs a s s' r r' p q = p ∙ sym q
