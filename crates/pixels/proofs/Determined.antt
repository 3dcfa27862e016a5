-- No two answers meet the contract of a public function, and no two contents of the slice lent: each is an equation.
use mathlib.Core.Path.{◌≡◌, sym, ◌∙◌}
use Rattle.pixels.proofs.bytes.is_whole.Reads as is_whole
use Rattle.pixels.proofs.bytes.load_at.Reads as load_at
use Rattle.pixels.proofs.bytes.touch_by.Reads as touch_by
use Rattle.pixels.proofs.bytes.touch_at.Reads as touch-at
use Rattle.pixels.proofs.rows.ink_row.Reads as ink_row
use Rattle.pixels.proofs.rows.ink_box.Reads as ink_box
use Rattle.pixels.proofs.chunks.take.Reads as take
use Rattle.pixels.proofs.chunks.lay.Reads as lay

is_whole_determined : (κs : _) (a : _) (s s' : _) (r r' : _) → is_whole.Post κs a r s → is_whole.Post κs a r' s' → r ≡ r'
is_whole_determined κs a s s' r r' p q = p ∙ sym q

load_at_determined : (κs : _) (a : _) (s s' : _) (r r' : _) → load_at.Post κs a r s → load_at.Post κs a r' s' → r ≡ r'
load_at_determined κs a s s' r r' p q = p.0 ∙ sym q.0

touch_by_determined : (κs : _) (a : _) (s s' : _) (r r' : _) → touch_by.Post κs a r s → touch_by.Post κs a r' s' → s.1.0.now ≡ s'.1.0.now
touch_by_determined κs a s s' r r' p q = p ∙ sym q

touch_at_determined : (κs : _) (a : _) (s s' : _) (r r' : _) → touch-at.Post κs a r s → touch-at.Post κs a r' s' → s.1.0.now ≡ s'.1.0.now
touch_at_determined κs a s s' r r' p q = p ∙ sym q

ink_row_determined : (κs : _) (a : _) (s s' : _) (r r' : _) → ink_row.Post κs a r s → ink_row.Post κs a r' s' → s.1.0.now ≡ s'.1.0.now
ink_row_determined κs a s s' r r' p q = p ∙ sym q

ink_box_determined : (κs : _) (a : _) (s s' : _) (r r' : _) → ink_box.Post κs a r s → ink_box.Post κs a r' s' → s.1.0.now ≡ s'.1.0.now
ink_box_determined κs a s s' r r' p q = p ∙ sym q

take_determined : (κs : _) (a : _) (s s' : _) (r r' : _) → take.Post κs a r s → take.Post κs a r' s' → s.1.1.1.1.0.now ≡ s'.1.1.1.1.0.now
take_determined κs a s s' r r' p q = p ∙ sym q

lay_determined : (κs : _) (a : _) (s s' : _) (r r' : _) → lay.Post κs a r s → lay.Post κs a r' s' → s.1.0.now ≡ s'.1.0.now
lay_determined κs a s s' r r' p q = p ∙ sym q
