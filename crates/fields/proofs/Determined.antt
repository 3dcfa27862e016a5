-- No two answers meet the contract of a public function: it is an equation for the answer. Nothing is lent to be written.
use mathlib.Core.Path.{◌≡◌, sym, ◌∙◌}
use Rattle.fields.proofs.u8_at.Reads as u8-at
use Rattle.fields.proofs.u16_at.Reads as u16-at
use Rattle.fields.proofs.u32_at.Reads as u32-at

pub u8_at_determined : (κs : _) (a : _) (s s' : _) (r r' : _) → u8-at.Post κs a r s → u8-at.Post κs a r' s' → r ≡ r'
u8_at_determined κs a s s' r r' p q = p.0 ∙ sym q.0

pub u16_at_determined : (κs : _) (a : _) (s s' : _) (r r' : _) → u16-at.Post κs a r s → u16-at.Post κs a r' s' → r ≡ r'
u16_at_determined κs a s s' r r' p q = p.0 ∙ sym q.0

pub u32_at_determined : (κs : _) (a : _) (s s' : _) (r r' : _) → u32-at.Post κs a r s → u32-at.Post κs a r' s' → r ≡ r'
u32_at_determined κs a s s' r r' p q = p ∙ sym q
