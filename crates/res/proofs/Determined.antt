-- No two answers meet the contract of a public function: it is an equation for the answer, of a part for its bytes.
use mathlib.Core.Path.{◌≡◌, sym, ◌∙◌}
use Rattle.res.proofs.Refusal.number.Reads as number_of_lem
use Rattle.res.proofs.decode_res.Reads as decode_res
use Rattle.res.proofs.icon_pixels.Reads as icon_pixels

pub number_determined : (κs : _) (a : _) (s s' : _) (r r' : _) → number_of_lem.Post κs a r s → number_of_lem.Post κs a r' s' → r ≡ r'
number_determined κs a s s' r r' p q = p ∙ sym q

pub decode_res_determined : (κs : _) (a : _) (s s' : _) (r r' : _) → decode_res.Post κs a r s → decode_res.Post κs a r' s' → r ≡ r'
decode_res_determined κs a s s' r r' p q = p ∙ sym q

pub icon_pixels_determined : (κs : _) (a : _) (s s' : _) (r r' : _) → icon_pixels.Post κs a r s → icon_pixels.Post κs a r' s' → r.now ≡ r'.now
icon_pixels_determined κs a s s' r r' p q = p ∙ sym q
