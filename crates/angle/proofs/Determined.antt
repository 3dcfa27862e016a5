-- No two answers meet the contract of a public function: each is an equation for the answer. Nothing is lent to be written.
use Rattle.std.proofs.Common.{◌≡◌, sym, ◌∙◌}
use Rattle.angle.proofs.arctangent.arctangent.Reads as arctangent
use Rattle.angle.proofs.sine.sine_cosine.Reads as sine-cosine

arctangent_determined : (κs : _) (a : _) (s s' : _) (r r' : _) → arctangent.Post κs a r s → arctangent.Post κs a r' s' → r ≡ r'
arctangent_determined κs a s s' r r' p q = p ∙ sym q

sine_cosine_determined : (κs : _) (a : _) (s s' : _) (r r' : _) → sine-cosine.Post κs a r s → sine-cosine.Post κs a r' s' → r ≡ r'
sine_cosine_determined κs a s s' r r' p q = p ∙ sym q
