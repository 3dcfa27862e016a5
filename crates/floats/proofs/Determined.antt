-- No two answers meet the contract of a public function: each is an equation for the answer. Nothing is lent.
use Rattle.std.proofs.Common.{◌≡◌, sym, ◌∙◌}
use Rattle.floats.proofs.degrees.radians.Reads as radians
use Rattle.floats.proofs.degrees.rem_euclid_360.Reads as rem_euclid_360
use Rattle.floats.proofs.size.abs.Reads as abs
use Rattle.floats.proofs.size.is_sign_negative.Reads as is_sign_negative
use Rattle.floats.proofs.size.max.Reads as max
use Rattle.floats.proofs.whole.as_u8.Reads as as_u8
use Rattle.floats.proofs.whole.ceil_size.Reads as ceil_size
use Rattle.floats.proofs.whole.round_i32.Reads as round_i32
use Rattle.floats.proofs.whole.round_i32_f64.Reads as round_i32_f64
use Rattle.floats.proofs.whole.round_lifted.Reads as round_lifted

radians_determined : (κs : _) (a : _) (s s' : _) (r r' : _) → radians.Post κs a r s → radians.Post κs a r' s' → r ≡ r'
radians_determined κs a s s' r r' p q = p ∙ sym q

rem_euclid_360_determined : (κs : _) (a : _) (s s' : _) (r r' : _) → rem_euclid_360.Post κs a r s → rem_euclid_360.Post κs a r' s' → r ≡ r'
rem_euclid_360_determined κs a s s' r r' p q = p ∙ sym q

abs_determined : (κs : _) (a : _) (s s' : _) (r r' : _) → abs.Post κs a r s → abs.Post κs a r' s' → r ≡ r'
abs_determined κs a s s' r r' p q = p ∙ sym q

is_sign_negative_determined : (κs : _) (a : _) (s s' : _) (r r' : _) → is_sign_negative.Post κs a r s → is_sign_negative.Post κs a r' s' → r ≡ r'
is_sign_negative_determined κs a s s' r r' p q = p ∙ sym q

max_determined : (κs : _) (a : _) (s s' : _) (r r' : _) → max.Post κs a r s → max.Post κs a r' s' → r ≡ r'
max_determined κs a s s' r r' p q = p ∙ sym q

as_u8_determined : (κs : _) (a : _) (s s' : _) (r r' : _) → as_u8.Post κs a r s → as_u8.Post κs a r' s' → r ≡ r'
as_u8_determined κs a s s' r r' p q = p ∙ sym q

ceil_size_determined : (κs : _) (a : _) (s s' : _) (r r' : _) → ceil_size.Post κs a r s → ceil_size.Post κs a r' s' → r ≡ r'
ceil_size_determined κs a s s' r r' p q = p ∙ sym q

round_i32_determined : (κs : _) (a : _) (s s' : _) (r r' : _) → round_i32.Post κs a r s → round_i32.Post κs a r' s' → r ≡ r'
round_i32_determined κs a s s' r r' p q = p ∙ sym q

round_i32_f64_determined : (κs : _) (a : _) (s s' : _) (r r' : _) → round_i32_f64.Post κs a r s → round_i32_f64.Post κs a r' s' → r ≡ r'
round_i32_f64_determined κs a s s' r r' p q = p ∙ sym q

round_lifted_determined : (κs : _) (a : _) (s s' : _) (r r' : _) → round_lifted.Post κs a r s → round_lifted.Post κs a r' s' → r ≡ r'
round_lifted_determined κs a s s' r r' p q = p ∙ sym q
