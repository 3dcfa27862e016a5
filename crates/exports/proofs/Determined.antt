-- No two outcomes meet the contract of an exported function: each is an equation for the answer, or for what is stored.
use mathlib.Core.Path.{◌≡◌, sym, ◌∙◌}
use Rattle.exports.proofs.numbers.number_radians.Reads as number-radians
use Rattle.exports.proofs.numbers.number_rem_euclid_360.Reads as number_rem_euclid_360
use Rattle.exports.proofs.numbers.number_abs.Reads as number_abs
use Rattle.exports.proofs.numbers.number_max.Reads as number_max
use Rattle.exports.proofs.numbers.number_is_sign_negative.Reads as number_is_sign_negative
use Rattle.exports.proofs.numbers.number_as_u8.Reads as number_as_u8
use Rattle.exports.proofs.numbers.number_ceil_size.Reads as number_ceil_size
use Rattle.exports.proofs.numbers.number_round_i32.Reads as number_round_i32
use Rattle.exports.proofs.numbers.number_round_i32_f64.Reads as number_round_i32_f64
use Rattle.exports.proofs.angles.angle_arctangent.Reads as angle_arctangent
use Rattle.exports.proofs.angles.angle_sine_cosine.Reads as angle_sine_cosine
use Rattle.exports.proofs.blends.blending_332.Reads as blending_332
use Rattle.exports.proofs.blends.blending_565.Reads as blending_565
use Rattle.exports.proofs.blends.blending_rgb.Reads as blending_rgb
use Rattle.exports.proofs.blends.blending_bgr.Reads as blending_bgr
use Rattle.exports.proofs.blends.blending_ink.Reads as blending_ink
use Rattle.exports.proofs.cuts.segment_left.Reads as segment-left
use Rattle.exports.proofs.cuts.segment_end.Reads as segment-end

number_radians_determined : (κs : _) (a : _) (s s' : _) (r r' : _) → number-radians.Post κs a r s → number-radians.Post κs a r' s' → r ≡ r'
number_radians_determined κs a s s' r r' p q = p ∙ sym q

number_rem_euclid_360_determined : (κs : _) (a : _) (s s' : _) (r r' : _) → number_rem_euclid_360.Post κs a r s → number_rem_euclid_360.Post κs a r' s' → r ≡ r'
number_rem_euclid_360_determined κs a s s' r r' p q = p ∙ sym q

number_abs_determined : (κs : _) (a : _) (s s' : _) (r r' : _) → number_abs.Post κs a r s → number_abs.Post κs a r' s' → r ≡ r'
number_abs_determined κs a s s' r r' p q = p ∙ sym q

number_max_determined : (κs : _) (a : _) (s s' : _) (r r' : _) → number_max.Post κs a r s → number_max.Post κs a r' s' → r ≡ r'
number_max_determined κs a s s' r r' p q = p ∙ sym q

number_is_sign_negative_determined : (κs : _) (a : _) (s s' : _) (r r' : _) → number_is_sign_negative.Post κs a r s → number_is_sign_negative.Post κs a r' s' → r ≡ r'
number_is_sign_negative_determined κs a s s' r r' p q = p ∙ sym q

number_as_u8_determined : (κs : _) (a : _) (s s' : _) (r r' : _) → number_as_u8.Post κs a r s → number_as_u8.Post κs a r' s' → r ≡ r'
number_as_u8_determined κs a s s' r r' p q = p ∙ sym q

number_ceil_size_determined : (κs : _) (a : _) (s s' : _) (r r' : _) → number_ceil_size.Post κs a r s → number_ceil_size.Post κs a r' s' → r ≡ r'
number_ceil_size_determined κs a s s' r r' p q = p ∙ sym q

number_round_i32_determined : (κs : _) (a : _) (s s' : _) (r r' : _) → number_round_i32.Post κs a r s → number_round_i32.Post κs a r' s' → r ≡ r'
number_round_i32_determined κs a s s' r r' p q = p ∙ sym q

number_round_i32_f64_determined : (κs : _) (a : _) (s s' : _) (r r' : _) → number_round_i32_f64.Post κs a r s → number_round_i32_f64.Post κs a r' s' → r ≡ r'
number_round_i32_f64_determined κs a s s' r r' p q = p ∙ sym q

angle_arctangent_determined : (κs : _) (a : _) (s s' : _) (r r' : _) → angle_arctangent.Post κs a r s → angle_arctangent.Post κs a r' s' → r ≡ r'
angle_arctangent_determined κs a s s' r r' p q = p ∙ sym q

angle_sine_cosine_determined : (κs : _) (a : _) (s s' : _) (r r' : _) → angle_sine_cosine.Post κs a r s → angle_sine_cosine.Post κs a r' s'
    → (s.1.0.now ≡ s'.1.0.now) × (s.1.1.0.now ≡ s'.1.1.0.now)
angle_sine_cosine_determined κs a s s' r r' p q = (p.0 ∙ sym q.0, p.1 ∙ sym q.1)

blending_332_determined : (κs : _) (a : _) (s s' : _) (r r' : _) → blending_332.Post κs a r s → blending_332.Post κs a r' s' → r ≡ r'
blending_332_determined κs a s s' r r' p q = p ∙ sym q

blending_565_determined : (κs : _) (a : _) (s s' : _) (r r' : _) → blending_565.Post κs a r s → blending_565.Post κs a r' s' → r ≡ r'
blending_565_determined κs a s s' r r' p q = p ∙ sym q

blending_rgb_determined : (κs : _) (a : _) (s s' : _) (r r' : _) → blending_rgb.Post κs a r s → blending_rgb.Post κs a r' s' → r ≡ r'
blending_rgb_determined κs a s s' r r' p q = p ∙ sym q

blending_bgr_determined : (κs : _) (a : _) (s s' : _) (r r' : _) → blending_bgr.Post κs a r s → blending_bgr.Post κs a r' s' → r ≡ r'
blending_bgr_determined κs a s s' r r' p q = p ∙ sym q

blending_ink_determined :
    (κs : _) (a : _) (s s' : _) (r r' : _) → blending_ink.Post κs a r s → blending_ink.Post κs a r' s' →
    (s.1.1.0.now ≡ s'.1.1.0.now) × (s.1.1.1.0.now ≡ s'.1.1.1.0.now)
blending_ink_determined κs a s s' r r' p q = (p.0 ∙ sym q.0, p.1 ∙ sym q.1)

segment_left_determined : (κs : _) (a : _) (s s' : _) (r r' : _) → segment-left.Post κs a r s → segment-left.Post κs a r' s' → r ≡ r'
segment_left_determined κs a s s' r r' p q = p ∙ sym q

segment_end_determined : (κs : _) (a : _) (s s' : _) (r r' : _) → segment-end.Post κs a r s → segment-end.Post κs a r' s' → r ≡ r'
segment_end_determined κs a s s' r r' p q = p ∙ sym q
