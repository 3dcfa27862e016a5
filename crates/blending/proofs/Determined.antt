-- No two answers meet the contract of a public function, and no two contents of the words lent: each is an equation.
use mathlib.Core.Path.{◌≡◌, sym, ◌∙◌}
use Rattle.blending.proofs.scaled_by_alpha.Reads as scaled_by_alpha
use Rattle.blending.proofs.blend_ink.Reads as blend_ink
use Rattle.blending.proofs.blend332.Reads as blend332
use Rattle.blending.proofs.blend565.Reads as blend565
use Rattle.blending.proofs.blend_rgb.Reads as blend_rgb
use Rattle.blending.proofs.blend_bgr.Reads as blend_bgr
use Rattle.blending.proofs.loops.read_colors.Reads as read_colors
use Rattle.blending.proofs.loops.blend_words.Reads as blend_words
use Rattle.blending.proofs.loops.store_words.Reads as store_words_lem

scaled_by_alpha_determined : (κs : _) (a : _) (s s' : _) (r r' : _) → scaled_by_alpha.Post κs a r s → scaled_by_alpha.Post κs a r' s' → r ≡ r'
scaled_by_alpha_determined κs a s s' r r' p q = p ∙ sym q

blend_ink_determined : (κs : _) (a : _) (s s' : _) (r r' : _) → blend_ink.Post κs a r s → blend_ink.Post κs a r' s' → r ≡ r'
blend_ink_determined κs a s s' r r' p q = p ∙ sym q

blend332_determined : (κs : _) (a : _) (s s' : _) (r r' : _) → blend332.Post κs a r s → blend332.Post κs a r' s' → r ≡ r'
blend332_determined κs a s s' r r' p q = p ∙ sym q

blend565_determined : (κs : _) (a : _) (s s' : _) (r r' : _) → blend565.Post κs a r s → blend565.Post κs a r' s' → r ≡ r'
blend565_determined κs a s s' r r' p q = p ∙ sym q

blend_rgb_determined : (κs : _) (a : _) (s s' : _) (r r' : _) → blend_rgb.Post κs a r s → blend_rgb.Post κs a r' s' → r ≡ r'
blend_rgb_determined κs a s s' r r' p q = p ∙ sym q

blend_bgr_determined : (κs : _) (a : _) (s s' : _) (r r' : _) → blend_bgr.Post κs a r s → blend_bgr.Post κs a r' s' → r ≡ r'
blend_bgr_determined κs a s s' r r' p q = p ∙ sym q

read_colors_determined : (κs : _) (a : _) (s s' : _) (r r' : _) → read_colors.Post κs a r s → read_colors.Post κs a r' s' → s.1.0.now ≡ s'.1.0.now
read_colors_determined κs a s s' r r' p q = p ∙ sym q

blend_words_determined :
    (κs : _) (a : _) (s s' : _) (r r' : _) → blend_words.Post κs a r s → blend_words.Post κs a r' s' → s.1.1.1.1.0.now ≡ s'.1.1.1.1.0.now
blend_words_determined κs a s s' r r' p q = p ∙ sym q

store_words_determined :
    (κs : _) (a : _) (s s' : _) (r r' : _) → store_words_lem.Post κs a r s → store_words_lem.Post κs a r' s' → s.1.1.0.now ≡ s'.1.1.0.now
store_words_determined κs a s s' r r' p q = p ∙ sym q
