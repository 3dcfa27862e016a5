-- No two answers meet the contract of a public function: each is an equation for the answer. Nothing is lent to be written.
use mathlib.Core.Path.{◌≡◌, sym, ◌∙◌}
use Rattle.words.proofs.Ink.on.Reads as on
use Rattle.words.proofs.bytes_per_pixel.Reads as bytes_per_pixel
use Rattle.words.proofs.from_color.Reads as from-color
use Rattle.words.proofs.to_color.Reads as to-color
use Rattle.words.proofs.levels5.Reads as levels5
use Rattle.words.proofs.levels6.Reads as levels6
use Rattle.words.proofs.colors332.Reads as colors332
use Rattle.words.proofs.read332.Reads as read332
use Rattle.words.proofs.read565.Reads as read565
use Rattle.words.proofs.level5_of.Reads as level5_of
use Rattle.words.proofs.level6_of.Reads as level6_of
use Rattle.words.proofs.xor_ink.Reads as xor_ink
use Rattle.words.proofs.plot_ink.Reads as plot-ink
use Rattle.words.proofs.invert_ink.Reads as invert-ink
use Rattle.words.proofs.layout.Rgb332Layout.word.Reads as rgb332_word
use Rattle.words.proofs.layout.Rgb332Layout.color.Reads as rgb332_color
use Rattle.words.proofs.layout.Rgb565Layout.word.Reads as rgb565_word
use Rattle.words.proofs.layout.Rgb565Layout.color.Reads as rgb565_color
use Rattle.words.proofs.layout.Rgb8Layout.word.Reads as rgb8_word
use Rattle.words.proofs.layout.Rgb8Layout.color.Reads as rgb8_color
use Rattle.words.proofs.layout.ArgbLayout.word.Reads as argb_word
use Rattle.words.proofs.layout.ArgbLayout.color.Reads as argb_color
use Rattle.words.proofs.layout.AbgrLayout.word.Reads as abgr_word
use Rattle.words.proofs.layout.AbgrLayout.color.Reads as abgr_color

on_determined : (κs : _) (a : _) (s s' : _) (r r' : _) → on.Post κs a r s → on.Post κs a r' s' → r ≡ r'
on_determined κs a s s' r r' p q = p ∙ sym q

bytes_per_pixel_determined : (κs : _) (a : _) (s s' : _) (r r' : _) → bytes_per_pixel.Post κs a r s → bytes_per_pixel.Post κs a r' s' → r ≡ r'
bytes_per_pixel_determined κs a s s' r r' p q = p ∙ sym q

from_color_determined : (κs : _) (a : _) (s s' : _) (r r' : _) → from-color.Post κs a r s → from-color.Post κs a r' s' → r ≡ r'
from_color_determined κs a s s' r r' p q = p ∙ sym q

to_color_determined : (κs : _) (a : _) (s s' : _) (r r' : _) → to-color.Post κs a r s → to-color.Post κs a r' s' → r ≡ r'
to_color_determined κs a s s' r r' p q = p ∙ sym q

levels5_determined : (κs : _) (a : _) (s s' : _) (r r' : _) → levels5.Post κs a r s → levels5.Post κs a r' s' → r ≡ r'
levels5_determined κs a s s' r r' p q = p ∙ sym q

levels6_determined : (κs : _) (a : _) (s s' : _) (r r' : _) → levels6.Post κs a r s → levels6.Post κs a r' s' → r ≡ r'
levels6_determined κs a s s' r r' p q = p ∙ sym q

colors332_determined : (κs : _) (a : _) (s s' : _) (r r' : _) → colors332.Post κs a r s → colors332.Post κs a r' s' → r ≡ r'
colors332_determined κs a s s' r r' p q = p ∙ sym q

read332_determined : (κs : _) (a : _) (s s' : _) (r r' : _) → read332.Post κs a r s → read332.Post κs a r' s' → r ≡ r'
read332_determined κs a s s' r r' p q = p ∙ sym q

read565_determined : (κs : _) (a : _) (s s' : _) (r r' : _) → read565.Post κs a r s → read565.Post κs a r' s' → r ≡ r'
read565_determined κs a s s' r r' p q = p ∙ sym q

level5_of_determined : (κs : _) (a : _) (s s' : _) (r r' : _) → level5_of.Post κs a r s → level5_of.Post κs a r' s' → r ≡ r'
level5_of_determined κs a s s' r r' p q = p ∙ sym q

level6_of_determined : (κs : _) (a : _) (s s' : _) (r r' : _) → level6_of.Post κs a r s → level6_of.Post κs a r' s' → r ≡ r'
level6_of_determined κs a s s' r r' p q = p ∙ sym q

xor_ink_determined : (κs : _) (a : _) (s s' : _) (r r' : _) → xor_ink.Post κs a r s → xor_ink.Post κs a r' s' → r ≡ r'
xor_ink_determined κs a s s' r r' p q = p ∙ sym q

plot_ink_determined : (κs : _) (a : _) (s s' : _) (r r' : _) → plot-ink.Post κs a r s → plot-ink.Post κs a r' s' → r ≡ r'
plot_ink_determined κs a s s' r r' p q = p ∙ sym q

invert_ink_determined : (κs : _) (a : _) (s s' : _) (r r' : _) → invert-ink.Post κs a r s → invert-ink.Post κs a r' s' → r ≡ r'
invert_ink_determined κs a s s' r r' p q = p ∙ sym q

rgb332_word_determined : (κs : _) (a : _) (s s' : _) (r r' : _) → rgb332_word.Post κs a r s → rgb332_word.Post κs a r' s' → r ≡ r'
rgb332_word_determined κs a s s' r r' p q = p ∙ sym q

rgb332_color_determined : (κs : _) (a : _) (s s' : _) (r r' : _) → rgb332_color.Post κs a r s → rgb332_color.Post κs a r' s' → r ≡ r'
rgb332_color_determined κs a s s' r r' p q = p ∙ sym q

rgb565_word_determined : (κs : _) (a : _) (s s' : _) (r r' : _) → rgb565_word.Post κs a r s → rgb565_word.Post κs a r' s' → r ≡ r'
rgb565_word_determined κs a s s' r r' p q = p ∙ sym q

rgb565_color_determined : (κs : _) (a : _) (s s' : _) (r r' : _) → rgb565_color.Post κs a r s → rgb565_color.Post κs a r' s' → r ≡ r'
rgb565_color_determined κs a s s' r r' p q = p ∙ sym q

rgb8_word_determined : (κs : _) (a : _) (s s' : _) (r r' : _) → rgb8_word.Post κs a r s → rgb8_word.Post κs a r' s' → r ≡ r'
rgb8_word_determined κs a s s' r r' p q = p ∙ sym q

rgb8_color_determined : (κs : _) (a : _) (s s' : _) (r r' : _) → rgb8_color.Post κs a r s → rgb8_color.Post κs a r' s' → r ≡ r'
rgb8_color_determined κs a s s' r r' p q = p ∙ sym q

argb_word_determined : (κs : _) (a : _) (s s' : _) (r r' : _) → argb_word.Post κs a r s → argb_word.Post κs a r' s' → r ≡ r'
argb_word_determined κs a s s' r r' p q = p ∙ sym q

argb_color_determined : (κs : _) (a : _) (s s' : _) (r r' : _) → argb_color.Post κs a r s → argb_color.Post κs a r' s' → r ≡ r'
argb_color_determined κs a s s' r r' p q = p ∙ sym q

abgr_word_determined : (κs : _) (a : _) (s s' : _) (r r' : _) → abgr_word.Post κs a r s → abgr_word.Post κs a r' s' → r ≡ r'
abgr_word_determined κs a s s' r r' p q = p ∙ sym q

abgr_color_determined : (κs : _) (a : _) (s s' : _) (r r' : _) → abgr_color.Post κs a r s → abgr_color.Post κs a r' s' → r ≡ r'
abgr_color_determined κs a s s' r r' p q = p ∙ sym q
