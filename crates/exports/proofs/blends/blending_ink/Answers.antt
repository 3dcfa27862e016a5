-- `blending_ink` meets its contract: the ink's two masks are stored.
use mathlib.Core.Path.{◌≡◌, ap, ◌∙◌}
use mathlib.Core.Bool.{true}
use Prim.Native.Nat.{ℕ}
use Rattle.words.specs.declared.Color.{Color}
use Rattle.words.specs.declared.Ink.{Ink}
use Rattle.words.specs.Format.{format_of, argb}
use Rattle.words.specs.Word.{to_color}
use Rattle.words.specs.Ink.{plot_ink}
use Rattle.blending.specs.Blend.{scaled}
use Rattle.exports.proofs.blends.blending_ink.Goals as goal

drawn : (f s : ℕ) {c : Color} {i : Ink} → c ≡ to_color (format_of 3) s → i ≡ plot_ink (format_of f) true (scaled c) → i ≡ plot_ink (format_of f) true (scaled (to_color argb s))
unfolding format_of
drawn f s p q = q ∙ ap (λ (c : Color). plot_ink (format_of f) true (scaled c)) p

pub returns : goal.returns
returns c =
    let a = c.args in
    let e = drawn a.format a.source c.to_color.ensures c.blend_ink-ink.ensures in
    (ap (λ (i : Ink). i.keep) e, ap (λ (i : Ink). i.flip) e)
