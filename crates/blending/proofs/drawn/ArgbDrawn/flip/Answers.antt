-- `Argb::flip` meets its contract, by whether the ARGB word has an alpha.
use mathlib.Core.Path.{refl, ap, ◌∙◌}
use Prim.Native.Nat.{ℕ, ◌+◌, ◌%◌}
use native.Mathlib.Omega.{arith}
use lib.Bits.{bit_xor}
use Rattle.std.proofs.Common.{inl, inr}
use Rattle.std.proofs.lemmas.Bool.{cases_lt}
use Rattle.words.specs.Format.{argb}
use Rattle.words.specs.Word.{to_color}
use Rattle.words.specs.Ink.{keeps_alpha}
use Rattle.words.proofs.Reading.{read_channels}
use Rattle.blending.proofs.Faint.{keeps_at_0, faint-solid, as_rgb8}
use Rattle.blending.proofs.drawn.ArgbDrawn.flip.Goals as goal

pub returns : goal.returns
unfolding to_color keeps_alpha
returns c =
    let a = c.args in
    let s = to_color argb a.source in
    let e = c.flip_solid.ensures in
    elim (cases_lt a.source 16777216) [
      | inl h ↦ e.clear h ∙ keeps_at_0 argb s a.raw (omega arith)
      | inr h ↦ e.seen h
          ∙ ap (λ (v : ℕ). 4278190080 + bit_xor a.raw v % 16777216) (c.faint_word.ensures ∙ as_rgb8 (to_color argb a.source))
          ∙ faint-solid argb s a.raw refl (read_channels argb a.source) (λ e. omega arith)
    ]
