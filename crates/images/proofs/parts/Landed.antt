-- A part that was painted and counted: the plots of its box were made.
use Rattle.std.proofs.Common.{◌≡◌, ℕ, ◌*◌, List, length, sym, ap, ap₂, ◌∙◌, zero-add}
use Rattle.pixels.specs.declared.Canvas.{Canvas}
use Rattle.pixels.specs.Hits.{Hit, paint}
use Rattle.pixels.proofs.rows.Rows.{field-length}
use Rattle.canvas.specs.declared.Clip.{Clip}
use Rattle.canvas.specs.Plot.{Plot, hits}
use Rattle.canvas.specs.Walk.{work, Did}
use Rattle.canvas.proofs.plot.Paints.{drawn-is}
use Rattle.images.specs.declared.parts.Part.{Part}
use Rattle.images.specs.Parts.{filled}

pub part_did : (v : Canvas) (c : Clip) (ps : List Plot) (f : ℕ → ℕ → ℕ → ℕ) (p : Part) (b b' : List ℕ) (n : ℕ) → hits v c ps ≡ filled f p
    → b' ≡ paint v (filled f p) b → n ≡ p.h * p.w → Did v c ps (work b (record { landed = 0 })) (work b' (record { landed = n }))
part_did v c ps f p b b' n e q k = record {
  same = ap₂ (λ (b : List ℕ) (n : ℕ). work b (record { landed = n })) (q ∙ ap (λ (hs : List Hit). paint v hs b) (sym e))
      (k ∙ sym (ap length e ∙ field-length f p.x p.w p.y p.h) ∙ sym (zero-add (length (hits v c ps))))
      ∙ sym (drawn-is v c ps (work b (record { landed = 0 })));
}
