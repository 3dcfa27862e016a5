-- No two outcomes: what a contract lets a call of images and copies answer and leave is one thing.
use mathlib.Core.Path.{◌≡◌, sym, ap, ◌∙◌}
use mathlib.Core.List.{List}
use Prim.Native.Nat.{ℕ}
use Rattle.canvas.specs.Call.{Outcome}
use Rattle.canvas.proofs.Determined.{leaves-same}
use Rattle.images.proofs.copy.copy_area.Reads as copy-area
use Rattle.images.proofs.copy.copy_counted.Reads as copy-counted
use Rattle.images.proofs.pictures.draw.Reads as draw

pub copy_counted_determined : (κs : _) (a : _) (s s' : _) (r r' : _) → copy-counted.Post κs a r s → copy-counted.Post κs a r' s'
    → (r ≡ r') × ((s.1.0.now ≡ s'.1.0.now) × (s.1.1.1.1.1.1.1.1.1.0.now ≡ s'.1.1.1.1.1.1.1.1.1.0.now))
copy_counted_determined κs a s s' r r' p q =
    let e = p ∙ sym q in
    let l = leaves-same r r' s.1.0.now s'.1.0.now (ap (λ (t : Outcome × List ℕ). t.0) e) in
    (l.0, (l.1, ap (λ (t : Outcome × List ℕ). t.1) e))

pub copy_area_determined : (κs : _) (a : _) (s s' : _) (r r' : _) → copy-area.Post κs a r s → copy-area.Post κs a r' s' → (r ≡ r') × (s.1.0.now ≡ s'.1.0.now)
copy_area_determined κs a s s' r r' p q = leaves-same r r' s.1.0.now s'.1.0.now (p ∙ sym q)

pub draw_determined : (κs : _) (a : _) (s s' : _) (r r' : _) → draw.Post κs a r s → draw.Post κs a r' s' → (r ≡ r') × (s.1.0.now ≡ s'.1.0.now)
draw_determined κs a s s' r r' p q = leaves-same r r' s.1.0.now s'.1.0.now (p ∙ sym q)
