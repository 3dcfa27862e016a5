-- What a lifted point off the canvas and one on it read as.
use Rattle.std.proofs.Common.{◌≡◌, ℕ, ◌-◌, true, false, List, length, ℤ, refl, w32, SFits, to_z, of_z, Option, Some, None, Result, Ok, Err, IsErrAnd}
use Rattle.words.specs.declared.Color.{Color}
use Rattle.words.specs.Word.{to_color}
use Rattle.pixels.specs.declared.Canvas.{Canvas}
use Rattle.canvas.specs.declared.Refusal.{Refusal}
use Rattle.pixels.specs.Bytes.{form, load_at}
use Rattle.canvas.specs.Faults.{verdict}
use Rattle.canvas.specs.Plot.{on_canvas}
use Rattle.canvas.specs.Look.{status_of, seen_of, reads, look, pixel_at}
use Rattle.canvas.specs.Walk.{lifted, lowered}
use Rattle.canvas.proofs.span.Lifts.{lowered_pos, lowers}
use Rattle.canvas.proofs.plot.Fates.{lifted_on}

pub off_canvas : (v : Canvas) (b : List ℕ) (x y : ℤ) → on_canvas v x y ≡ false → None ≡ look v b x y
unfolding look
off_canvas v b x y e = rw e refl

pub color_there : (v : Canvas) (b : List ℕ) (p q w : ℕ) (c : Color) → on_canvas v (lowered p) (lowered q) ≡ true
    → w ≡ load_at v b (p - 2147483648) (q - 2147483648) → c ≡ to_color (form v) w → Some c ≡ look v b (lowered p) (lowered q)
unfolding look
color_there v b p q w c o ew ec =
    let l = lifted_on v p q o in
    rw (o, lowered_pos p l.left, lowered_pos q l.top, ← ew, ← ec) refl

module _ (v : Canvas) (b : List ℕ) (x y : ℤ) where
  pub reads_refusal : (r : Refusal) (p : Result (Option Color) Refusal) → IsErrAnd p (λ e. e ≡ r) → Err r ≡ verdict v (length b) → reads p ≡ pixel_at v b x y
  unfolding status_of seen_of pixel_at
  reads_refusal r (Ok c) k h = absurd k
  reads_refusal r (Err e) k h = rw (← h, k) refl

  pub reads_sound : (t : Option Color) (p q : ℕ) → Ok tt ≡ verdict v (length b) → SFits w32 x → SFits w32 y
      → p ≡ lifted (to_z w32 (of_z w32 x)) → q ≡ lifted (to_z w32 (of_z w32 y))
      → t ≡ look v b (lowered p) (lowered q) → reads (Ok t) ≡ pixel_at v b x y
  unfolding status_of seen_of pixel_at
  reads_sound t p q h sx sy ep eq k =
      let k' : t ≡ look v b x y = rw (lowers x p sx ep, lowers y q sy eq) at k in
      rw (← h, k') refl
