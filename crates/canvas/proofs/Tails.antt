-- Rows with a tail: no call changes a byte of one; and a canvas whose row is its width is refused as if there were no rows.
use Rattle.std.proofs.Common.{◌≡◌, ℕ, Bool, true, false, ◌||◌, ltb, List, [], ◌∷◌, length, get_or, refl, ap, ◌∙◌, le_refl, le-ltb, Ok, Err}
use Rattle.pixels.specs.declared.Canvas.{Canvas}
use Rattle.canvas.specs.declared.Clip.{Clip}
use Rattle.canvas.specs.declared.Refusal.TheVariants.{Size, Row}
use Rattle.pixels.specs.Bytes.{byte, get, Tail}
use Rattle.canvas.specs.Faults.{Verdict, fault, format_fault, rule_fault, size_fault, row_fault, length_fault, or_else, first, verdict}
use Rattle.canvas.specs.Plot.{Plot}
use Rattle.canvas.specs.Call.{Call, clip_of, fault_of, plots, drawing, call}
use Rattle.canvas.specs.Calls.{after}
use Rattle.pixels.proofs.bytes.Tails.{tail_free}
use Rattle.canvas.proofs.plot.Paints.{untouched}

-- "Bytes in the tails stay as they are in every call": whatever is plotted, accepted or refused. A copy is a drawing too.
pub tail_stays : (d : Verdict) (v : Canvas) (c : Clip) (ps : List Plot) (b : List ℕ) (o : ℕ) → Tail v o → get_or (drawing d v c ps b).bytes o 0 ≡ get_or b o 0
unfolding drawing get
tail_stays (Ok u) v c ps b o t = untouched v c ps b (byte o) (tail_free v o t)
tail_stays (Err r) v c ps b o t = refl

-- and so through a list of calls, with XOR on or off
pub tails-after : (v : Canvas) (ks : List Call) (b : List ℕ) (o : ℕ) → Tail v o → get_or (after v ks b) o 0 ≡ get_or b o 0
unfolding after
tails-after v [] b o t = refl
tails-after v (k ∷ ks) b o t =
    tails-after v ks (call v k b).bytes o t ∙ tail_stays (or_else (verdict v (length b)) (fault_of k)) v (clip_of k) (plots v k) b o t

-- where the row is the width, its test finds nothing that SIZE's has not found
row_idle : (w r h : ℕ) (d : Verdict) → r ≡ w
    → or_else (fault (ltb 32767 w || ltb 32767 h) Size) (or_else (fault (ltb r w || ltb 32767 r) Row) d) ≡ or_else (fault (ltb 32767 w || ltb 32767 h) Size) d
unfolding or_else
row_idle w r h d e = rw (e, le-ltb w w (le_refl w)) (go (ltb 32767 w) (ltb 32767 h))
  where
    go : (a t : Bool) → or_else (fault (a || t) Size) (or_else (fault a Row) d) ≡ or_else (fault (a || t) Size) d
    go true t = refl
    go false true = refl
    go false false = refl

pub even_verdict :
    (v : Canvas) (n : ℕ) → v.row ≡ v.width → verdict v n ≡ first (format_fault v ∷ rule_fault v ∷ size_fault v ∷ length_fault v n ∷ [])
unfolding verdict first size_fault row_fault
even_verdict v n e =
    ap (λ (d : Verdict). or_else (format_fault v) (or_else (rule_fault v) d))
    (row_idle v.width v.row v.height (or_else (length_fault v n) (Ok tt)) e)
