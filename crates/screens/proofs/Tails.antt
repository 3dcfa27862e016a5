-- Bytes in the tails stay as they are, whatever is done to a screen: calls and copies by functions that are run, one after the other, and
-- XOR switched on and off between them.
use mathlib.Core.Path.{◌≡◌, refl, ap, ◌∙◌}
use mathlib.Core.Bool.{Bool}
use mathlib.Core.List.{List}
use Prim.Native.Nat.{ℕ}
use lib.ListN.{length, get_or}
use Rattle.pixels.specs.declared.Canvas.{Canvas}
use Rattle.pixels.specs.Bytes.{column, pitch, Tail}
use Rattle.canvas.specs.Faults.{or_else, verdict}
use Rattle.canvas.specs.Call.{Call, clip_of, fault_of, plots, call}
use Rattle.images.specs.Areas.{copy_area}
use Rattle.canvas.proofs.Tails.{tail_stays}
use Rattle.screens.proofs.Runs.{Copy, copy, Maker}

-- the canvas with the switch on or off
abbrev pub switched : Canvas → Bool → Canvas
switched v x = record { format = v.format; width = v.width; height = v.height; row = v.row; xor = x; rule = v.rule }

-- `History M v b b'`: b became b' by calls and copies on v, each with XOR on or off
pub data History (M : Maker) (v : Canvas) : List ℕ → List ℕ → Type 0 where
  nothing : {b : List ℕ} → History M v b b
  a_call : {x : Bool} {k : Call} {b b' b'' : List ℕ} {a : M.Answer} → M.Made (switched v x) k b a b' → History M v b' b'' → History M v b b''
  a_copy : {x : Bool} {k : Copy} {b b' b'' : List ℕ} → M.Copied (switched v x) k b b' → History M v b' b'' → History M v b b''

-- where the tails are does not hang on the switch
same_tail : (v : Canvas) (x : Bool) (o : ℕ) → Tail v o → Tail (switched v x) o
unfolding column pitch
same_tail v x o t = t

call_stays : (v : Canvas) (k : Call) (b : List ℕ) (o : ℕ) → Tail v o → get_or (call v k b).bytes o 0 ≡ get_or b o 0
call_stays v k b o t = tail_stays (or_else (verdict v (length b)) (fault_of k)) v (clip_of k) (plots v k) b o t

copy-stays : (v : Canvas) (k : Copy) (b : List ℕ) (o : ℕ) → Tail v o → get_or (copy v k b).bytes o 0 ≡ get_or b o 0
unfolding copy_area
copy-stays v k b o t = tail_stays (verdict v (length b)) v k.clip _ b o t

pub tails_stay : (M : Maker) {v : Canvas} {b b' : List ℕ} → History M v b b' → (o : ℕ) → Tail v o → get_or b' o 0 ≡ get_or b o 0
tails_stay M nothing o t = refl
tails_stay M {v} (a_call {x = x} {k = k} {b = b} m p) o t =
    tails_stay M p o t ∙ ap (λ (c : List ℕ). get_or c o 0) (M.leaving m) ∙ call_stays (switched v x) k b o (same_tail v x o t)
tails_stay M {v} (a_copy {x = x} {k = k} {b = b} m p) o t =
    tails_stay M p o t ∙ ap (λ (c : List ℕ). get_or c o 0) (M.copying m) ∙ copy-stays (switched v x) k b o (same_tail v x o t)
