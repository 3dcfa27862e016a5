-- Which calls are accepted: those without a fault of the canvas or of their own, and what is answered then.
use Rattle.std.proofs.Common.{◌≡◌, ℕ, List, length, refl, Ok, Err}
use Rattle.pixels.specs.declared.Canvas.{Canvas}
use Rattle.canvas.specs.declared.Refusal.{Refusal}
use Rattle.canvas.specs.Faults.{number, or_else, verdict}
use Rattle.canvas.specs.Plot.{hits}
use Rattle.canvas.specs.Call.{Call, clip_of, fault_of, plots, outcome, drawing, call}

-- a build that refuses everything is none of ours: without a fault the number is 0
pub accepted : (v : Canvas) (k : Call) (b : List ℕ) → verdict v (length b) ≡ Ok tt → fault_of k ≡ Ok tt → (call v k b).status ≡ 0
unfolding drawing or_else
accepted v k b e f = rw e (rw f refl)

-- nor is one that invents the count: it is that of the plots that land
pub counted : (v : Canvas) (k : Call) (b : List ℕ) → verdict v (length b) ≡ Ok tt → fault_of k ≡ Ok tt → (call v k b).count ≡ length (hits v (clip_of k) (plots v k))
unfolding drawing or_else
counted v k b e f = rw e (rw f refl)

-- with a fault the number is the fault's, the count 0, and the bytes are as before
pub refused : (v : Canvas) (k : Call) (b : List ℕ) (r : Refusal) → or_else (verdict v (length b)) (fault_of k) ≡ Err r → call v k b ≡ outcome (number r) 0 b
unfolding drawing
refused v k b r e = rw e refl

-- the canvas's fault comes first, and the call's own where there is none
pub canvas_refused : (v : Canvas) (k : Call) (b : List ℕ) (r : Refusal) → verdict v (length b) ≡ Err r → call v k b ≡ outcome (number r) 0 b
unfolding drawing or_else
canvas_refused v k b r e = rw e refl

pub own_refused : (v : Canvas) (k : Call) (b : List ℕ) (r : Refusal) → verdict v (length b) ≡ Ok tt → fault_of k ≡ Err r → call v k b ≡ outcome (number r) 0 b
unfolding drawing or_else
own_refused v k b r e f = rw e (rw f refl)
