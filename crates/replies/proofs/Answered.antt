-- From the contracts of the calls to the answers.
use Rattle.std.specs.Prelude.{Option, Result}
use mathlib.Core.List.{List, ◌++◌}
use mathlib.Core.Path.{◌≡◌, sym, ap, ◌∙◌}
use Prim.Native.Nat.{ℕ, ◌-◌, ◌*◌, ◌≤◌, min}
use native.Mathlib.Decide.{dec_le}
use native.Mathlib.Omega.{arith}
use lib.Dec.{eqb}
use lib.IntN.{ℤ}
use lib.ListN.{length, take, drop, drop_of_length-le}
use lib.Seq.{take_all}
use Rattle.words.specs.declared.Color.{Color}
use Rattle.pixels.specs.declared.Canvas.{Canvas}
use Rattle.canvas.specs.declared.Clip.{Clip}
use Rattle.canvas.specs.declared.Refusal.{Refusal}
use Rattle.canvas.specs.Call.{Landed, leaves, status_of, count_of}
use Rattle.canvas.specs.Look.{reads, pixel_at, Reading}
use Rattle.lbmp.specs.Call.{outcome, reading, decoding}
use Rattle.lbmp.specs.Call.{Reading as Judgement}
use Rattle.lbmp.specs.Call.{reads as judgedAs}
use Rattle.lbmp.specs.declared.Image.{Image}
use Rattle.lbmp.specs.declared.Refusal.{Refusal as Fault}
use Rattle.cases.specs.declared.case.Case.{Case}
use Rattle.cases.specs.declared.answer.Answer.{Answer}
use Rattle.cases.specs.declared.answer.Found.{Found}
use Rattle.cases.specs.declared.answer.Found.TheVariants as found
use Rattle.cases.specs.Hash.{hash_of, all_bytes}
use Rattle.cases.specs.Ops as op
use Rattle.replies.specs.Numbers.{word_at, color_at, clip_at, canvas_at, clip_start}
use Rattle.replies.specs.Calls.{drawn_by}
use Rattle.replies.specs.Answers.{answer, argb_of, told, counted, drew, drawn, looked, decoded, decoded_by, bitmap_of, Response, respond_by, respond_to}

-- The colour and the clip are those of the line, and the hash is that of what the call leaves.
pub drew-is : {a : Answer} {c : Color} {k : Clip} {at x : ℕ} {b' : List ℕ} (o : ℕ) (n : List ℕ) (v : Canvas) (image b : List ℕ) (d : Landed)
    → at ≡ clip_start o → c ≡ color_at n (at - 4) → k ≡ clip_at n at → leaves d b' ≡ drawn_by o n v c k image b → x ≡ hash_of b'
    → a ≡ told o (status_of d) (count_of d) x → (a, b') ≡ drew o (drawn o n v image b)
unfolding drawn counted
drew-is {b'} o n v image b d ea ec ek h ex e =
    let h' : leaves d b' ≡ drawn_by o n v (color_at n (clip_start o - 4)) (clip_at n (clip_start o)) image b = rw ea at (rw (ec, ek) at h) in
    rw (e, ex) (ap (drew o) h')

pub looked-is : {s h : ℕ} {f : Found} {x y x' y' : ℤ} (v : Canvas) (b : List ℕ) (p : Result (Option Color) Refusal) → x ≡ x' → y ≡ y'
    → reads p ≡ pixel_at v b x y → h ≡ hash_of b → s ≡ (reads p).status → f ≡ argb_of (reads p).color
    → answer op.get s f h ≡ looked (pixel_at v b x' y') (hash_of b)
looked-is {x'} {y'} v b p ex ey h eh es ef =
    let h' : reads p ≡ pixel_at v b x' y' = rw (ex, ey) at h in
    rw (es, ef, eh) (ap (λ (r : Reading). looked r (hash_of b)) h')

-- No more is taken or left than there is.
module _ {A : Type 0} (k n : ℕ) (l : List A) (e : n ≡ min k (length l)) where
  take_by : Dec (k ≤ length l) → take n l ≡ take k l
  take_by (yes h) = let z : n ≡ k = omega arith in ap (λ (i : ℕ). take i l) z
  take_by (no h) = let z : length l ≤ n = omega arith in let w : length l ≤ k = omega arith in take_all n l z ∙ sym (take_all k l w)

  drop_by : Dec (k ≤ length l) → drop n l ≡ drop k l
  drop_by (yes h) = let z : n ≡ k = omega arith in ap (λ (i : ℕ). drop i l) z
  drop_by (no h) = let z : length l ≤ n = omega arith in let w : length l ≤ k = omega arith in drop_of_length-le l z ∙ sym (drop_of_length-le l w)

  pub taken : take n l ≡ take k l
  taken = take_by (dec_le k (length l))

  pub dropped : drop n l ≡ drop k l
  dropped = drop_by (dec_le k (length l))

-- The words that were written, and the answer.
pub decoded-is : {s w h c n x : ℕ} {ws' : List ℕ} (file ws : List ℕ) (j : Result Image Fault) → outcome (judgedAs j) ws' ≡ decoding file ws
    → reading s w h c ≡ judgedAs j → n ≡ min (w * h) (length ws') → x ≡ hash_of (all_bytes (take n ws'))
    → (answer op.lbmp s (found.Image w h c) x, ws') ≡ decoded_by (decoding file ws)
unfolding decoded
decoded-is {s} {w} {h} {c} {n} {x} {ws'} file ws j e ej en ex =
    let p : x ≡ hash_of (all_bytes (take (w * h) ws')) = ex ∙ ap (λ (t : List ℕ). hash_of (all_bytes t)) (taken (w * h) n ws' en) in
    rw p (ap (λ (r : Judgement). decoded_by (outcome r ws')) ej ∙ ap decoded_by e)

pub bitmap_is : {a : Answer} {n : ℕ} {ws' : List ℕ} (room : ℕ) (file ws : List ℕ) → n ≡ min room (length ws)
    → (a, ws') ≡ decoded_by (decoding file (take n ws)) → (a, ws' ++ drop n ws) ≡ bitmap_of room file ws
unfolding bitmap_of
bitmap_is {a} {n} {ws'} room file ws e h =
    let h' : (a, ws') ≡ decoded_by (decoding file (take room ws)) = rw (taken room n ws e) at h in
    rw (dropped room n ws e) (ap (λ (p : Answer × List ℕ). (p.0, p.1 ++ drop room ws)) h')

-- The canvas is that of the line.
pub respond_is : {r : Response} {v : Canvas} {w : ℕ} (c : Case) (b file ws : List ℕ) → w ≡ word_at c.head 3 → v ≡ canvas_at c.head 0 5 (eqb w 1)
    → r ≡ respond_by c.name c.args v b file ws → r ≡ respond_to c b file ws
unfolding respond_to
respond_is c b file ws ew ev h = rw ew at (rw ev at h)
