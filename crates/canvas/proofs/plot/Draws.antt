-- Plots one after the other.
use Rattle.std.proofs.Common.{◌≡◌, ℕ, suc, ◌+◌, ◌<◌, ◌≤◌, Bool, List, [], ◌∷◌, ◌++◌, length, sym, refl, ap, ◌∙◌, arith}
use Rattle.pixels.specs.declared.Canvas.{Canvas}
use Rattle.canvas.specs.declared.Clip.{Clip}
use Rattle.canvas.specs.declared.Tally.{Tally}
use Rattle.pixels.specs.Bytes.{pitch, pixel, extent, load_at, store_at, Sized}
use Rattle.pixels.specs.Hits.{touch}
use Rattle.canvas.specs.Plot.{Plot, Fate, landed, outside, clipped, on_canvas, fate, hit_of}
use Rattle.canvas.specs.Walk.{plus, Work, work, act, drawn, Fits, Ready, Did}
use Rattle.pixels.proofs.bytes.Pixels.{sized-length}
use Rattle.pixels.proofs.Hits.{touch-length}

-- ---- one plot

pub did_one : (v : Canvas) (c : Clip) (p : Plot) (f : Fate) (w w' : Work) → fate v c p ≡ f → w' ≡ act v p f w → Did v c (p ∷ []) w w'
unfolding drawn
did_one v c p f w w' e h = record { same = rw (e, drawn) h }

-- ---- plots one after the other

pub did_none : {v : Canvas} {c : Clip} {w : Work} → Did v c [] w w
unfolding drawn
did_none = record { same = refl }

pub drawn-append : (v : Canvas) (c : Clip) (ps qs : List Plot) (w : Work) → drawn v c (ps ++ qs) w ≡ drawn v c qs (drawn v c ps w)
unfolding drawn
drawn-append v c [] qs w = refl
drawn-append v c (p ∷ ps) qs w = drawn-append v c ps qs (act v p (fate v c p) w)

-- the length of the bytes is kept
act-length : (v : Canvas) (p : Plot) (f : Fate) (w : Work) → length (act v p f w).bytes ≡ length w.bytes
act-length v p landed w = touch-length v w.bytes (hit_of p)
act-length v p outside w = refl
act-length v p clipped w = refl

pub drawn-length : (v : Canvas) (c : Clip) (ps : List Plot) (w : Work) → length (drawn v c ps w).bytes ≡ length w.bytes
unfolding drawn
drawn-length v c [] w = refl
drawn-length v c (p ∷ ps) w = drawn-length v c ps (act v p (fate v c p) w) ∙ act-length v p (fate v c p) w

-- the tally grows by at most one a plot
act_grows : (v : Canvas) (p : Plot) (f : Fate) (w : Work) → (w.tally.landed ≤ (act v p f w).tally.landed) × ((act v p f w).tally.landed ≤ suc w.tally.landed)
act_grows v p landed w = (omega arith, omega arith)
act_grows v p outside w = (omega arith, omega arith)
act_grows v p clipped w = (omega arith, omega arith)

pub drawn_grows : (v : Canvas) (c : Clip) (ps : List Plot) (w : Work)
    → (w.tally.landed ≤ (drawn v c ps w).tally.landed) × ((drawn v c ps w).tally.landed ≤ w.tally.landed + length ps)
unfolding drawn
drawn_grows v c [] w = (omega arith, omega arith)
drawn_grows v c (p ∷ ps) w =
    let a = act_grows v p (fate v c p) w in
    let d = drawn_grows v c ps (act v p (fate v c p) w) in
    (omega arith, omega arith)

pub did_append : {v : Canvas} {c : Clip} (ps qs : List Plot) {w w' w'' : Work} → Did v c ps w w' → Did v c qs w' w'' → Did v c (ps ++ qs) w w''
did_append {v} {c} ps qs {w} d e = record { same = e.same ∙ ap (drawn v c qs) d.same ∙ sym (drawn-append v c ps qs w) }

pub did_length : {v : Canvas} {c : Clip} {ps : List Plot} {w w' : Work} → Did v c ps w w' → length w'.bytes ≡ length w.bytes
did_length {v} {c} {ps} {w} d = ap (λ (x : Work). length x.bytes) d.same ∙ drawn-length v c ps w

-- ---- whether XOR is on says nothing of where plots land and of the words there

abbrev pub xored : Canvas → Bool → Canvas
xored v t = record { format = v.format; width = v.width; height = v.height; row = v.row; xor = t; rule = v.rule }

act_xored : (v : Canvas) (t : Bool) (p : Plot) (f : Fate) (w : Work) → act (xored v t) p f w ≡ act v p f w
unfolding touch load_at store_at pixel pitch
act_xored v t p landed w = refl
act_xored v t p outside w = refl
act_xored v t p clipped w = refl

drawn_xored : (v : Canvas) (t : Bool) (c : Clip) (ps : List Plot) (w : Work) → drawn (xored v t) c ps w ≡ drawn v c ps w
unfolding drawn fate on_canvas
drawn_xored v t c [] w = refl
drawn_xored v t c (p ∷ ps) w =
    ap (drawn (xored v t) c ps) (act_xored v t p (fate v c p) w) ∙ drawn_xored v t c ps (act v p (fate v c p) w)

pub did_xored : {v : Canvas} (t : Bool) {c : Clip} {ps : List Plot} {w w' : Work} → Did (xored v t) c ps w w' → Did v c ps w w'
did_xored {v} t {c} {ps} {w} d = record { same = d.same ∙ drawn_xored v t c ps w }

pub sized_xored : {v : Canvas} (t : Bool) {b : List ℕ} → Sized v b → Sized (xored v t) b
unfolding extent pitch
sized_xored t s = record { known = s.known; wide = s.wide; high = s.high; rows = s.rows; tails = s.tails; long = s.long }

-- ---- what the callees may count on

-- the first of the plots, and what comes after them
pub ready_front : {v : Canvas} {c : Clip} (ps qs : List Plot) {w : Work} → Ready v c (ps ++ qs) w → Ready v c ps w
ready_front {v} {c} ps qs {w} r = record {
  sized = r.sized;
  room = omega (arith, r.room, ap (λ (x : Work). x.tally.landed) (drawn-append v c ps qs w), (drawn_grows v c qs (drawn v c ps w)).0);
}

pub ready_back : {v : Canvas} {c : Clip} {ps qs : List Plot} {w w' : Work} → Did v c ps w w' → Ready v c (ps ++ qs) w → Ready v c qs w'
ready_back {v} {c} {ps} {qs} {w} {w'} d r = record {
  sized = sized-length (did_length d) r.sized;
  room = omega (arith, r.room, ap (λ (x : Work). x.tally.landed) (drawn-append v c ps qs w), ap (λ (x : Work). (drawn v c qs x).tally.landed) d.same);
}

-- the tally of one that lands
pub one_fits : {v : Canvas} {c : Clip} {p : Plot} {w : Work} → fate v c p ≡ landed → Ready v c (p ∷ []) w → Fits (plus w.tally 1)
unfolding drawn
one_fits e r = rw e at r.room

-- plots from an empty tally, few enough to be counted
pub ready_few : {v : Canvas} {c : Clip} {ps : List Plot} {b : List ℕ} {t : Tally} → Sized v b → t.landed ≡ 0 → length ps < 18446744073709551616 → Ready v c ps (work b t)
ready_few {v} {c} {ps} {b} {t} s e l = record { sized = s; room = omega (arith, (drawn_grows v c ps (work b t)).1) }
