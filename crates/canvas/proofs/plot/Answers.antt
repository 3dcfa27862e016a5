-- From the inner functions to the calls: what a sound canvas and a faulty one answer.
use Rattle.std.proofs.Common.{◌≡◌, ℕ, ◌+◌, ◌<◌, List, [], ◌∷◌, length, sym, refl, ap, ◌∙◌, zero-add, arith, Result, Ok, Err, IsErrAnd}
use Rattle.words.specs.declared.Color.{Color}
use Rattle.words.specs.declared.Ink.{Ink}
use Rattle.words.specs.Format.{range}
use Rattle.words.specs.Ink.{plot_ink, inked}
use Rattle.words.proofs.Laws.{Channels, ink-is}
use Rattle.words.proofs.Stamps.{plot-keeps}
use Rattle.pixels.specs.declared.Canvas.{Canvas}
use Rattle.canvas.specs.declared.Clip.{Clip}
use Rattle.canvas.specs.declared.Refusal.{Refusal}
use Rattle.canvas.specs.declared.Tally.{Tally}
use Rattle.pixels.specs.Bytes.{form, Sized}
use Rattle.canvas.specs.Faults.{Verdict, or_else, verdict, as_source}
use Rattle.canvas.specs.Plot.{Plot, plot, Point, inks, Dye, plain, tint, dip, hits}
use Rattle.pixels.specs.Hits.{paint}
use Rattle.canvas.specs.Call.{brush, outcome, status_of, count_of, leaves, drawing}
use Rattle.canvas.specs.Walk.{Work, work, Keeps, Did}
use Rattle.pixels.proofs.bytes.Cells.{Bytes}
use Rattle.canvas.proofs.plot.Paints.{drawn-is, drawn-ink}
use Rattle.canvas.proofs.faults.Verdicts.{or_nothing, both_sound, sized}

-- points in one dye
pub dip-tint : (g : Dye → ℕ → ℕ) (d : Dye) (ps : List Point) → dip g (tint d ps) ≡ inks (g d) ps
unfolding dip tint inks
dip-tint g d [] = refl
dip-tint g d (p ∷ ps) = ap (λ (l : List Plot). plot (g d) p.x p.y ∷ l) (dip-tint g d ps)

-- the masks of a colour's plot keep to the word's range
pub ink-keeps : (v : Canvas) (color : Color) (i : Ink) → Channels color → i ≡ plot_ink (form v) v.xor color → Keeps v i
ink-keeps v color i k e =
    record { keeps = λ w l. rw (e, ink-is (form v) v.xor color w k l) (plot-keeps (form v) v.xor color w k l) }

-- a refusal, as `?` hands it on
pub declines : (v : Canvas) (b : List ℕ) (c : Clip) (ps : List Plot) (d : Result Tally Refusal) {a : Verdict} {r : Refusal}
    → IsErrAnd d (λ e. e ≡ r) → Err r ≡ a → leaves d b ≡ drawing a v c ps b
unfolding status_of count_of drawing
declines v b c ps (Ok t) k h = absurd k
declines v b c ps (Err e) k h = rw (← h, k) refl

-- ---- the first fault of a canvas and of a source

as_source_lem : (a : Verdict) → Ok tt ≡ as_source a → a ≡ Ok tt
as_source_lem (Ok u) q = refl
as_source_lem (Err r) q = absurd (let z : ◌≡◌ {A = ℕ} 0 1 = cc in omega arith)

pub source_sized : (s : Canvas) (m : List ℕ) → Ok tt ≡ as_source (verdict s (length m)) → Sized s m
source_sized s m q = sized s m (as_source_lem (verdict s (length m)) q)

-- the plots were made, and the call is accepted
pub finishes : (v : Canvas) (b : List ℕ) (c : Clip) (ps : List Plot) (a : Verdict) (t₀ t : Tally) (b' : List ℕ) → Ok tt ≡ a → t₀.landed ≡ 0 → Did v c ps (work b t₀) (work b' t)
    → leaves (Ok t) b' ≡ drawing a v c ps b
unfolding status_of count_of drawing
finishes v b c ps a t₀ t b' h z w =
    let q : work b' t ≡ work (paint v (hits v c ps) b) (record { landed = 0 + length (hits v c ps) })
    = w.same ∙ drawn-is v c ps (work b t₀) ∙ ap (λ (n : ℕ). work (paint v (hits v c ps) b) (record { landed = n + length (hits v c ps) })) z in
    ap (λ (x : Work). outcome 0 x.tally.landed x.bytes) q
    ∙ ap (λ (n : ℕ). outcome 0 n (paint v (hits v c ps) b)) (zero-add (length (hits v c ps)))
    ∙ rw (← h) refl

-- an ink that agrees on words
pub did_ink : {v : Canvas} {c : Clip} (f g : ℕ → ℕ) (ps : List Point) {w w' : Work} → Bytes w.bytes → ((u : ℕ) → u < range (form v) → f u ≡ g u)
    → Did v c (inks f ps) w w' → Did v c (inks g ps) w w'
did_ink {v} {c} f g ps {w} o k d = record { same = d.same ∙ drawn-ink v c f g k ps w o }

-- the code draws with the masks of an ink; the rules speak of the dye
pub draws : (v : Canvas) (b : List ℕ) (c : Clip) (d : Dye) (ps : List Point) (i : Ink) (a : Verdict) (t : Tally) (b' : List ℕ) → Ok tt ≡ a → Bytes b
    → ((u : ℕ) → u < range (form v) → inked i u ≡ brush v d u) → Did v c (inks (inked i) ps) (work b (record { landed = 0 })) (work b' t)
    → leaves (Ok t) b' ≡ drawing a v c (dip (brush v) (tint d ps)) b
draws v b c d ps i a t b' h o k w =
    rw (dip-tint (brush v) d ps) (finishes v b c (inks (brush v d) ps) a (record { landed = 0 }) t b' h refl (did_ink (inked i) (brush v d) ps o k w))

-- ---- what the first fault of a call of one colour says

-- the canvas's alone
pub alone : {d f : Verdict} → d ≡ f → d ≡ or_else f (Ok tt)
alone {f = f} e = e ∙ sym (or_nothing f)

-- the canvas's, or the call's own behind it
pub canvas_first : {r : Refusal} {f : Verdict} (own : Verdict) → Err r ≡ f → Err r ≡ or_else f own
unfolding or_else
canvas_first own e = rw (← e) refl

pub own_next : {d f own : Verdict} → Ok tt ≡ f → d ≡ own → d ≡ or_else f own
unfolding or_else
own_next e k = rw (← e) k

module _ (v : Canvas) (b : List ℕ) (own : Verdict) (h : Ok tt ≡ or_else (verdict v (length b)) own) where
  pub start-sized : Sized v b
  start-sized = sized v b (both_sound (verdict v (length b)) own (sym h)).0

  pub start_own : own ≡ Ok tt
  start_own = (both_sound (verdict v (length b)) own (sym h)).1

  -- what is then drawn with the colour's ink
  pub start_draws : (color : Color) (i : Ink) → i ≡ plot_ink (form v) v.xor color
      → (c : Clip) (ps : List Point) (t : Tally) (b' : List ℕ) → Bytes b → Channels color → Did v c (inks (inked i) ps) (work b (record { landed = 0 })) (work b' t)
      → leaves (Ok t) b' ≡ drawing (or_else (verdict v (length b)) own) v c (dip (brush v) (tint (plain color) ps)) b
  start_draws color i e c ps t b' q k w =
      draws v b c (plain color) ps i (or_else (verdict v (length b)) own) t b' h q (λ u l. rw e (ink-is (form v) v.xor color u k l)) w
