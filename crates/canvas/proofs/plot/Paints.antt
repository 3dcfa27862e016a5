-- What plots leave is the paint of the landed ones, and their number; inks that agree on words paint alike; and what is
-- no pixel's is unchanged.
use Rattle.std.proofs.Common.{◌≡◌, ℕ, suc, ◌+◌, ◌<◌, List, [], ◌∷◌, length, nat_abs, refl, ap, ◌∙◌, ap₂, arith}
use Rattle.words.specs.Format.{range}
use Rattle.pixels.specs.declared.Canvas.{Canvas}
use Rattle.canvas.specs.declared.Clip.{Clip}
use Rattle.canvas.specs.declared.Tally.{Tally}
use Rattle.pixels.specs.Bytes.{Cell, get, form, On}
use Rattle.canvas.specs.Plot.{Point, Plot, plot, inks, Fate, landed, outside, clipped, fate, hit_of, keep, hits}
use Rattle.pixels.specs.Hits.{Hit, touch, paint}
use Rattle.canvas.specs.Walk.{Work, work, act, drawn}
use Rattle.pixels.proofs.bytes.Cells.{Bytes}
use Rattle.canvas.proofs.plot.Fates.{lands_on}
use Rattle.pixels.proofs.bytes.Pixels.{Free, get-store}
use Rattle.pixels.proofs.Hits.{touch-ink, touch-bytes}

abbrev tally : ℕ → Tally
tally n = record { landed = n }

act_paints : (v : Canvas) (p : Plot) (f : Fate) (hs : List Hit) (w : Work) → paint v hs (act v p f w).bytes ≡ paint v (keep f (hit_of p) hs) w.bytes
unfolding paint
act_paints v p landed hs w = refl
act_paints v p outside hs w = refl
act_paints v p clipped hs w = refl

act_counts : (v : Canvas) (p : Plot) (f : Fate) (hs : List Hit) (w : Work) → (act v p f w).tally.landed + length hs ≡ w.tally.landed + length (keep f (hit_of p) hs)
act_counts v p landed hs w = omega arith
act_counts v p outside hs w = refl
act_counts v p clipped hs w = refl

pub drawn-is : (v : Canvas) (c : Clip) (ps : List Plot) (w : Work)
    → drawn v c ps w ≡ work (paint v (hits v c ps) w.bytes) (tally (w.tally.landed + length (hits v c ps)))
unfolding drawn hits paint
drawn-is v c [] w = ap (λ (n : ℕ). work w.bytes (tally n)) (omega arith)
drawn-is v c (p ∷ ps) w =
    drawn-is v c ps (act v p (fate v c p) w)
    ∙ ap₂ (λ (b : List ℕ) (n : ℕ). work b (tally n))
    (act_paints v p (fate v c p) (hits v c ps) w) (act_counts v p (fate v c p) (hits v c ps) w)

-- ---- inks that agree on words

act-bytes : (v : Canvas) (p : Plot) (f : Fate) (w : Work) → Bytes w.bytes → Bytes (act v p f w).bytes
act-bytes v p landed w h = touch-bytes v w.bytes (hit_of p) h
act-bytes v p outside w h = h
act-bytes v p clipped w h = h

module _ (v : Canvas) (c : Clip) (f g : ℕ → ℕ) (e : (w : ℕ) → w < range (form v) → f w ≡ g w) where
  act-ink : (p : Point) (t : Fate) (w : Work) → Bytes w.bytes → act v (plot f p.x p.y) t w ≡ act v (plot g p.x p.y) t w
  act-ink p landed w h = ap (λ (b : List ℕ). work b (tally (w.tally.landed + 1))) (touch-ink v w.bytes (nat_abs p.x) (nat_abs p.y) f g h e)
  act-ink p outside w h = refl
  act-ink p clipped w h = refl

  pub drawn-ink : (ps : List Point) (w : Work) → Bytes w.bytes → drawn v c (inks f ps) w ≡ drawn v c (inks g ps) w
  unfolding drawn inks fate
  drawn-ink [] w h = refl
  drawn-ink (p ∷ ps) w h =
      let t = fate v c (plot f p.x p.y) in
      drawn-ink ps (act v (plot f p.x p.y) t w) (act-bytes v (plot f p.x p.y) t w h)
      ∙ ap (drawn v c (inks g ps)) (act-ink p t w h)

pub inks-length : (f : ℕ → ℕ) (ps : List Point) → length (inks f ps) ≡ length ps
unfolding inks
inks-length f [] = refl
inks-length f (p ∷ ps) = ap suc (inks-length f ps)

-- ---- a cell that no pixel has keeps its value, whatever is drawn

keep_free : (v : Canvas) (f : Fate) (h : Hit) (hs : List Hit) (b : List ℕ) (e : Cell) → Free v e → (f ≡ landed → On v h.x h.y)
    → ((b' : List ℕ) → get (paint v hs b') e ≡ get b' e) → get (paint v (keep f h hs) b) e ≡ get b e
unfolding paint touch
keep_free v landed h hs b e free on rest = rest (touch v b h) ∙ get-store v b h.x h.y _ e free (on refl)
keep_free v outside h hs b e free on rest = rest b
keep_free v clipped h hs b e free on rest = rest b

pub untouched : (v : Canvas) (c : Clip) (ps : List Plot) (b : List ℕ) (e : Cell) → Free v e → get (paint v (hits v c ps) b) e ≡ get b e
unfolding hits paint
untouched v c [] b e free = refl
untouched v c (p ∷ ps) b e free =
    keep_free v (fate v c p) (hit_of p) (hits v c ps) b e free (lands_on v c p) (λ b'. untouched v c ps b' e free)
