-- What a call does to the picture does not hang on the row. On two canvases that differ in it alone, with the same word at each pixel, a
-- call gives the same answer and leaves the same word at each pixel: a canvas with tails is drawn on as its visible part is.
use Rattle.std.proofs.Common.{◌≡◌, ℕ, ◌<◌, List, [], ◌∷◌, ◌++◌, length, sym, refl, ap, ◌∙◌, ap₂, Ok, Err}
use native.Mathlib.Decide.{ℕ_discrete}
use Rattle.words.specs.Format.{range}
use Rattle.words.proofs.Stamps.{plot-keeps, invert_stamps, stamps_keep}
use Rattle.blending.proofs.Laws.{blend_keeps}
use Rattle.pixels.specs.declared.Canvas.{Canvas}
use Rattle.canvas.specs.declared.Clip.{Clip}
use Rattle.pixels.specs.Bytes.{form, load_at, store_at, On}
use Rattle.pixels.specs.Hits.{Hit, touch, paint}
use Rattle.canvas.specs.Faults.{Verdict, or_else, verdict}
use Rattle.canvas.specs.Plot.{Plot, plot, Dye, plain, over, inverse, Dot, dip, fate, hits}
use Rattle.canvas.specs.Call.{Call, shape, draw, clip_of, fault_of, dots, carried, brush, plots}
use Rattle.canvas.specs.Calls.{after, unless, landings}
use Rattle.pixels.proofs.bytes.Cells.{Bytes}
use Rattle.pixels.proofs.bytes.Pixels.{load_lt, load_store, load_other}
use Rattle.pixels.proofs.Orders.{Screen, touch_screen, All, none, also, all_append}
use Rattle.canvas.proofs.faults.Verdicts.{sized}
use Rattle.canvas.proofs.plot.Fates.{lands_on}
use Rattle.canvas.proofs.plot.Sides.{Sided, AllSided, no_call, one-call, hits_sided, dots_sided}
use Rattle.canvas.proofs.plot.Landed.{keep_all}
use Rattle.canvas.proofs.Reverse.{Toned, Colored, Fine, end, then, Dots, no_more, and, every_dot, after_sound}

-- the canvas with another row
abbrev pub rowed : Canvas → ℕ → Canvas
rowed v r = record { format = v.format; width = v.width; height = v.height; row = r; xor = v.xor; rule = v.rule }

-- the same word at each pixel
pub record Alike (v : Canvas) (b : List ℕ) (u : Canvas) (t : List ℕ) : Type 0 where
  pub same : (x y : ℕ) → On v x y → load_at v b x y ≡ load_at u t x y

-- ---- hits

-- a hit on the canvas that keeps to the word's range
record Kept (v : Canvas) (h : Hit) : Type 0 where
  pub on : On v h.x h.y
  pub keeps : (w : ℕ) → w < range (form v) → h.ink w < range (form v)

module _ (v : Canvas) (r : ℕ) where
  on_rowed : {x y : ℕ} → On v x y → On (rowed v r) x y
  on_rowed o = record { across = o.across; down = o.down }

  touch_alike : (b t : List ℕ) (h : Hit) → Kept v h → Screen v b → Screen (rowed v r) t → Alike v b (rowed v r) t → Alike v (touch v b h) (rowed v r) (touch (rowed v r) t h)
  unfolding touch
  touch_alike b t h k s q a = record { same = λ x y o. go x y o (ℕ_discrete h.x x) (ℕ_discrete h.y y) }
    where
      u : Canvas
      u = rowed v r

      it : load_at v (store_at v b h.x h.y (h.ink (load_at v b h.x h.y))) h.x h.y ≡ load_at u (store_at u t h.x h.y (h.ink (load_at u t h.x h.y))) h.x h.y
      it =
          load_store v b s.long h.x h.y _ k.on (k.keeps _ (load_lt v b h.x h.y s.bytes))
          ∙ ap h.ink (a.same h.x h.y k.on)
          ∙ sym (load_store u t q.long h.x h.y _ (on_rowed k.on) (k.keeps _ (load_lt u t h.x h.y q.bytes)))

      apart : (x y : ℕ) → On v x y → (h.x ≡ x → h.y ≡ y → ⊥)
          → load_at v (store_at v b h.x h.y (h.ink (load_at v b h.x h.y))) x y ≡ load_at u (store_at u t h.x h.y (h.ink (load_at u t h.x h.y))) x y
      apart x y o n =
          load_other v b h.x h.y _ x y k.on o n ∙ a.same x y o ∙ sym (load_other u t h.x h.y _ x y (on_rowed k.on) (on_rowed o) n)

      go : (x y : ℕ) → On v x y → Dec (h.x ≡ x) → Dec (h.y ≡ y)
          → load_at v (store_at v b h.x h.y (h.ink (load_at v b h.x h.y))) x y ≡ load_at u (store_at u t h.x h.y (h.ink (load_at u t h.x h.y))) x y
      go x y o (yes e) (yes d) = rw (← e, ← d) it
      go x y o (no n) d = apart x y o (λ e f. n e)
      go x y o (yes e) (no n) = apart x y o (λ e f. n f)

  paint_alike : (hs : List Hit) (b t : List ℕ) → All (Kept v) hs → Screen v b → Screen (rowed v r) t → Alike v b (rowed v r) t
      → Alike v (paint v hs b) (rowed v r) (paint (rowed v r) hs t)
  unfolding paint
  paint_alike [] b t none s q a = a
  paint_alike (h ∷ hs) b t (also k ks) s q a =
      paint_alike hs (touch v b h) (touch (rowed v r) t h) ks (touch_screen h s) (touch_screen h q) (touch_alike b t h k s q a)

-- ---- the plots of a call

abbrev Keeping : Canvas → Dye → Type 0
Keeping v d = (w : ℕ) → w < range (form v) → brush v d w < range (form v)

keeping : (v : Canvas) (d : Dye) → Toned d → Keeping v d
keeping v (plain c) h w l = plot-keeps (form v) v.xor c w h l
keeping v (over c) h w l = blend_keeps (form v) (carried v) v.xor c w h l
keeping v inverse h w l = stamps_keep (invert_stamps (form v)) w l

call_keeping : (v : Canvas) (k : Call) → Colored k → Dots (Keeping v) (dots v k)
call_keeping v (shape own points dye clip) h = every_dot (Keeping v) v (shape own points dye clip) (keeping v dye h)
call_keeping v (draw dx dy w h source image sx sy clip) t = every_dot (Keeping v) v (draw dx dy w h source image sx sy clip) (λ c k. keeping v (over c) k)

dots-kept : (v : Canvas) (c : Clip) (ds : List Dot) → Dots (Keeping v) ds → All (Kept v) (hits v c (dip (brush v) ds))
unfolding hits dip
dots-kept v c [] no_more = none
dots-kept v c (d ∷ ds) (and s ss) =
    keep_all (fate v c (plot (brush v d.dye) d.x d.y)) _ (hits v c (dip (brush v) ds)) (λ e. record { on = lands_on v c _ e; keeps = s }) (dots-kept v c ds ss)

module _ (v : Canvas) (r : ℕ) where
  brush_rowed : (d : Dye) → brush (rowed v r) d ≡ brush v d
  brush_rowed (plain c) = refl
  brush_rowed (over c) = refl
  brush_rowed inverse = refl

  dip_rowed : (ds : List Dot) → dip (brush (rowed v r)) ds ≡ dip (brush v) ds
  unfolding dip
  dip_rowed [] = refl
  dip_rowed (d ∷ ds) = ap₂ (λ (f : ℕ → ℕ) (l : List Plot). plot f d.x d.y ∷ l) (brush_rowed d.dye) (dip_rowed ds)

  -- the hits of a call are the same
  call_rowed : (k : Call) → Sided k → hits (rowed v r) (clip_of k) (plots (rowed v r) k) ≡ hits v (clip_of k) (plots v k)
  call_rowed k e =
      hits_sided v (rowed v r) (clip_of k) (plots (rowed v r) k)
      ∙ ap (hits v (clip_of k)) (ap (dip (brush (rowed v r))) (dots_sided v (rowed v r) k e) ∙ dip_rowed (dots v k))

  landings_rowed : (ks : List Call) → AllSided ks → landings (rowed v r) ks ≡ landings v ks
  unfolding landings
  landings_rowed [] no_call = refl
  landings_rowed (k ∷ ks) (one-call e es) = ap₂ (λ (hs ls : List Hit). unless (fault_of k) hs ++ ls) (call_rowed k e) (landings_rowed ks es)

landings-kept : (v : Canvas) (ks : List Call) → Fine ks → All (Kept v) (landings v ks)
unfolding landings
landings-kept v [] end = none
landings-kept v (k ∷ ks) (then c cs) = all_append (go (fault_of k)) (landings-kept v ks cs)
  where
    go : (d : Verdict) → All (Kept v) (unless d (hits v (clip_of k) (plots v k)))
    go (Ok u) = dots-kept v (clip_of k) (dots v k) (call_keeping v k c)
    go (Err n) = none

-- ---- the theorems, of two canvases that are not refused

module _ (v : Canvas) (r : ℕ) (b t : List ℕ) (f : verdict v (length b) ≡ Ok tt) (g : verdict (rowed v r) (length t) ≡ Ok tt) where
  -- a call lands as many plots, and is refused alike
  pub same-landed : (k : Call) → Sided k
      → (or_else (verdict (rowed v r) (length t)) (fault_of k) ≡ or_else (verdict v (length b)) (fault_of k))
      × (length (hits (rowed v r) (clip_of k) (plots (rowed v r) k)) ≡ length (hits v (clip_of k) (plots v k)))
  same-landed k e = (rw (f, g) refl, ap length (call_rowed v r k e))

  -- calls leave the same word at each pixel, where there was the same, with XOR on or off
  pub after_alike : (ks : List Call) → Bytes b → Bytes t → Fine ks → AllSided ks → Alike v b (rowed v r) t
      → Alike v (after v ks b) (rowed v r) (after (rowed v r) ks t)
  after_alike ks o p c e a =
      let s : Screen v b = record { long = (sized v b f).long; bytes = o } in
      let q : Screen (rowed v r) t = record { long = (sized (rowed v r) t g).long; bytes = p } in
      let l : after (rowed v r) ks t ≡ paint (rowed v r) (landings v ks) t
      = after_sound (rowed v r) ks t q g ∙ ap (λ (hs : List Hit). paint (rowed v r) hs t) (landings_rowed v r ks e) in
      rw (after_sound v ks b s f, l) (paint_alike v r (landings v ks) b t (landings-kept v ks c) s q a)
