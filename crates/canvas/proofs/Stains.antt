-- What a second pass leaves, in any order: where a dye that stays has landed the word is settled, and all else is as before. Of the bytes
-- first, then of the word at each pixel; and where the first bytes come back.
use Rattle.std.proofs.Common.{◌≡◌, ℕ, ◌<◌, ◌≤◌, Bool, true, false, cond, not, ◌&&◌, ◌||◌, eqb, List, [], ◌∷◌, ◌++◌, map, length, nat_abs, sym, refl, ap, ◌∙◌, ap₂, arith, eq-eqb, ne_eqb, Ok, Err}
use mathlib.Core.List.{map-append, Permᴰ, Mem, mem-cons_self, mem-cons_of_mem}
use native.Mathlib.Decide.{ℕ_discrete}
use Rattle.words.specs.Format.{Format, range}
use Rattle.words.specs.Ink.{keeps_alpha, settled}
use Rattle.words.proofs.Either.{neither}
use Rattle.words.proofs.Stamps.{left, settled_narrow, settled_twice, settled_fits, stamps_twice}
use Rattle.pixels.specs.declared.Canvas.{Canvas}
use Rattle.canvas.specs.declared.Clip.{Clip}
use Rattle.pixels.specs.Bytes.{form, load_at, store_at, On}
use Rattle.canvas.specs.Clip.{in_clip}
use Rattle.canvas.specs.Faults.{Verdict, verdict}
use Rattle.canvas.specs.Plot.{plot, Dye, plain, over, inverse, Dot, dip, on_canvas, Fate, landed, outside, clipped, judge, fate, hit_of, keep, hits}
use Rattle.pixels.specs.Hits.{Hit, touch, paint}
use Rattle.canvas.specs.Call.{Call, shape, draw, clip_of, fault_of, dots, brush, plots}
use Rattle.canvas.specs.Calls.{after, unless, landing, landings, stays, staying, stain, stains, struck, those, inverts}
use Rattle.pixels.proofs.bytes.Cells.{Bytes}
use Rattle.pixels.proofs.bytes.Pixels.{load_lt, load_store, load_other}
use Rattle.pixels.proofs.Hits.{touch-ink, paint-append}
use Rattle.pixels.proofs.Orders.{Screen, All, none, also, all_append, paint_screen, doubled, touch_idle, paint_idle}
use Rattle.canvas.proofs.faults.Verdicts.{sized}
use Rattle.canvas.proofs.span.Spans.{both_no}
use Rattle.canvas.proofs.plot.Fates.{lands_on}
use Rattle.canvas.proofs.plot.Landed.{keep_all}
use Rattle.canvas.proofs.Reverse.{Colored, Fine, end, then, Dots, no_more, and, Every, every_dot, Dyes, call_dyes, after_faulty, made_again}

-- ---- each hit put on twice

-- the dots of which something stays, as what stays
abbrev leavings : Canvas → Clip → List Dot → List Hit
leavings v c ds = hits v c (dip (λ d. settled (form v)) ds)

by_dots : (v : Canvas) (c : Clip) (ds : List Dot) (b : List ℕ) → Screen v b → Dots (Dyes v) ds
    → paint v (map doubled (hits v c (dip (brush v) ds))) b ≡ paint v (leavings v c (staying (form v) ds)) b
unfolding hits dip staying paint fate
by_dots v c [] b s no_more = refl
by_dots v c (d ∷ ds) b s (and st ss) =
    go (judge (on_canvas v d.x d.y) (in_clip c d.x d.y)) refl (stays (form v) d.dye) (λ w l. stamps_twice st w l) (λ b' s'. by_dots v c ds b' s' ss)
  where
    h : Hit
    h = hit_of (plot (brush v d.dye) d.x d.y)

    rest : List Hit
    rest = leavings v c (staying (form v) ds)

    go : (f : Fate) → judge (on_canvas v d.x d.y) (in_clip c d.x d.y) ≡ f
        → (t : Bool) → ((w : ℕ) → w < range (form v) → brush v d.dye (brush v d.dye w) ≡ left (form v) t w)
        → ((b' : List ℕ) → Screen v b' → paint v (map doubled (hits v c (dip (brush v) ds))) b' ≡ paint v rest b')
        → paint v (map doubled (keep f h (hits v c (dip (brush v) ds)))) b ≡ paint v (leavings v c (cond t (d ∷ staying (form v) ds) (staying (form v) ds))) b
    go landed e true tw r =
        r (touch v b (doubled h)) (paint_screen (doubled h ∷ []) s) ∙ ap (paint v rest) (touch-ink v b h.x h.y _ (settled (form v)) s.bytes tw) ∙ rw e refl
    go landed e false tw r = r (touch v b (doubled h)) (paint_screen (doubled h ∷ []) s) ∙ ap (paint v rest) (touch_idle v b (doubled h) s tw)
    go outside e true tw r = r b s ∙ rw e refl
    go outside e false tw r = r b s
    go clipped e true tw r = r b s ∙ rw e refl
    go clipped e false tw r = r b s

by_call : (v : Canvas) → v.xor ≡ true → (k : Call) (b : List ℕ) → Screen v b → Colored k
    → paint v (map doubled (landing v k (plots v k))) b ≡ paint v (stain v k) b
by_call v x k b s c = go (fault_of k)
  where
    go : (d : Verdict) → paint v (map doubled (unless d (hits v (clip_of k) (plots v k)))) b ≡ paint v (unless d (leavings v (clip_of k) (staying (form v) (dots v k)))) b
    go (Ok u) = by_dots v (clip_of k) (dots v k) b s (call_dyes v x k c)
    go (Err r) = refl

by_calls : (v : Canvas) → v.xor ≡ true → (ks : List Call) (b : List ℕ) → Screen v b → Fine ks → paint v (map doubled (landings v ks)) b ≡ paint v (stains v ks) b
unfolding landings stains paint
by_calls v x [] b s end = refl
by_calls v x (k ∷ ks) b s (then c cs) =
    let hs : List Hit = landing v k (plots v k) in
    ap (λ (l : List Hit). paint v l b) (map-append doubled hs (landings v ks))
    ∙ paint-append v (map doubled hs) (map doubled (landings v ks)) b
    ∙ by_calls v x ks (paint v (map doubled hs) b) (paint_screen (map doubled hs) s) cs
    ∙ ap (paint v (stains v ks)) (by_call v x k b s c) ∙ sym (paint-append v (stain v k) (stains v ks) b)

-- on a canvas that is not refused, calls, accepted or refused, made and made again in any order, leave their stains
pub stained : (v : Canvas) (ks ls : List Call) (b : List ℕ) → v.xor ≡ true → Bytes b → verdict v (length b) ≡ Ok tt → Fine ks → Permᴰ ks ls
    → after v (ks ++ ls) b ≡ paint v (stains v ks) b
stained v ks ls b x o e f p =
    let s : Screen v b = record { long = (sized v b e).long; bytes = o } in
    made_again v ks ls b x s e f p ∙ by_calls v x ks b s f

-- ---- the word at a pixel

pub record Settles (v : Canvas) (h : Hit) : Type 0 where
  pub on : On v h.x h.y
  pub inked : h.ink ≡ settled (form v)

dots_settle : (v : Canvas) (c : Clip) (ds : List Dot) → All (Settles v) (leavings v c ds)
unfolding hits dip
dots_settle v c [] = none
dots_settle v c (d ∷ ds) =
    keep_all (fate v c (plot (settled (form v)) d.x d.y)) _ (leavings v c ds) (λ e. record { on = lands_on v c _ e; inked = refl }) (dots_settle v c ds)

stains_settle : (v : Canvas) (ks : List Call) → All (Settles v) (stains v ks)
unfolding stains
stains_settle v [] = none
stains_settle v (k ∷ ks) = all_append (go (fault_of k)) (stains_settle v ks)
  where
    go : (d : Verdict) → All (Settles v) (unless d (leavings v (clip_of k) (staying (form v) (dots v k))))
    go (Ok u) = dots_settle v (clip_of k) (staying (form v) (dots v k))
    go (Err r) = none

module _ (v : Canvas) (x y : ℕ) (o : On v x y) where
  abbrev word : List ℕ → ℕ
  word b = load_at v b x y

  -- one hit, on the pixel or off it
  strike : (b : List ℕ) (h : Hit) → Screen v b → Settles v h → word (touch v b h) ≡ left (form v) (eqb h.x x && eqb h.y y) (word b)
  unfolding touch
  strike b h s q = go (ℕ_discrete h.x x) (ℕ_discrete h.y y)
    where
      go : Dec (h.x ≡ x) → Dec (h.y ≡ y)
          → word (store_at v b h.x h.y (h.ink (load_at v b h.x h.y))) ≡ left (form v) (eqb h.x x && eqb h.y y) (word b)
      go (yes e) (yes f) =
          rw (eq-eqb h.x x e, eq-eqb h.y y f, e, f, q.inked)
          (load_store v b s.long x y (settled (form v) (word b)) o (settled_fits (form v) (word b) (load_lt v b x y s.bytes)))
      go (yes e) (no n) = rw (eq-eqb h.x x e, ne_eqb h.y y n) (load_other v b h.x h.y _ x y q.on o (λ p r. n r))
      go (no n) f = rw (ne_eqb h.x x n) (load_other v b h.x h.y _ x y q.on o (λ p r. n p))

  left_both : (s t : Bool) (w : ℕ) → left (form v) t (left (form v) s w) ≡ left (form v) (s || t) w
  left_both true true w = settled_twice (form v) w
  left_both true false w = refl
  left_both false t w = refl

  strikes : (hs : List Hit) (b : List ℕ) → Screen v b → All (Settles v) hs → word (paint v hs b) ≡ left (form v) (struck hs x y) (word b)
  unfolding paint struck
  strikes [] b s none = refl
  strikes (h ∷ hs) b s (also q qs) =
      strikes hs (touch v b h) (paint_screen (h ∷ []) s) qs ∙ ap (left (form v) (struck hs x y)) (strike b h s q)
      ∙ left_both (eqb h.x x && eqb h.y y) (struck hs x y) (word b)

-- of a canvas that is not refused: the word at every pixel
pub words_back : (v : Canvas) (ks ls : List Call) (b : List ℕ) → v.xor ≡ true → Bytes b → verdict v (length b) ≡ Ok tt → Fine ks → Permᴰ ks ls
    → (x y : ℕ) → On v x y → load_at v (after v (ks ++ ls) b) x y ≡ cond (struck (stains v ks) x y) (settled (form v) (load_at v b x y)) (load_at v b x y)
words_back v ks ls b xo o e f p x y on =
    ap (λ (c : List ℕ). load_at v c x y) (stained v ks ls b xo o e f p)
    ∙ strikes v x y on (stains v ks) b (record { long = (sized v b e).long; bytes = o }) (stains_settle v ks)

-- ---- where the first bytes come back, on any canvas

module _ (v : Canvas) (ks ls : List Call) (b : List ℕ) (x : v.xor ≡ true) (o : Bytes b) (f : Fine ks) (p : Permᴰ ks ls) where
  back : ((s : Screen v b) → paint v (stains v ks) b ≡ b) → after v (ks ++ ls) b ≡ b
  back h = go (verdict v (length b)) refl
    where
      go : (d : Verdict) → verdict v (length b) ≡ d → after v (ks ++ ls) b ≡ b
      go (Err r) e = after_faulty v (ks ++ ls) b r e
      go (Ok u) e = stained v ks ls b x o e f p ∙ h (record { long = (sized v b e).long; bytes = o })

  -- where words have no top byte
  pub narrow_back : range (form v) ≤ 16777216 → after v (ks ++ ls) b ≡ b
  narrow_back l = back (λ s. paint_idle v (stains v ks) b s (idle (stains v ks) (stains_settle v ks)))
    where
      idle : (hs : List Hit) → All (Settles v) hs → All (λ h. (w : ℕ) → w < range (form v) → h.ink w ≡ w) hs
      idle [] none = none
      idle (h ∷ hs) (also q qs) =
          let same : (w : ℕ) → w < range (form v) → h.ink w ≡ w = λ w m. rw q.inked (settled_narrow (form v) w l m) in
          also same (idle hs qs)

  -- where nothing stays
  pub unstained_back : stains v ks ≡ [] → after v (ks ++ ls) b ≡ b
  unfolding paint
  unstained_back e = back (λ s. rw e refl)

-- ---- and nothing stays of calls that do not invert, where alpha is not kept, nor of inversions, where it is

call_passes : (f : Format) (k : Call) → inverts k ≡ keeps_alpha f → Every (λ d. stays f d ≡ false) k
call_passes f (shape own points (plain c) clip) e = rw (← e) (both_no (not (eqb c.a 0)))
call_passes f (shape own points (over c) clip) e = rw (← e) (both_no (not (eqb c.a 0)))
call_passes f (shape own points inverse clip) e = rw (← e) refl
call_passes f (draw dx dy w h source image sx sy clip) e = λ c k. rw (← e) (both_no (not (eqb c.a 0)))

none-staying : (f : Format) (ds : List Dot) → Dots (λ d. stays f d ≡ false) ds → staying f ds ≡ []
unfolding staying
none-staying f [] no_more = refl
none-staying f (d ∷ ds) (and e es) = rw e (none-staying f ds es)

none_stained : (v : Canvas) (k : Call) → inverts k ≡ keeps_alpha (form v) → stain v k ≡ []
unfolding hits dip
none_stained v k e =
    let q : staying (form v) (dots v k) ≡ [] = none-staying (form v) (dots v k) (every_dot _ v k (call_passes (form v) k e)) in
    rw q (go (fault_of k))
  where
    go : (d : Verdict) → unless d [] ≡ []
    go (Ok u) = refl
    go (Err r) = refl

pub unstained : (v : Canvas) (ks : List Call) → ((k : Call) → Mem k ks → inverts k ≡ keeps_alpha (form v)) → stains v ks ≡ []
unfolding stains
unstained v [] h = refl
unstained v (k ∷ ks) h = rw (none_stained v k (h k mem-cons_self)) (unstained v ks (λ j m. h j (mem-cons_of_mem k m)))

-- ---- where the stains are, by the calls that land there

struck-append : (hs gs : List Hit) (x y : ℕ) → struck (hs ++ gs) x y ≡ struck hs x y || struck gs x y
unfolding struck
struck-append [] gs x y = refl
struck-append (h ∷ hs) gs x y = go (eqb h.x x && eqb h.y y) (struck-append hs gs x y)
  where
    go : (t : Bool) → struck (hs ++ gs) x y ≡ struck hs x y || struck gs x y → t || struck (hs ++ gs) x y ≡ (t || struck hs x y) || struck gs x y
    go true e = refl
    go false e = e

-- a dot lands by its place, whatever its ink; and of fewer dots fewer land
module _ (v : Canvas) (c : Clip) (f g : Dye → ℕ → ℕ) (x y : ℕ) where
  any_ink : (ds : List Dot) → struck (hits v c (dip f ds)) x y ≡ struck (hits v c (dip g ds)) x y
  unfolding hits dip fate struck
  any_ink [] = refl
  any_ink (d ∷ ds) = go (judge (on_canvas v d.x d.y) (in_clip c d.x d.y)) (any_ink ds)
    where
      go : (t : Fate) → struck (hits v c (dip f ds)) x y ≡ struck (hits v c (dip g ds)) x y
          → struck (keep t (hit_of (plot (f d.dye) d.x d.y)) (hits v c (dip f ds))) x y ≡ struck (keep t (hit_of (plot (g d.dye) d.x d.y)) (hits v c (dip g ds))) x y
      go landed e = ap (λ (t : Bool). (eqb (nat_abs d.x) x && eqb (nat_abs d.y) y) || t) e
      go outside e = e
      go clipped e = e

  fewer : (n : Format) (ds : List Dot) → struck (hits v c (dip f ds)) x y ≡ false → struck (hits v c (dip g (staying n ds))) x y ≡ false
  unfolding hits dip fate struck staying
  fewer n [] e = refl
  fewer n (d ∷ ds) e = go (judge (on_canvas v d.x d.y) (in_clip c d.x d.y)) refl (stays n d.dye) e (fewer n ds)
    where
      go : (t : Fate) → judge (on_canvas v d.x d.y) (in_clip c d.x d.y) ≡ t → (s : Bool)
          → struck (keep t (hit_of (plot (f d.dye) d.x d.y)) (hits v c (dip f ds))) x y ≡ false
          → (struck (hits v c (dip f ds)) x y ≡ false → struck (hits v c (dip g (staying n ds))) x y ≡ false)
          → struck (hits v c (dip g (cond s (d ∷ staying n ds) (staying n ds)))) x y ≡ false
      go landed e true z r =
          let q : ((eqb (nat_abs d.x) x && eqb (nat_abs d.y) y) ≡ false) × (struck (hits v c (dip f ds)) x y ≡ false) = neither _ _ z in
          rw (e, q.0) (r q.1)
      go landed e false z r = r (neither (eqb (nat_abs d.x) x && eqb (nat_abs d.y) y) _ z).1
      go outside e true z r = rw e (r z)
      go outside e false z r = r z
      go clipped e true z r = rw e (r z)
      go clipped e false z r = r z

all_staying : (f : Format) (ds : List Dot) → Dots (λ d. stays f d ≡ true) ds → staying f ds ≡ ds
unfolding staying
all_staying f [] no_more = refl
all_staying f (d ∷ ds) (and e es) = rw e (ap (λ (l : List Dot). d ∷ l) (all_staying f ds es))

call_stays : (f : Format) (k : Call) → keeps_alpha f ≡ false → inverts k ≡ true → Every (λ d. stays f d ≡ true) k
call_stays f (shape own points (plain c) clip) a e = absurd (let z : ◌≡◌ {A = ℕ} 0 1 = cc in omega arith)
call_stays f (shape own points (over c) clip) a e = absurd (let z : ◌≡◌ {A = ℕ} 0 1 = cc in omega arith)
call_stays f (shape own points inverse clip) a e = rw a refl
call_stays f (draw dx dy w h source image sx sy clip) a e = absurd (let z : ◌≡◌ {A = ℕ} 0 1 = cc in omega arith)

-- where alpha is not kept: just where an inversion lands
pub by_inversions : (v : Canvas) (ks : List Call) (x y : ℕ) → keeps_alpha (form v) ≡ false → struck (stains v ks) x y ≡ struck (landings v (those inverts ks)) x y
unfolding stains landings those struck
by_inversions v [] x y a = refl
by_inversions v (k ∷ ks) x y a = struck-append (stain v k) (stains v ks) x y ∙ go (inverts k) refl (by_inversions v ks x y a)
  where
    one : inverts k ≡ true → (d : Verdict)
        → struck (unless d (leavings v (clip_of k) (staying (form v) (dots v k)))) x y ≡ struck (unless d (hits v (clip_of k) (plots v k))) x y
    one e (Ok u) =
        rw (all_staying (form v) (dots v k) (every_dot _ v k (call_stays (form v) k a e)))
        (any_ink v (clip_of k) (λ d. settled (form v)) (brush v) x y (dots v k))
    one e (Err r) = refl

    go : (t : Bool) → inverts k ≡ t → struck (stains v ks) x y ≡ struck (landings v (those inverts ks)) x y
        → struck (stain v k) x y || struck (stains v ks) x y
        ≡ struck (landings v (cond t (k ∷ those inverts ks) (those inverts ks))) x y
    go true e r = ap₂ (λ (s t : Bool). s || t) (one e (fault_of k)) r ∙ sym (struck-append (landing v k (plots v k)) (landings v (those inverts ks)) x y)
    go false e r = rw (none_stained v k (e ∙ sym a)) r

-- where it is kept: nowhere but where another call lands
pub by_drawings : (v : Canvas) (ks : List Call) (x y : ℕ) → keeps_alpha (form v) ≡ true
    → struck (landings v (those (λ k. not (inverts k)) ks)) x y ≡ false → struck (stains v ks) x y ≡ false
unfolding stains landings those struck
by_drawings v [] x y a z = refl
by_drawings v (k ∷ ks) x y a z = struck-append (stain v k) (stains v ks) x y ∙ go (inverts k) refl z (by_drawings v ks x y a)
  where
    rest : List Call
    rest = those (λ j. not (inverts j)) ks

    one : (d : Verdict) → struck (unless d (hits v (clip_of k) (plots v k))) x y ≡ false → struck (unless d (leavings v (clip_of k) (staying (form v) (dots v k)))) x y ≡ false
    one (Ok u) e = fewer v (clip_of k) (brush v) (λ d. settled (form v)) x y (form v) (dots v k) e
    one (Err r) e = refl

    go : (t : Bool) → inverts k ≡ t → struck (landings v (cond (not t) (k ∷ rest) rest)) x y ≡ false → (struck (landings v rest) x y ≡ false → struck (stains v ks) x y ≡ false)
        → struck (stain v k) x y || struck (stains v ks) x y ≡ false
    go true e z r = rw (none_stained v k (e ∙ sym a)) (r z)
    go false e z r =
        let q : (struck (landing v k (plots v k)) x y ≡ false) × (struck (landings v rest) x y ≡ false)
        = neither _ _ (sym (struck-append (landing v k (plots v k)) (landings v rest) x y) ∙ z) in
        rw (one (fault_of k) q.0) (r q.1)
