-- Calls with XOR on, made one after the other: any order leaves the same bytes and gives each its answer. Proved over the laws of stamps
-- and of bytes; a shape is any points in one dye. What is left where they are made again is in Stains.
use Rattle.std.proofs.Common.{◌≡◌, ℕ, Bool, true, List, [], ◌∷◌, ◌++◌, map, length, sym, refl, ap, ◌∙◌, ap₂, append_assoc, Ok, Err}
use mathlib.Core.List.{flat_map}
use mathlib.Core.List.Permᴰ
use mathlib.Core.List.{Permᴰ}
use Rattle.words.specs.declared.Color.{Color}
use Rattle.words.proofs.Laws.{Channels}
use Rattle.words.proofs.Reading.{read_channels}
use Rattle.words.proofs.Stamps.{Stamps, plot_stamps, invert_stamps, stamps_keep, stamps_swap}
use Rattle.blending.proofs.Laws.{blend_stamps}
use Rattle.pixels.specs.declared.Canvas.{Canvas}
use Rattle.canvas.specs.declared.Clip.{Clip}
use Rattle.canvas.specs.declared.Refusal.{Refusal}
use Rattle.pixels.specs.Bytes.{form, On}
use Rattle.canvas.specs.Faults.{Verdict, or_else, verdict}
use Rattle.canvas.specs.Plot.{Point, Dye, plain, over, inverse, Dot, tint, plot, dip, fate, hits}
use Rattle.pixels.specs.Hits.{Hit, paint}
use Rattle.canvas.specs.Call.{Call, shape, draw, clip_of, fault_of, source_color, dots, carried, brush, plots, ruled, drawing, call}
use Rattle.canvas.specs.Boxes.{picture}
use Rattle.canvas.specs.Calls.{after, unless, landing, landings, stays}
use Rattle.pixels.proofs.bytes.Cells.{Bytes}
use Rattle.canvas.proofs.faults.Verdicts.{sized}
use Rattle.canvas.proofs.plot.Fates.{lands_on}
use Rattle.pixels.proofs.Hits.{paint-length, paint-append}
use Rattle.pixels.proofs.Orders.{perm_of, Screen, Family, All, none, all_append, paint_screen, paint-perm, doubled, paint_back}
use Rattle.canvas.proofs.plot.Landed.{keep_all}

-- calls whose colours are of bytes, as every caller's are
abbrev pub Toned : Dye → Type 0
Toned (plain c) = Channels c
Toned (over c) = Channels c
Toned inverse = Unit {0}

abbrev pub Colored : Call → Type 0
Colored (shape own points dye clip) = Toned dye
Colored (draw dx dy w h source image sx sy clip) = Unit {0}

pub data Fine : List Call → Type 0 where
  end : Fine []
  then : {k : Call} {ks : List Call} → Colored k → Fine ks → Fine (k ∷ ks)

-- ---- the dots of a call

pub data Dots (P : Dye → Type 0) : List Dot → Type 0 where
  no_more : Dots P []
  and : {d : Dot} {ds : List Dot} → P d.dye → Dots P ds → Dots P (d ∷ ds)

module _ {P : Dye → Type 0} where
  tinted : (d : Dye) (ps : List Point) → P d → Dots P (tint d ps)
  unfolding tint
  tinted d [] s = no_more
  tinted d (p ∷ ps) s = and s (tinted d ps s)

  dots-append : {ds es : List Dot} → Dots P ds → Dots P es → Dots P (ds ++ es)
  dots-append no_more e = e
  dots-append (and s d) e = and s (dots-append d e)

  dots_each : (g : ℕ → List Dot) → ((x : ℕ) → Dots P (g x)) → (xs : List ℕ) → Dots P (flat_map g xs)
  unfolding flat_map
  dots_each g h [] = no_more
  dots_each g h (x ∷ xs) = dots-append (h x) (dots_each g h xs)

  pictured : (d : ℕ → ℕ → Dye) → ((i j : ℕ) → P (d i j)) → (xs ys : List ℕ) → Dots P (picture d xs ys)
  unfolding picture
  pictured d h xs ys = dots_each _ (λ j. dots_each _ (λ i. and (h i j) no_more) xs) ys

-- what holds of a call's dyes holds of its dots
abbrev pub Every : (Dye → Type 0) → Call → Type 0
Every P (shape own points dye clip) = P dye
Every P (draw dx dy w h source image sx sy clip) = (c : Color) → Channels c → P (over c)

pub every_dot : (P : Dye → Type 0) (v : Canvas) (k : Call) → Every P k → Dots P (dots v k)
unfolding dots
every_dot P v (shape own points dye clip) e = tinted dye _ e
every_dot P v (draw dx dy w h source image sx sy clip) e =
    pictured (λ i j. over (source_color source image dx dy sx sy i j)) (λ i j. e (source_color source image dx dy sx sy i j) (read_channels (form source) _)) _ _

-- with XOR on, a dye is a stamp, which settles where the dye stays
abbrev pub Dyes : Canvas → Dye → Type 0
Dyes v d = Stamps (form v) (stays (form v) d) (brush v d)

dyes : (v : Canvas) → v.xor ≡ true → (d : Dye) → Toned d → Dyes v d
dyes v x (plain c) h = rw x (plot_stamps (form v) c h)
dyes v x (over c) h = rw x (blend_stamps (form v) (carried v) c h)
dyes v x inverse h = invert_stamps (form v)

pub call_dyes : (v : Canvas) → v.xor ≡ true → (k : Call) → Colored k → Dots (Dyes v) (dots v k)
call_dyes v x (shape own points dye clip) h = every_dot (Dyes v) v (shape own points dye clip) (dyes v x dye h)
call_dyes v x (draw dx dy w h source image sx sy clip) t =
    every_dot (Dyes v) v (draw dx dy w h source image sx sy clip) (λ c k. dyes v x (over c) k)

-- ---- the hits of a call

-- a hit with the ink of a stamp
pub record Stamped (v : Canvas) (h : Hit) : Type 0 where
  pub settles : Bool
  pub on : On v h.x h.y
  pub stamps : Stamps (form v) settles h.ink

pub stamped : (v : Canvas) → Family v (Stamped v)
stamped v = record {
  on = λ h o. o.on;
  keeps = λ h o w l. stamps_keep o.stamps w l;
  commutes = λ h k o q m m' w l. stamps_swap o.stamps q.stamps w l;
}

dots_stamped : (v : Canvas) (c : Clip) (ds : List Dot) → Dots (Dyes v) ds → All (Stamped v) (hits v c (dip (brush v) ds))
unfolding hits dip
dots_stamped v c [] no_more = none
dots_stamped v c (d ∷ ds) (and s ss) =
    keep_all (fate v c (plot (brush v d.dye) d.x d.y)) _ (hits v c (dip (brush v) ds))
    (λ e. record { settles = stays (form v) d.dye; on = lands_on v c _ e; stamps = s }) (dots_stamped v c ds ss)

call_stamped : (v : Canvas) → v.xor ≡ true → (k : Call) → Colored k → All (Stamped v) (landing v k (plots v k))
call_stamped v x k c = go (fault_of k)
  where
    go : (d : Verdict) → All (Stamped v) (unless d (hits v (clip_of k) (plots v k)))
    go (Ok u) = dots_stamped v (clip_of k) (dots v k) (call_dyes v x k c)
    go (Err r) = none

-- ---- the hits of a list of calls

pub hits_all : (v : Canvas) → v.xor ≡ true → (ks : List Call) → Fine ks → All (Stamped v) (landings v ks)
unfolding landings
hits_all v x [] end = none
hits_all v x (k ∷ ks) (then c cs) = all_append (call_stamped v x k c) (hits_all v x ks cs)

hits-append : (v : Canvas) (ks ls : List Call) → landings v (ks ++ ls) ≡ landings v ks ++ landings v ls
unfolding landings
hits-append v [] ls = refl
hits-append v (k ∷ ks) ls =
    ap (λ (l : List Hit). landing v k (plots v k) ++ l) (hits-append v ks ls)
    ∙ sym (append_assoc (landing v k (plots v k)) (landings v ks) (landings v ls))

hits-perm : (v : Canvas) {ks ls : List Call} → Permᴰ ks ls → Permᴰ (landings v ks) (landings v ls)
unfolding landings
hits-perm v Permᴰ.nil = Permᴰ.nil
hits-perm v (Permᴰ.cons {a = a} {b = b} {l₂ = l} e p) =
    Permᴰ.trans (Permᴰ.append_left (landing v a (plots v a)) (hits-perm v p))
    (perm_of (ap (λ (k : Call). landing v k (plots v k) ++ landings v l) e))
hits-perm v (Permᴰ.swap {a = a} {b = b} {l = l} e f) =
    let A : List Hit = landing v a (plots v a) in
    let B : List Hit = landing v b (plots v b) in
    Permᴰ.trans (perm_of (sym (append_assoc A B (landings v l))))
    (Permᴰ.trans (Permᴰ.append_right (landings v l) (Permᴰ.append_comm A B))
    (Permᴰ.trans (perm_of (append_assoc B A (landings v l)))
    (perm_of (ap₂ (λ (k j : Call). landing v k (plots v k) ++ (landing v j (plots v j) ++ landings v l)) f e))))
hits-perm v (Permᴰ.trans p q) = Permᴰ.trans (hits-perm v p) (hits-perm v q)

-- ---- what a list of calls leaves: the paint of its hits, or, refused, the first bytes

-- what one call leaves on a sound canvas
call_paints : (v : Canvas) (k : Call) (b : List ℕ) → verdict v (length b) ≡ Ok tt → (call v k b).bytes ≡ paint v (landing v k (plots v k)) b
unfolding drawing or_else paint
call_paints v k b e = rw e (go (fault_of k))
  where
    go : (d : Verdict) → (ruled d (length (hits v (clip_of k) (plots v k))) (paint v (hits v (clip_of k) (plots v k)) b) b).bytes ≡ paint v (unless d (hits v (clip_of k) (plots v k))) b
    go (Ok u) = refl
    go (Err r) = refl

pub after_sound : (v : Canvas) (ks : List Call) (b : List ℕ) → Screen v b → verdict v (length b) ≡ Ok tt → after v ks b ≡ paint v (landings v ks) b
unfolding after landings paint
after_sound v [] b s e = refl
after_sound v (k ∷ ks) b s e =
    let hs : List Hit = landing v k (plots v k) in
    let e' : verdict v (length (paint v hs b)) ≡ Ok tt = rw (paint-length v hs b) e in
    ap (after v ks) (call_paints v k b e) ∙ after_sound v ks (paint v hs b) (paint_screen hs s) e' ∙ sym (paint-append v hs (landings v ks) b)

pub after_faulty : (v : Canvas) (ks : List Call) (b : List ℕ) (r : Refusal) → verdict v (length b) ≡ Err r → after v ks b ≡ b
unfolding after drawing or_else
after_faulty v [] b r e = refl
after_faulty v (k ∷ ks) b r e = let q : (call v k b).bytes ≡ b = rw e refl in ap (after v ks) q ∙ after_faulty v ks b r e

after-length : (v : Canvas) (ks : List Call) (b : List ℕ) → Bytes b → length (after v ks b) ≡ length b
after-length v ks b o = go (verdict v (length b)) refl
  where
    go : (d : Verdict) → verdict v (length b) ≡ d → length (after v ks b) ≡ length b
    go (Err r) e = ap length (after_faulty v ks b r e)
    go (Ok u) e =
        let s : Screen v b = record { long = (sized v b e).long; bytes = o } in
        ap length (after_sound v ks b s e) ∙ paint-length v (landings v ks) b

-- an answer's number and count do not hang on the bytes
ruled_alike : (d : Verdict) (n : ℕ) (p b p' b' : List ℕ) → ((ruled d n p b).status ≡ (ruled d n p' b').status) × ((ruled d n p b).count ≡ (ruled d n p' b').count)
ruled_alike (Ok u) n p b p' b' = (refl, refl)
ruled_alike (Err r) n p b p' b' = (refl, refl)

-- ---- the theorems

-- a call gives the same answer wherever it stands among the others
pub same_answer : (v : Canvas) (k : Call) (ks : List Call) (b : List ℕ) → Bytes b
    → ((call v k (after v ks b)).status ≡ (call v k b).status) × ((call v k (after v ks b)).count ≡ (call v k b).count)
unfolding drawing
same_answer v k ks b o =
    rw (after-length v ks b o)
    (ruled_alike (or_else (verdict v (length b)) (fault_of k)) (length (hits v (clip_of k) (plots v k))) (paint v (hits v (clip_of k) (plots v k)) (after v ks b)) (after v ks b)
    (paint v (hits v (clip_of k) (plots v k)) b) b)

pub any_order : (v : Canvas) (ks ls : List Call) (b : List ℕ) → v.xor ≡ true → Bytes b → Fine ks → Permᴰ ks ls → after v ks b ≡ after v ls b
any_order v ks ls b x o f p = go (verdict v (length b)) refl
  where
    go : (d : Verdict) → verdict v (length b) ≡ d → after v ks b ≡ after v ls b
    go (Err r) e = after_faulty v ks b r e ∙ sym (after_faulty v ls b r e)
    go (Ok u) e =
        let s : Screen v b = record { long = (sized v b e).long; bytes = o } in
        after_sound v ks b s e ∙ paint-perm v (Stamped v) (stamped v) b (hits-perm v p) s (hits_all v x ks f) ∙ sym (after_sound v ls b s e)

-- made again in any order, each hit's ink is put on twice
pub made_again : (v : Canvas) (ks ls : List Call) (b : List ℕ) → v.xor ≡ true → Screen v b → verdict v (length b) ≡ Ok tt → Fine ks → Permᴰ ks ls
    → after v (ks ++ ls) b ≡ paint v (map doubled (landings v ks)) b
made_again v ks ls b x s e f p =
    after_sound v (ks ++ ls) b s e ∙ ap (λ (hs : List Hit). paint v hs b) (hits-append v ks ls)
    ∙ paint_back v (Stamped v) (stamped v) (landings v ks) (landings v ls) b (hits-perm v p) s (hits_all v x ks f)
