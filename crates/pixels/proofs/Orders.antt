-- Hits whose inks commute may be painted in any order; and what a second pass leaves.
use mathlib.Core.Path.{◌≡◌, refl, sym, ap, ap₂, ◌∙◌, subst}
use mathlib.Core.List.Permᴰ
use mathlib.Core.List.{List, [], ◌∷◌, ◌++◌, map, Permᴰ}
use Prim.Native.Nat.{ℕ, ◌<◌}
use native.Mathlib.Decide.{ℕ_discrete}
use lib.ListN.{length}
use Rattle.words.specs.Format.{range}
use Rattle.pixels.specs.declared.Canvas.{Canvas}
use Rattle.pixels.specs.Bytes.{form, extent, load_at, store_at, On}
use Rattle.pixels.specs.Hits.{Hit, hit, touch, paint}
use Rattle.pixels.proofs.bytes.Cells.{Bytes}
use Rattle.pixels.proofs.bytes.Pixels.{Other, length-store, load_lt, store-load, load_store, store-store, load_other, store-comm}
use Rattle.pixels.proofs.Hits.{touch-ink, touch-bytes, paint-append}

-- equal lists are permutations
pub perm_of : {l m : List Hit} → l ≡ m → Permᴰ l m
perm_of {l} e = subst (Permᴰ l) e (Permᴰ.refl l)

-- the bytes of a canvas, of its exact size
pub record Screen (v : Canvas) (b : List ℕ) : Type 0 where
  pub long : length b ≡ extent v
  pub bytes : Bytes b

pub touch_screen : {v : Canvas} {b : List ℕ} (h : Hit) → Screen v b → Screen v (touch v b h)
unfolding touch
touch_screen {v} {b} h c = record { long = length-store v b h.x h.y _ ∙ c.long; bytes = touch-bytes v b h c.bytes }

pub paint_screen : {v : Canvas} {b : List ℕ} (hs : List Hit) → Screen v b → Screen v (paint v hs b)
unfolding paint
paint_screen {v = v} {b = b} [] c = c
paint_screen {v = v} {b = b} (h ∷ hs) c = paint_screen {b = touch v b h} hs (touch_screen h c)

-- What a family Ok of hits has to meet: they are on the canvas, keep to the word's range, and commute where they meet.
pub record Family (v : Canvas) (Ok : Hit → Type 0) : Type 0 where
  pub on : (h : Hit) → Ok h → On v h.x h.y
  pub keeps : (h : Hit) → Ok h → (w : ℕ) → w < range (form v) → h.ink w < range (form v)
  pub commutes : (h k : Hit) → Ok h → Ok k → h.x ≡ k.x → h.y ≡ k.y → (w : ℕ) → w < range (form v) → h.ink (k.ink w) ≡ k.ink (h.ink w)

pub data All (Ok : Hit → Type 0) : List Hit → Type 0 where
  none : All Ok []
  also : {h : Hit} {hs : List Hit} → Ok h → All Ok hs → All Ok (h ∷ hs)

pub all_append : {Ok : Hit → Type 0} {hs ks : List Hit} → All Ok hs → All Ok ks → All Ok (hs ++ ks)
all_append none b = b
all_append (also o a) b = also o (all_append a b)

-- two hits on one pixel are one, of both inks
touch_twice : (v : Canvas) (b : List ℕ) (x y : ℕ) (f g : ℕ → ℕ) → Screen v b → On v x y → ((w : ℕ) → w < range (form v) → f w < range (form v))
    → touch v (touch v b (hit f x y)) (hit g x y) ≡ touch v b (hit (λ w. g (f w)) x y)
unfolding touch
touch_twice v b x y f g c o k =
    let q : load_at v (store_at v b x y (f (load_at v b x y))) x y ≡ f (load_at v b x y)
    = load_store v b c.long x y (f (load_at v b x y)) o (k _ (load_lt v b x y c.bytes)) in
    rw q (store-store v b x y (f (load_at v b x y)) (g (f (load_at v b x y))))

-- an ink that changes no word
pub touch_idle : (v : Canvas) (b : List ℕ) (h : Hit) → Screen v b → ((w : ℕ) → w < range (form v) → h.ink w ≡ w) → touch v b h ≡ b
unfolding touch
touch_idle v b h c e = touch-ink v b h.x h.y h.ink (λ w. w) c.bytes e ∙ store-load v b h.x h.y c.bytes

touch-apart : (v : Canvas) (b : List ℕ) (h k : Hit) → On v h.x h.y → On v k.x k.y → Other h.x h.y k.x k.y → touch v (touch v b h) k ≡ touch v (touch v b k) h
unfolding touch
touch-apart v b h k o p d =
    let e : load_at v (store_at v b h.x h.y (h.ink (load_at v b h.x h.y))) k.x k.y ≡ load_at v b k.x k.y
    = load_other v b h.x h.y _ k.x k.y o p d in
    let f : load_at v (store_at v b k.x k.y (k.ink (load_at v b k.x k.y))) h.x h.y ≡ load_at v b h.x h.y
    = load_other v b k.x k.y _ h.x h.y p o (λ q s. d (sym q) (sym s)) in
    rw (e, f) (store-comm v b h.x h.y _ k.x k.y o p d _)

-- a hit's ink put on twice
abbrev pub doubled : Hit → Hit
doubled h = hit (λ w. h.ink (h.ink w)) h.x h.y

module _ (v : Canvas) (Ok : Hit → Type 0) (fam : Family v Ok) where
  touch-same : (b : List ℕ) (x y : ℕ) (f g : ℕ → ℕ) → Screen v b → Ok (hit f x y) → Ok (hit g x y)
      → touch v (touch v b (hit f x y)) (hit g x y) ≡ touch v (touch v b (hit g x y)) (hit f x y)
  touch-same b x y f g c oh ok =
      touch_twice v b x y f g c (fam.on _ oh) (fam.keeps _ oh)
      ∙ touch-ink v b x y (λ w. g (f w)) (λ w. f (g w)) c.bytes (λ w l. fam.commutes _ _ ok oh refl refl w l)
      ∙ sym (touch_twice v b x y g f c (fam.on _ ok) (fam.keeps _ ok))

  touch-comm : (b : List ℕ) (h k : Hit) → Screen v b → Ok h → Ok k → touch v (touch v b h) k ≡ touch v (touch v b k) h
  touch-comm b h k c oh ok = go (ℕ_discrete h.x k.x) (ℕ_discrete h.y k.y)
    where
      apart : Other h.x h.y k.x k.y → touch v (touch v b h) k ≡ touch v (touch v b k) h
      apart n = touch-apart v b h k (fam.on h oh) (fam.on k ok) n

      go : Dec (h.x ≡ k.x) → Dec (h.y ≡ k.y) → touch v (touch v b h) k ≡ touch v (touch v b k) h
      go (yes e) (yes d) =
          let q : k ≡ hit k.ink h.x h.y = ap₂ (λ (x y : ℕ). hit k.ink x y) (sym e) (sym d) in
          rw q (touch-same b h.x h.y h.ink k.ink c oh (subst Ok q ok))
      go (no n) d = apart (λ e f. n e)
      go (yes e) (no n) = apart (λ e f. n f)

  -- one hit may be put on before the others or after
  touch-paint : (hs : List Hit) (b : List ℕ) (h : Hit) → Screen v b → Ok h → All Ok hs → touch v (paint v hs b) h ≡ paint v hs (touch v b h)
  unfolding paint
  touch-paint [] b h c oh none = refl
  touch-paint (k ∷ hs) b h c oh (also ok oks) =
      touch-paint hs (touch v b k) h (touch_screen k c) oh oks ∙ ap (paint v hs) (touch-comm b k h c ok oh)

  all_perm : {hs ks : List Hit} → Permᴰ hs ks → All Ok hs → All Ok ks
  all_perm Permᴰ.nil none = none
  all_perm (Permᴰ.cons e p) (also o os) = also (subst Ok e o) (all_perm p os)
  all_perm (Permᴰ.swap e f) (also o (also o' os)) = also (subst Ok f o') (also (subst Ok e o) os)
  all_perm (Permᴰ.trans p q) os = all_perm q (all_perm p os)

  -- any order gives the same bytes
  pub paint-perm : {hs ks : List Hit} (b : List ℕ) → Permᴰ hs ks → Screen v b → All Ok hs → paint v hs b ≡ paint v ks b
  unfolding paint
  paint-perm b Permᴰ.nil c none = refl
  paint-perm b (Permᴰ.cons {a = h} {b = k} {l₁ = hs} {l₂ = ks} e p) c (also o os) =
      paint-perm (touch v b h) p (touch_screen h c) os ∙ ap (λ (x : Hit). paint v ks (touch v b x)) e
  paint-perm b (Permᴰ.swap {a = h} {b = k} {l = l} e f) c (also o (also o' os)) =
      ap (paint v l) (touch-comm b h k c o o') ∙ ap₂ (λ (x y : Hit). paint v l (touch v (touch v b x) y)) f e
  paint-perm b (Permᴰ.trans p q) c os = paint-perm b p c os ∙ paint-perm b q c (all_perm p os)

  -- a second pass leaves of each hit what its ink leaves of itself
  paint_again : (hs : List Hit) (b : List ℕ) → Screen v b → All Ok hs → paint v hs (paint v hs b) ≡ paint v (map doubled hs) b
  unfolding paint
  paint_again [] b c none = refl
  paint_again (h ∷ hs) b c (also o os) =
      ap (paint v hs) (touch-paint hs (touch v b h) h (touch_screen h c) o os)
      ∙ ap (λ (x : List ℕ). paint v hs (paint v hs x)) (touch_twice v b h.x h.y h.ink h.ink c (fam.on h o) (fam.keeps h o))
      ∙ paint_again hs (touch v b (doubled h)) (touch_screen (doubled h) c) os

  pub paint_back : (hs ks : List Hit) (b : List ℕ) → Permᴰ hs ks → Screen v b → All Ok hs → paint v (hs ++ ks) b ≡ paint v (map doubled hs) b
  paint_back hs ks b p c os =
      paint-append v hs ks b ∙ sym (paint-perm (paint v hs b) p (paint_screen hs c) os) ∙ paint_again hs b c os

-- inks that change no word leave the bytes
pub paint_idle : (v : Canvas) (hs : List Hit) (b : List ℕ) → Screen v b → All (λ h. (w : ℕ) → w < range (form v) → h.ink w ≡ w) hs → paint v hs b ≡ b
unfolding paint
paint_idle v [] b c none = refl
paint_idle v (h ∷ hs) b c (also e es) = ap (paint v hs) (touch_idle v b h c e) ∙ paint_idle v hs b c es

-- ---- hits whose ink hangs on the pixel alone

-- such inks, that keep to the word's range
pub record By (v : Canvas) (f : ℕ → ℕ → ℕ → ℕ) (h : Hit) : Type 0 where
  pub on : On v h.x h.y
  pub inked : h.ink ≡ f h.x h.y

pub by_pixel : (v : Canvas) (f : ℕ → ℕ → ℕ → ℕ) → ((x y w : ℕ) → w < range (form v) → f x y w < range (form v)) → Family v (By v f)
by_pixel v f k = record {
  on = λ h o. o.on;
  keeps = λ h o w l. rw o.inked (k h.x h.y w l);
  commutes = λ h g o q m n w l. rw (o.inked ∙ ap₂ f m n, q.inked) refl;
}
