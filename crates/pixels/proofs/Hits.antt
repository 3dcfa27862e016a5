-- One hit, and some: the length of the bytes, bytes that stay bytes, inks that agree on words, and hits in two parts.
use mathlib.Core.Path.{◌≡◌, refl, ap, ◌∙◌}
use mathlib.Core.List.{List, [], ◌∷◌, ◌++◌}
use Prim.Native.Nat.{ℕ, ◌<◌}
use lib.ListN.{length}
use Rattle.words.specs.Format.{range}
use Rattle.pixels.specs.declared.Canvas.{Canvas}
use Rattle.pixels.specs.Bytes.{form, load_at, store_at}
use Rattle.pixels.specs.Hits.{Hit, hit, touch, paint}
use Rattle.pixels.proofs.bytes.Cells.{Bytes}
use Rattle.pixels.proofs.bytes.Pixels.{length-store, bytes-store, load_lt}

-- the length of the bytes is kept
pub touch-length : (v : Canvas) (b : List ℕ) (h : Hit) → length (touch v b h) ≡ length b
unfolding touch
touch-length v b h = length-store v b h.x h.y _

pub paint-length : (v : Canvas) (hs : List Hit) (b : List ℕ) → length (paint v hs b) ≡ length b
unfolding paint
paint-length v [] b = refl
paint-length v (h ∷ hs) b = paint-length v hs (touch v b h) ∙ touch-length v b h

pub touch-ink : (v : Canvas) (b : List ℕ) (x y : ℕ) (f g : ℕ → ℕ) → Bytes b → ((w : ℕ) → w < range (form v) → f w ≡ g w) → touch v b (hit f x y) ≡ touch v b (hit g x y)
unfolding touch
touch-ink v b x y f g h e = ap (store_at v b x y) (e (load_at v b x y) (load_lt v b x y h))

pub touch-bytes : (v : Canvas) (b : List ℕ) (h : Hit) → Bytes b → Bytes (touch v b h)
unfolding touch
touch-bytes v b h o = bytes-store v b h.x h.y _ o

pub paint-append : (v : Canvas) (hs ks : List Hit) (b : List ℕ) → paint v (hs ++ ks) b ≡ paint v ks (paint v hs b)
unfolding paint
paint-append v [] ks b = refl
paint-append v (h ∷ hs) ks b = paint-append v hs ks (touch v b h)
