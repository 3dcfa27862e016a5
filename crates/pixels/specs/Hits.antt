-- Hits: pixels and what becomes of their words, and the bytes that they leave.
use Rattle.std.specs.Prelude.{List, [], ◌∷◌, ℕ}
use Rattle.pixels.specs.declared.Canvas.{Canvas}
use Rattle.pixels.specs.Bytes.{load_at, store_at}

-- A pixel, and what becomes of its word.
pub record Hit : Type 0 where
  pub x : ℕ
  pub y : ℕ
  pub ink : ℕ → ℕ

abbrev pub hit : (ℕ → ℕ) → ℕ → ℕ → Hit
hit f x y = record { x = x; y = y; ink = f }

-- The bytes after one hit, and after some in order.
unfoldable pub touch : Canvas → List ℕ → Hit → List ℕ
touch v b h = store_at v b h.x h.y (h.ink (load_at v b h.x h.y))

unfoldable pub paint : Canvas → List Hit → List ℕ → List ℕ
paint v [] b = b
paint v (h ∷ hs) b = paint v hs (touch v b h)
