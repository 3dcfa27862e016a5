-- What the contracts of touches, rows and chunks speak of.
use Rattle.std.specs.Prelude.{◌≡◌, ℕ, zero, suc, ◌-◌, get_or}
use mathlib.Core.List.{List, [], ◌∷◌, flat_map}
use Rattle.pixels.specs.declared.Canvas.{Canvas}
use Rattle.pixels.specs.Bytes.{load, store, cells, load_at}
use Rattle.pixels.specs.Hits.{Hit, hit}

-- The n numbers from i on.
unfoldable pub run : ℕ → ℕ → List ℕ
run i zero = []
run i (suc n) = i ∷ run (suc i) n

-- What a touch of the s bytes from o on leaves.
pub record Touched (s o : ℕ) (f : ℕ → ℕ) (b b' : List ℕ) : Type 0 where
  pub same : b' ≡ store (cells s o) b (f (load (cells s o) b))

-- A hit on a pixel whose ink hangs on the pixel, and those of a part of a row and of a box.
unfoldable pub mark : (ℕ → ℕ → ℕ → ℕ) → ℕ → ℕ → List Hit
mark f y x = hit (f x y) x y ∷ []

abbrev pub marks : (ℕ → ℕ → ℕ → ℕ) → List ℕ → ℕ → List Hit
marks f xs y = flat_map (mark f y) xs

abbrev pub field : (ℕ → ℕ → ℕ → ℕ) → List ℕ → List ℕ → List Hit
field f xs ys = flat_map (marks f xs) ys

-- One ink everywhere.
abbrev pub flat : (ℕ → ℕ) → ℕ → ℕ → ℕ → ℕ
flat f x y = f

-- The words of the n pixels of row y from x on.
unfoldable pub words_of : Canvas → List ℕ → ℕ → ℕ → ℕ → List ℕ
words_of v b y x zero = []
words_of v b y x (suc n) = load_at v b x y ∷ words_of v b y (suc x) n

-- The words of a chunk, laid from x on in place of those stored.
abbrev pub laid : List ℕ → ℕ → ℕ → ℕ → ℕ → ℕ
laid ws x i j w = get_or ws (i - x) 0
