-- The tables that words of 332 and 565 are read through, and what is read through any such table.
use Rattle.std.specs.Prelude.{List, [], ◌∷◌, ℕ, zero, suc, ◌/◌, ◌%◌, get_or}
use Rattle.words.specs.declared.Color.{Color}
use Rattle.words.specs.Format.{rgb332, argb}
use Rattle.words.specs.Word.{color, from_color, to_color, level5, level6}

-- What a rule gives at i and at the numbers after it, n in all.
unfoldable pub run : (ℕ → ℕ) → ℕ → ℕ → List ℕ
run f i zero = []
run f i (suc n) = f i ∷ run f (suc i) n

-- "two constant tables of 32 and 64 entries"
unfoldable pub fives : List ℕ
fives = run level5 0 32

unfoldable pub sixes : List ℕ
sixes = run level6 0 64

-- "The way back stands as a table of 256 ARGB words."
unfoldable pub argb332 : ℕ → ℕ
argb332 w = from_color argb (to_color rgb332 w)

unfoldable pub back332 : List ℕ
back332 = run argb332 0 256

unfoldable pub through332 : List ℕ → ℕ → Color
through332 table w = to_color argb (get_or table (w % 256) 0)

unfoldable pub through565 : List ℕ → List ℕ → ℕ → Color
through565 fives sixes w = color 255 (get_or fives (w / 2048 % 32) 0) (get_or sixes (w / 32 % 64) 0) (get_or fives (w % 32) 0)
