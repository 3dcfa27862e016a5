-- Runs of words: what `draw` reads, and what it leaves.
use Rattle.std.specs.Prelude.{Bool, List, [], ◌∷◌, map, ℕ}
use Rattle.words.specs.Format.{Format, argb}
use Rattle.words.specs.Word.{from_color, to_color}
use Rattle.blending.specs.Blend.{Rule, flip_word, blend_word}

-- Each word as the ARGB word of the colour that is read.
abbrev pub read : Format → ℕ → ℕ
read f w = from_color argb (to_color f w)

unfoldable pub argb_of : Format → List ℕ → List ℕ
argb_of f ws = map (read f) ws

-- What is made of the words beside others, as far as there are others.
unfoldable pub pairwise : (ℕ → ℕ → ℕ) → List ℕ → List ℕ → List ℕ
pairwise make [] ws = ws
pairwise make (c ∷ cs) [] = []
pairwise make (c ∷ cs) (w ∷ ws) = make c w ∷ pairwise make cs ws

-- "`draw` blends instead": each ARGB word over the word beside it.
abbrev pub draw : Format → Rule → Bool → ℕ → ℕ → ℕ
draw f k x c w = blend_word f k x (to_color argb c) w

unfoldable pub blended : Format → Rule → Bool → List ℕ → List ℕ → List ℕ
blended f k x cs ws = pairwise (draw f k x) cs ws

-- The same where XOR is on.
abbrev pub flip : Format → ℕ → ℕ → ℕ
flip f c w = flip_word f (to_color argb c) w

unfoldable pub flipped : Format → List ℕ → List ℕ → List ℕ
flipped f cs ws = pairwise (flip f) cs ws

-- "alpha 255 stores": the word of each ARGB word's colour, whatever stood there.
abbrev pub store : Format → ℕ → ℕ → ℕ
store f c w = from_color f (to_color argb c)

unfoldable pub stored : Format → List ℕ → List ℕ → List ℕ
stored f cs ws = pairwise (store f) cs ws
