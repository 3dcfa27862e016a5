-- The words of a line, and how they are read one after the other.
use Rattle.std.specs.Prelude.{cond, List, [], ◌∷◌, ℕ, eqb, Option, Some, None}

-- "words apart by single spaces": up to the first space, and what follows it.
unfoldable pub first_word : List ℕ → List ℕ
first_word [] = []
first_word (b ∷ s) = cond (eqb b 32) [] (b ∷ first_word s)

unfoldable pub other_words : List ℕ → List (List ℕ)
other_words [] = []
other_words (b ∷ s) = cond (eqb b 32) (first_word s ∷ other_words s) (other_words s)

-- What is left of a line while it is read: its words, or nothing, since a word was not what it had to be.
pub data Left : Type 0 where
  words : List (List ℕ) → Left
  lost : Left

unfoldable pub words_of : List ℕ → Left
words_of s = words (first_word s ∷ other_words s)

-- What was read, and what is left after it.
pub record Got (A : Type 0) : Type 0 where
  pub value : A
  pub left : Left

abbrev pub got : {A : Type 0} → A → Left → Got A
got a l = record { value = a; left = l }

unfoldable pub after : {A : Type 0} → A → Option A → Left → Got A
after d (Some a) l = got a l
after d None l = got d lost

-- The first word left is read by a rule, which says what a word stands for, if anything; with a stand-in where reading is lost.
unfoldable pub next : {A : Type 0} → A → (List ℕ → Option A) → Left → Got A
next d f (words []) = got d lost
next d f (words (w ∷ ws)) = after d (f w) (words ws)
next d f lost = got d lost

unfoldable pub or_else : {A : Type 0} → Left → A → A → A
or_else (words ws) a b = a
or_else lost a b = b

-- The first of two readings, or the second where the first is lost.
unfoldable pub first_of : {A : Type 0} → Got A → Got A → Got A
first_of g h = or_else g.left g h
