-- Where the code is in a line or a buffer: what its slices stand for. No public contract speaks of these.
use Rattle.std.specs.Prelude.{List, [], ◌∷◌, ◌≡◌, ℕ, ◌+◌, length, Option, Some, None}
use Rattle.std.specs.Borrow.{Bor}
use Rattle.cases.specs.Line.{first_word, other_words, Left, words, lost, Got, got}
use Rattle.cases.specs.Row.{Args}
use Rattle.cases.specs.Seed.{Sown, zeros, counted, given, byte}
use Rattle.cases.specs.Answer.{placed}
use Rattle.cases.specs.declared.row.Args.{Args as Taken}
use Rattle.cases.specs.declared.seed.Seed.{Seed}
use Rattle.cases.specs.declared.seed.Seed.TheVariants.{Zeros, Bytes}

-- What is left of a line: from a word on, or no word.
abbrev pub words_left : Option (Bor (List ℕ)) → List (List ℕ)
words_left None = []
words_left (Some s) = first_word s.now ∷ other_words s.now

abbrev pub left_of : Option (Bor (List ℕ)) → Left
left_of s = words (words_left s)

-- What the code has read, beside what there was to read; without an answer reading is lost.
abbrev pub Reads : {A B : Type 0} → (A → B) → Option (A × Option (Bor (List ℕ))) → Got B → Type 0
Reads seen None g = g.left ≡ lost
Reads seen (Some p) g = g ≡ got (seen p.0) (left_of p.1)

-- The bytes that pairs of hex digits are.
unfoldable pub pairs : List ℕ → List ℕ
pairs [] = []
pairs (a ∷ []) = []
pairs (a ∷ b ∷ w) = byte a b ∷ pairs w

-- Of hex digits the code keeps the digits.
abbrev pub sown : Seed → Sown
sown Zeros = zeros
sown (Seed.Number s) = counted s
sown (Bytes digits) = given (pairs digits.now)

abbrev pub taken : Taken → Args
taken a = record { numbers = a.numbers; seed = sown a.seed }

-- Bytes that are given are as many as there are to fill.
abbrev pub Fills : Sown → ℕ → Type 0
Fills zeros n = Unit {0}
Fills (counted s) n = Unit {0}
Fills (given bs) n = n ≡ length bs

-- What writing a text at a place leaves and answers.
pub record Wrote (t d : List ℕ) (at : ℕ) (d' : List ℕ) (r : ℕ) : Type 0 where
  pub same : d' ≡ placed d at t
  pub to : r ≡ at + length t
