-- Lines of a text that is held in part.
use Rattle.std.specs.Prelude.{List, ◌≡◌, ◌==◌, ℕ, ◌+◌, ◌<◌, ◌≤◌, min, length, slice_range}
use Rattle.std.specs.List.{before_first}
use Rattle.dialogue.specs.declared.Place.{Place}

-- Up to the first line end, or all.
abbrev pub first_line : List ℕ → List ℕ
first_line s = before_first (λ b. b == 10) s

-- It holds no line end.
abbrev pub OneLine : List ℕ → Type 0
OneLine s = first_line s ≡ s

-- A line stands in what is held of the text, and what is used of out in out.
pub record Stands (p : Place) (text out : List ℕ) : Type 0 where
  pub first : p.at ≤ p.end
  pub last : p.end ≤ p.held
  pub within : p.held ≤ length text
  pub room : p.used ≤ length out
  pub line : OneLine (slice_range text p.at p.end)

-- Where the text goes on behind a place's line, up to where, and what is held there.
abbrev pub top : Place → List ℕ → ℕ
top p t = min p.held (length t)

abbrev pub start : Place → List ℕ → ℕ
start p t = min (p.end + 1) (top p t)

abbrev pub ahead : Place → List ℕ → ℕ
ahead p t = start p t + length (first_line (slice_range t (start p t) (top p t)))

-- A line that is whole in what is held is the next one, and then the text is as before.
pub record Follows (p q : Place) (t t' : List ℕ) : Type 0 where
  pub whole : ahead p t < top p t → (t' ≡ t) × ((q.at ≡ start p t) × (q.end ≡ ahead p t))
