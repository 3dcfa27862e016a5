-- What the contracts of the functions that calls are made of speak of; no contract of a call cites this file.
use Rattle.std.specs.Prelude.{◌≡◌, ℕ, ◌+◌, ◌-◌, ◌<◌, ◌≤◌, min, max, Bool, true, false, cond, ◌&&◌, List, [], ◌∷◌, ℤ, pos, int_le, int_lt, nat_le, nat_lt}
use Rattle.std.proofs.Math.IntN.{sub_ℕ}
unfoldable pub use Rattle.floats.specs.Whole.{lifted}
use Rattle.words.specs.declared.Ink.{Ink}
use Rattle.words.specs.Format.{range}
use Rattle.words.specs.Ink.{inked}
use Rattle.pixels.specs.declared.Canvas.{Canvas}
use Rattle.canvas.specs.declared.Clip.{Clip}
use Rattle.canvas.specs.declared.Tally.{Tally}
use Rattle.pixels.specs.declared.rows.Span.{Span}
use Rattle.pixels.specs.Bytes.{form, Sized}
use Rattle.canvas.specs.Clip.{within}
use Rattle.canvas.specs.Boxes.{select, source_of}
use Rattle.pixels.specs.Rows.{run}
use Rattle.canvas.specs.Plot.{Point, Plot, plot, Fate, landed, outside, clipped, fate, hit_of}
use Rattle.pixels.specs.Hits.{touch}

-- A lifted number again as a signed one.
unfoldable pub lowered : ℕ → ℤ
lowered p = sub_ℕ p 2147483648

-- A test of numbers that holds from lo up to end, and nowhere else.
pub record Holds (t : ℕ → Bool) (lo end : ℕ) : Type 0 where
  pub before : (k : ℕ) → k < lo → t k ≡ false
  pub inside : (k : ℕ) → lo ≤ k → k < end → t k ≡ true
  pub past : (k : ℕ) → end ≤ k → t k ≡ false

abbrev pub span : ℕ → ℕ → Span
span a b = record { from = a; to = b }

-- From one number up to another; where that is nothing, from 0 up to 0.
abbrev pub in_order : ℕ → ℕ → Span
in_order from to = cond (nat_lt to from) (span 0 0) (span from to)

-- What the numbers from lo up to end have of a side of n pixels inside the clip's span of m from c.
unfoldable pub cut_of : ℕ → ℕ → ℤ → ℕ → ℕ → Span
cut_of lo end c m n = in_order (max lo (lifted c - 2147483648)) (min (min end (lifted c + m - 2147483648)) n)

-- What such a span is: of a side of n pixels, those from lo up to end that lie in the clip's span of m from c.
pub record Cut (lo end : ℕ) (c : ℤ) (m n from to : ℕ) : Type 0 where
  pub ordered : from ≤ to
  pub held : to ≤ n
  pub begins : from < to → lo ≤ from
  pub ends : from < to → to ≤ end
  pub same : (t : ℕ → Bool) → Holds t lo end → run from (to - from) ≡ select (λ i. t i && within c m (pos i)) 0 n
  pub point : (t : ℕ → Bool) → Holds t lo end → (i : ℕ) → i < n → (t i && within c m (pos i)) ≡ (nat_le from i && nat_lt i to)

-- The tally with one plot more.
abbrev pub note : Fate → Tally → Tally
note landed t = record { landed = t.landed + 1 }
note outside t = t
note clipped t = t

-- The tally with n more that landed.
abbrev pub plus : Tally → ℕ → Tally
plus t n = record { landed = t.landed + n }

-- What a walk works on: the lent bytes, and the tally so far.
pub record Work : Type 0 where
  pub bytes : List ℕ
  pub tally : Tally

abbrev pub work : List ℕ → Tally → Work
work b t = record { bytes = b; tally = t }

-- One plot of this fate, and plots one after the other.
abbrev pub act : Canvas → Plot → Fate → Work → Work
act v p landed w = work (touch v w.bytes (hit_of p)) (note landed w.tally)
act v p outside w = work w.bytes (note outside w.tally)
act v p clipped w = work w.bytes (note clipped w.tally)

unfoldable pub drawn : Canvas → Clip → List Plot → Work → Work
drawn v c [] w = w
drawn v c (p ∷ ps) w = drawn v c ps (act v p (fate v c p) w)

-- The count fits its 64 bits.
abbrev pub Fits : Tally → Type 0
Fits t = t.landed < 18446744073709551616

-- What a function may count on before these plots: a canvas that is not refused, and a tally that fits at the end.
pub record Ready (v : Canvas) (c : Clip) (ps : List Plot) (w : Work) : Type 0 where
  pub sized : Sized v w.bytes
  pub room : Fits (drawn v c ps w).tally

-- An ink that makes words of words.
pub record Keeps (v : Canvas) (i : Ink) : Type 0 where
  pub keeps : (w : ℕ) → w < range (form v) → inked i w < range (form v)

-- The plots were made.
pub record Did (v : Canvas) (c : Clip) (ps : List Plot) (w w' : Work) : Type 0 where
  pub same : w' ≡ drawn v c ps w

-- The source of what is shown begins at from + s - p, and is on its side of m.
pub record Sourced (p s m from to : ℕ) : Type 0 where
  pub begins : from < to → p ≤ from + s
  pub ends : from < to → from + s - p + (to - from) ≤ m

-- What a span with a source is: of a side of n pixels, those in the span of len from p whose source, from s on, is on a side of m, and
-- that lie in the clip's span of k from c.
pub record Shown (p s len m : ℕ) (c : ℤ) (k n from to : ℕ) : Type 0 where
  pub ordered : from ≤ to
  pub held : to ≤ n
  pub same : run from (to - from)
      ≡ select (λ i. (within (lowered p) len (pos i) && within (pos 0) m (source_of (lowered p) (lowered s) i)) && within c k (pos i)) 0 n
  pub sourced : Sourced p s m from to

-- Whether a column or row is one of a span.
unfoldable pub covers : Span → ℤ → Bool
covers s z = int_le (pos s.from) z && int_lt z (pos s.to)

-- A plot that can land on these columns and rows alone, and plots one after the other.
unfoldable pub dabbed : Canvas → Span → Span → (ℕ → ℕ) → Point → Work → Work
dabbed v xs ys f p w = cond (covers xs p.x && covers ys p.y) (act v (plot f p.x p.y) landed w) w

unfoldable pub dabs : Canvas → Span → Span → (ℕ → ℕ) → List Point → Work → Work
dabs v xs ys f [] w = w
dabs v xs ys f (p ∷ ps) w = dabs v xs ys f ps (dabbed v xs ys f p w)

-- Columns and rows of the canvas.
pub record Fields (v : Canvas) (xs ys : Span) : Type 0 where
  pub ordered-x : xs.from ≤ xs.to
  pub ordered-y : ys.from ≤ ys.to
  pub held_x : xs.to ≤ v.width
  pub held-y : ys.to ≤ v.height

-- Those that are inside the clip.
pub record Window (v : Canvas) (c : Clip) (xs ys : Span) : Type 0 where
  pub columns : Cut 0 v.width c.x c.width v.width xs.from xs.to
  pub rows : Cut 0 v.height c.y c.height v.height ys.from ys.to
