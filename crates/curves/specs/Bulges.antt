-- Regions that are one run in each row: the ellipses of pies, and boxes with round corners. No public contract of `ovals` cites this
-- file: that these are the tests of 01 is `pie-is` in proofs/Disc and `round_is` in proofs/Arcs. Definitions only.
use Rattle.std.specs.Prelude.{◌≡◌, ℕ, ◌+◌, ◌-◌, ◌*◌, ◌<◌, ◌≤◌, min, max, Bool, true, false, pos, Float}
use Rattle.std.specs.Float.{binary32}
use Rattle.std.specs.Float.Ieee.{of_int, add, mul, div, le}
use Rattle.floats.specs.Size.{one}
use Rattle.curves.specs.declared.bulges.Side.{Side}

-- How far the i-th of n places lies from their middle, in halves.
abbrev pub far : ℕ → ℕ → ℕ
far n i = (2 * i - (n - 1)) + (n - 1 - 2 * i)

-- Its offset from the nearest centre, where that of an end place is `arc` halves.
abbrev pub reach : ℕ → ℕ → ℕ → ℕ
reach n arc i = far n i + arc - (n - 1)

-- "((px-cx)/max(a,0.5))²", for an offset of k halves over d halves.
unfoldable pub part_at : ℕ → ℕ → Float
part_at k d = let n = div binary32 (of_int binary32 (pos k)) (of_int binary32 (pos d)) in mul binary32 n n

-- The part of the i-th place of a side, and whether a row with the part `row` takes it: "not above 1 in f32".
unfoldable pub part_on : Side → ℕ → Float
part_on s i = part_at (reach s.count s.arc i) s.by

unfoldable pub has_at : Side → Float → ℕ → Bool
has_at s row i = le (add binary32 (part_on s i) row) one

-- A side of a pie's box, and one of a box with arcs of this size.
unfoldable pub pie_side : ℕ → Side
pie_side n = record { count = n; arc = n - 1; by = max (n - 1) 1 }

unfoldable pub round_side : ℕ → ℕ → Side
round_side arc n = record { count = n; arc = max (min arc n) 1; by = max (min arc n) 1 }

-- What a side of a box that SHAPE lets pass has.
pub record Sided (s : Side) : Type 0 where
  pub some : 0 < s.count
  pub few : s.count ≤ 32767
  pub bent : s.arc ≤ s.count
  pub divides : 0 < s.by
  pub small : s.by ≤ 32767

-- What is taken is all that is no farther from the middle than something that is taken.
pub record Rising (t : ℕ → Bool) (n : ℕ) : Type 0 where
  pub nearer : (i k : ℕ) → i < n → k < n → far n k ≤ far n i → t i ≡ true → t k ≡ true

-- Of n places the test takes those from r up to n - r.
pub record Run (t : ℕ → Bool) (n r : ℕ) : Type 0 where
  pub half : 2 * r ≤ n + 1
  pub before : (i : ℕ) → i < r → t i ≡ false
  pub taken : (i : ℕ) → r ≤ i → i < n - r → t i ≡ true
  pub after : (i : ℕ) → n - r ≤ i → i < n → t i ≡ false
