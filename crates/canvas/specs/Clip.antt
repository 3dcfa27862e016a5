-- Spans and clips, in whole numbers without wrap.
use Rattle.std.specs.Prelude.{ℕ, Bool, ◌&&◌, ℤ, pos, ◌+ℤ◌, ◌-ℤ◌, int_le, int_lt}
use Rattle.std.specs.Int.{int_min, int_max}
use Rattle.floats.specs.Whole.{at_least0}
use Rattle.canvas.specs.declared.Clip.{Clip}

-- p is one of the n whole numbers from a on.
unfoldable pub within : ℤ → ℕ → ℤ → Bool
within a n p = int_le a p && int_lt p (a +ℤ pos n)

-- "the clip: x from clip.x up to but not including clip.x + width, in whole numbers without wrap"
unfoldable pub in_clip : Clip → ℤ → ℤ → Bool
in_clip c x y = within c.x c.width x && within c.y c.height y

-- From the larger corner to the smaller end: "a negative extent becomes 0"
unfoldable pub shared : ℤ → ℕ → ℤ → ℕ → ℕ
shared a m b n = at_least0 (int_min (a +ℤ pos m) (b +ℤ pos n) -ℤ int_max a b)

-- "`Clip::intersect` keeps the larger corner; a negative extent becomes 0."
unfoldable pub intersection : Clip → Clip → Clip
intersection c d = record {
  x = int_max c.x d.x;
  y = int_max c.y d.y;
  width = shared c.x c.width d.x d.width;
  height = shared c.y c.height d.y d.height;
}
