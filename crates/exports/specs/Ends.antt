-- What is left of a segment, in numbers. Definitions only.
use Rattle.std.specs.Prelude.{Bool, true, false, cond, ℕ, eqb, ℤ, pos, Option, Some, None}
use Rattle.segments.specs.declared.Segment.{Segment}

abbrev pub is_left : Option Segment → Bool
is_left None = false
is_left (Some s) = true

abbrev pub end_of : ℕ → Option Segment → ℤ
end_of n None = pos 0
end_of n (Some s) = cond (eqb n 0) s.x1 (cond (eqb n 1) s.y1 (cond (eqb n 2) s.x2 s.y2))
