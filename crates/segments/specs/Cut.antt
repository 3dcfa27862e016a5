-- What a canvas has of a segment, in the words and the order of 01. Definitions only.
use Rattle.std.specs.Prelude.{Bool, cond, ◌&&◌, ℕ, ℤ, pos, negsuc, Float, Option, Some, None}
use Rattle.std.specs.Int.Signed.{le_z}
use Rattle.std.specs.Float.{binary64}
use Rattle.std.specs.Float.Ieee.{of_int, neg, add, sub, mul, div, lt, eq}
use Rattle.floats.specs.Size.{plus_zero, one}
use Rattle.floats.specs.Whole.{round_as}
use Rattle.segments.specs.declared.Segment.{Segment}
use Rattle.segments.specs.declared.Part.{Part}

-- "in -1..width by -1..height, ends included"
unfoldable pub near : ℕ → ℤ → Bool
near n x = le_z (negsuc 0) x && le_z x (pos n)

unfoldable pub inside : ℕ → ℕ → ℤ → ℤ → Bool
inside width height x y = near width x && near height y

-- "A segment with both ends in -1..width by -1..height, ends included, is kept."
unfoldable pub kept : ℤ → ℤ → ℤ → ℤ → ℕ → ℕ → Bool
kept x1 y1 x2 y2 width height = inside width height x1 y1 && inside width height x2 y2

-- "by Liang-Barsky in f64": a whole number.
abbrev pub float : ℤ → Float
float n = of_int binary64 n

abbrev pub part : Float → Float → Part
part enter leave = record { enter = enter; leave = leave }

-- One side: the segment goes p its way, with q to go. Where it goes along the side it is out or not; where it comes in,
-- the entry is the larger parameter; where it goes out, the exit is the smaller.
unfoldable pub narrowed : Float → Float → Option Part → Option Part
narrowed p q None = None
narrowed p q (Some t) =
    let r = div binary64 q p in
    cond (eq p plus_zero) (cond (lt q plus_zero) None (Some t))
    (cond (lt p plus_zero) (Some (part (cond (lt t.enter r) r t.enter) t.leave)) (Some (part t.enter (cond (lt r t.leave) r t.leave))))

-- Nothing is left where the exit comes before the entry.
abbrev pub forward : Option Part → Option Part
forward None = None
forward (Some t) = cond (lt t.leave t.enter) None (Some t)

-- "in the order left, right, top, bottom; the answer is either a pair of f64 parameters or nothing left"
unfoldable pub parameters : ℤ → ℤ → ℤ → ℤ → ℕ → ℕ → Option Part
parameters x1 y1 x2 y2 width height =
    let dx = sub binary64 (float x2) (float x1) in
    let dy = sub binary64 (float y2) (float y1) in
    let left = narrowed (neg dx) (sub binary64 (float x1) (neg one)) (Some (part plus_zero one)) in
    let right = narrowed dx (sub binary64 (float (pos width)) (float x1)) left in
    let top = narrowed (neg dy) (sub binary64 (float y1) (neg one)) right in
    let bottom = narrowed dy (sub binary64 (float (pos height)) (float y1)) top in
    forward bottom

-- "Each new end is the first end plus the delta times its parameter in f64, rounded, halves away from zero."
unfoldable pub end : ℤ → ℤ → Float → ℤ
end first second t = round_as 31 (add binary64 (float first) (mul binary64 (sub binary64 (float second) (float first)) t))

abbrev pub segment : ℤ → ℤ → ℤ → ℤ → Segment
segment x1 y1 x2 y2 = record { x1 = x1; y1 = y1; x2 = x2; y2 = y2 }

abbrev pub between : ℤ → ℤ → ℤ → ℤ → Option Part → Option Segment
between x1 y1 x2 y2 None = None
between x1 y1 x2 y2 (Some t) =
    Some (segment (end x1 x2 t.enter) (end y1 y2 t.enter) (end x1 x2 t.leave) (end y1 y2 t.leave))

-- "Any other is cut"
unfoldable pub clip_segment : ℤ → ℤ → ℤ → ℤ → ℕ → ℕ → Option Segment
clip_segment x1 y1 x2 y2 width height =
    cond (kept x1 y1 x2 y2 width height) (Some (segment x1 y1 x2 y2)) (between x1 y1 x2 y2 (parameters x1 y1 x2 y2 width height))
