-- Pies: which points of its box one takes. Definitions only.
use Rattle.std.specs.Prelude.{◌≡◌, ℕ, ◌-◌, ◌%◌, ◌<◌, ◌≤◌, Bool, true, false, cond, not, ◌&&◌, Option, Some, None, ℤ, pos, ◌+ℤ◌, int_le, int_lt, nat_le, unsigned_abs, Float}
use Rattle.std.specs.Float.{fin, binary32}
use Rattle.std.specs.Float.Ieee.{of_int, neg, add, sub, mul, div, lt, le, eq}
use Rattle.floats.specs.Size.{plus_zero, one, abs_of, max_of, sign_of}
use Rattle.floats.specs.Degrees.{turn, rem_euclid360}
use Rattle.floats.specs.Whole.{ceil_size}
use Rattle.angle.specs.Arctangent.{arctangent_of, Domain}
use Rattle.curves.specs.declared.pies.Sweep.{Sweep}
use Rattle.curves.specs.declared.pies.Sweep.TheVariants.{All, Empty, Part}
use Rattle.curves.specs.declared.pies.Degrees.{Degrees}
use Rattle.curves.specs.declared.pies.Pie.{Pie}
use Rattle.curves.specs.Oval.{half, half_axis, offset, oval_of}

-- ---- the sweep, in degrees

-- "a sweep of size 360 or more, of either sign, is all, 0 is none", "a negative sweep being turned to run from start + sweep"
unfoldable pub sweep_of : Float → Float → Sweep
sweep_of start sweep =
    cond (le turn (abs_of sweep)) All
    (cond (eq sweep plus_zero) Empty (cond (lt plus_zero sweep) (Part start sweep) (Part (add binary32 start sweep) (neg sweep))))

abbrev pub is_all : Sweep → Bool
is_all All = true
is_all Empty = false
is_all (Part start length) = false

-- "the angle less the start, brought into 0..360 in f32 .., is at most the sweep"
unfoldable pub in_arc : Float → Float → Float → Float → Bool
in_arc start length dx dy = le (rem_euclid360 (sub binary32 (arctangent_of (neg dy) dx) start)) length

-- "distance squared below 1 is in; else the angle .."
unfoldable pub in_sweep : Sweep → Float → Float → Bool
in_sweep All dx dy = true
in_sweep Empty dx dy = false
in_sweep (Part start length) dx dy = cond (lt (add binary32 (mul binary32 dx dx) (mul binary32 dy dy)) one) true (in_arc start length dx dy)

-- ---- the whole test

-- "((px-cx)/max(a,0.5))² + ((py-cy)/max(b,0.5))² not above 1 in f32, then the sweep test", for the point (i, j).
unfoldable pub in_pie : ℤ → ℤ → ℕ → ℕ → ℤ → ℤ → ℕ → ℕ → Bool
in_pie x y w h start sweep i j =
    let dx = offset (pos i) x w in
    let dy = offset (pos j) y h in
    let nx = div binary32 dx (max_of (half_axis w) half) in
    let ny = div binary32 dy (max_of (half_axis h) half) in
    cond (lt one (add binary32 (mul binary32 nx nx) (mul binary32 ny ny))) false (in_sweep (sweep_of (of_int binary32 start) (of_int binary32 sweep)) dx dy)

-- ---- the sweep of a pie, apart from its ellipse: what inner functions go by; no public contract cites what follows

-- Whether a part sweep starts at 1440 - n degrees and is l degrees long, as much as a part of a turn.
unfoldable pub is_whole : Float → Float → ℕ → ℕ → Bool
is_whole start length n l =
    nat_le n 2880 && (nat_le 1 l && (nat_le l 359 && (eq (sub binary32 (fin false 45 (pos 5)) (of_int binary32 (pos n))) start && eq (of_int binary32 (pos l)) length)))

-- The degrees of a part sweep, where they are whole.
unfoldable pub degrees_of : Sweep → Option Degrees
degrees_of All = None
degrees_of Empty = None
degrees_of (Part start length) =
    let n = ceil_size (sub binary32 (fin false 45 (pos 5)) start) in
    let l = ceil_size length in
    cond (is_whole start length n l) (Some (record { from = n % 360; length = l })) None

-- Which eighth of a half turn, from the right on, and which of a turn has the offset that is so far up and to the right.
abbrev pub flank_of : Float → Float → ℕ
flank_of up right = cond (lt right plus_zero) (cond (lt (abs_of right) (abs_of up)) 2 3) (cond (lt (abs_of right) (abs_of up)) 1 0)

abbrev pub eighth_of : Float → Float → ℕ
eighth_of up right = cond (sign_of up) (7 - flank_of up right) (flank_of up right)

unfoldable pub pie_of : ℤ → ℤ → ℕ → ℕ → ℤ → ℤ → Pie
pie_of x y w h start sweep =
    let s = sweep_of (of_int binary32 start) (of_int binary32 sweep) in
    record { oval = oval_of x y w h; sweep = s; degrees = degrees_of s }

-- A pie of every direction.
unfoldable pub all_round : Pie
all_round = record {
  oval = record { cx = plus_zero; cy = plus_zero; a = plus_zero; b = plus_zero };
  sweep = All;
  degrees = None;
}

-- Whether its sweep has the pixel i of row j.
unfoldable pub covers : Pie → ℕ → ℕ → Bool
covers p i j = in_sweep p.sweep (sub binary32 (of_int binary32 (pos i)) p.oval.cx) (sub binary32 (of_int binary32 (pos j)) p.oval.cy)

-- Where the sweep asks for the angle of a pixel, the arctangent has one.
abbrev pub Asked : Pie → ℕ → ℕ → Type 0
Asked p i j =
    let dx = sub binary32 (of_int binary32 (pos i)) p.oval.cx in
    let dy = sub binary32 (of_int binary32 (pos j)) p.oval.cy in
    lt (add binary32 (mul binary32 dx dx) (mul binary32 dy dy)) one ≡ false → Domain (neg dy) dx

-- Of a part sweep: its degrees are known, and it may be asked for the pixels of row y from x on and before x1.
pub record Swept (p : Pie) (x x1 y : ℕ) : Type 0 where
  pub degrees : is_all p.sweep ≡ false → p.degrees ≡ degrees_of p.sweep
  pub asked : is_all p.sweep ≡ false → (i : ℕ) → x ≤ i → i < x1 → Asked p i y

-- r is the first number from x on at which the test answers so, or x1, where none before it does.
pub record Next (t : ℕ → Bool) (taken : Bool) (x x1 r : ℕ) : Type 0 where
  pub from : x ≤ r
  pub to : r ≤ x1
  pub before : (i : ℕ) → x ≤ i → i < r → t i ≡ not taken
  pub here : r < x1 → t r ≡ taken

-- ---- the points of a box

-- p is a place of a canvas's side, and one of the w from x on, a side of a box that SHAPE lets pass.
pub record Inside (x : ℤ) (w p : ℕ) : Type 0 where
  pub corner : unsigned_abs x ≤ 32768
  pub side : w ≤ 32767
  pub place : p ≤ 32767
  pub from : int_le x (pos p) ≡ true
  pub to : int_lt (pos p) (x +ℤ pos w) ≡ true
