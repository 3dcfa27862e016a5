-- The drawing calls: the plots that each makes, and what it answers and leaves.
use Rattle.std.specs.Prelude.{ℕ, List, [], ◌∷◌, length, ℤ, unsigned_abs, Result, Ok, Err}
use Rattle.words.specs.declared.Color.{Color}
use Rattle.words.specs.Word.{to_color}
use Rattle.words.specs.Ink.{plot_word}
use Rattle.words.specs.Invert.{invert_word}
use Rattle.blending.specs.Blend.{Rule, rule_of, blend_word}
use Rattle.pixels.specs.declared.Canvas.{Canvas}
use Rattle.canvas.specs.declared.Clip.{Clip}
use Rattle.canvas.specs.declared.Refusal.{Refusal}
use Rattle.canvas.specs.declared.Tally.{Tally}
use Rattle.pixels.specs.Bytes.{form, load_at}
use Rattle.canvas.specs.Faults.{number, Verdict, or_else, verdict, as_source}
use Rattle.canvas.specs.Plot.{Point, Plot, at, Dye, plain, over, inverse, Dot, tint, dip, hits}
use Rattle.pixels.specs.Hits.{paint}
use Rattle.canvas.specs.Lines.{line}
use Rattle.canvas.specs.Boxes.{fill, outline, picture, source_of, shown}

-- A call that a second one takes away: a shape in one dye, by its own faults and its points on a canvas; or a box of an image.
pub data Call : Type 0 where
  shape : Verdict → (Canvas → List Point) → Dye → Clip → Call
  draw : ℤ → ℤ → ℕ → ℕ → Canvas → List ℕ → ℤ → ℤ → Clip → Call

abbrev pub put_pixel : ℤ → ℤ → Color → Clip → Call
put_pixel x y color clip = shape (Ok tt) (λ v. at x y ∷ []) (plain color) clip

abbrev pub draw_line : ℤ → ℤ → ℤ → ℤ → Color → Clip → Call
draw_line x1 y1 x2 y2 color clip = shape (Ok tt) (λ v. line v x1 y1 x2 y2) (plain color) clip

abbrev pub draw_rect : ℤ → ℤ → ℕ → ℕ → Color → Clip → Call
draw_rect x y w h color clip = shape (Ok tt) (λ v. outline v x y w h) (plain color) clip

abbrev pub fill_rect : ℤ → ℤ → ℕ → ℕ → Color → Clip → Call
fill_rect x y w h color clip = shape (Ok tt) (λ v. fill v x y w h) (plain color) clip

abbrev pub invert_rect : ℤ → ℤ → ℕ → ℕ → Clip → Call
invert_rect x y w h clip = shape (Ok tt) (λ v. fill v x y w h) inverse clip

abbrev pub clip_of : Call → Clip
clip_of (shape own points dye clip) = clip
clip_of (draw dx dy w h source image sx sy clip) = clip

-- Its faults beside those of the canvas: "4 SOURCE", "5 ANGLE" and "6 SHAPE", of the calls that they are for.
abbrev pub fault_of : Call → Verdict
fault_of (shape own points dye clip) = own
fault_of (draw dx dy w h source image sx sy clip) = as_source (verdict source (length image))

-- The colour of the source that comes to a pixel.
abbrev pub source_color : Canvas → List ℕ → ℤ → ℤ → ℤ → ℤ → ℕ → ℕ → Color
source_color s image dx dy sx sy i j = to_color (form s) (load_at s image (unsigned_abs (source_of dx sx i)) (unsigned_abs (source_of dy sy j)))

-- Its points with their dyes, on the canvas or off it, in the order of its rules.
unfoldable pub dots : Canvas → Call → List Dot
dots v (shape own points dye clip) = tint dye (points v)
dots v (draw dx dy w h source image sx sy clip) =
    picture (λ i j. over (source_color source image dx dy sx sy i j)) (shown dx sx w source.width v.width) (shown dy sy h source.height v.height)

-- "Demand 2 reads by the rule carried": of the canvas that is drawn on.
abbrev pub carried : Canvas → Rule
carried v = rule_of v.rule

-- What a dye makes of the word stored on this canvas: "`draw` blends instead."; "`copy_area` and `invert_rect` ignore XOR."
abbrev pub brush : Canvas → Dye → ℕ → ℕ
brush v (plain c) = plot_word (form v) v.xor c
brush v (over c) = blend_word (form v) (carried v) v.xor c
brush v inverse = invert_word (form v)

abbrev pub plots : Canvas → Call → List Plot
plots v k = dip (brush v) (dots v k)

-- What a caller gets back, and what the lent bytes hold then.
pub record Outcome : Type 0 where
  pub status : ℕ
  pub count : ℕ
  pub bytes : List ℕ

abbrev pub outcome : ℕ → ℕ → List ℕ → Outcome
outcome s n b = record { status = s; count = n; bytes = b }

-- What a drawing call answers: what landed, or why it is refused.
abbrev pub Landed : Type 0
Landed = Result Tally Refusal

-- 01's number and count of each answer.
unfoldable pub status_of : Landed → ℕ
status_of (Err r) = number r
status_of (Ok t) = 0

unfoldable pub count_of : Landed → ℕ
count_of (Err r) = 0
count_of (Ok t) = t.landed

abbrev pub leaves : Landed → List ℕ → Outcome
leaves d b = outcome (status_of d) (count_of d) b

-- "0 | accepted | result, count"; a refusal: "count 0, bytes as before"
abbrev pub ruled : Verdict → ℕ → List ℕ → List ℕ → Outcome
ruled (Ok u) n painted b = outcome 0 n painted
ruled (Err r) n painted b = outcome (number r) 0 b

-- "a count ..: the pixels touched, being the number of plots that land on the canvas and inside the clip"; "For area copy and inversion
-- it is the number of pixels written."
unfoldable pub drawing : Verdict → Canvas → Clip → List Plot → List ℕ → Outcome
drawing d v c ps b = ruled d (length (hits v c ps)) (paint v (hits v c ps) b) b

-- The faults of the canvas come before the call's own.
abbrev pub call : Canvas → Call → List ℕ → Outcome
call v k b = drawing (or_else (verdict v (length b)) (fault_of k)) v (clip_of k) (plots v k) b
