-- Which call each op is.
use mathlib.Core.Bool.{false}
use mathlib.Core.List.{List}
use mathlib.Core.Path.{◌≡◌, refl, sym, ap, ◌∙◌}
use Prim.Native.Nat.{ℕ, ◌<◌, ◌^◌}
use lib.IntN.{ℤ}
use lib.Signed.{mag}
use lib.ListN.{drop}
use mir.Syntax.{w32}
use mir.Val.{hbits, to_z, of_z}
use mir.ValLaws.{to_z-of_z}
use Rattle.words.specs.declared.Color.{Color}
use Rattle.pixels.specs.declared.Canvas.{Canvas}
use Rattle.canvas.specs.declared.Clip.{Clip}
use Rattle.canvas.specs.Call.{draw, put_pixel, draw_line, draw_rect, fill_rect, invert_rect, Outcome, call}
use Rattle.images.specs.Areas.{copy_area}
use Rattle.ovals.specs.Call.{draw_arc, fill_arc, draw_round_rect, fill_round_rect}
use Rattle.cases.specs.Row.{row_of, clip}
use Rattle.cases.specs.Ops as op
use Rattle.replies.specs.Numbers.{word_at, int_at, canvas_at, clip_start}
use Rattle.replies.specs.Calls.{picture_by, round_by, drawn_by}

-- CLIP stands where the table of ops has it.
abbrev Stands : ℕ → Type 0
Stands o = drop (clip_start o) (row_of o) ≡ clip

pub clips_stand : Stands op.put × Stands op.line × Stands op.rect × Stands op.fill × Stands op.arc × Stands op.pie × Stands op.rrect
    × Stands op.frrect × Stands op.copy × Stands op.invert × Stands op.draw
unfolding clip_start row_of
clips_stand = (refl, refl, refl, refl, refl, refl, refl, refl, refl, refl, refl)

module _ (n : List ℕ) (v : Canvas) (c : Color) (k : Clip) (image b : List ℕ) where
  pub put_is : drawn_by op.put n v c k image b ≡ call v (put_pixel (int_at n 0) (int_at n 1) c k) b
  unfolding drawn_by
  put_is = refl

  pub line-is : drawn_by op.line n v c k image b ≡ call v (draw_line (int_at n 0) (int_at n 1) (int_at n 2) (int_at n 3) c k) b
  unfolding drawn_by
  line-is = refl

  pub rect-is : drawn_by op.rect n v c k image b ≡ call v (draw_rect (int_at n 0) (int_at n 1) (word_at n 2) (word_at n 3) c k) b
  unfolding drawn_by
  rect-is = refl

  pub fill_is : drawn_by op.fill n v c k image b ≡ call v (fill_rect (int_at n 0) (int_at n 1) (word_at n 2) (word_at n 3) c k) b
  unfolding drawn_by
  fill_is = refl

  pub invert-is : drawn_by op.invert n v c k image b ≡ call v (invert_rect (int_at n 0) (int_at n 1) (word_at n 2) (word_at n 3) k) b
  unfolding drawn_by
  invert-is = refl

  pub arc-is : round_by op.arc n v c k image b ≡ call v (draw_arc (int_at n 0) (int_at n 1) (word_at n 2) (word_at n 3) (int_at n 4) (int_at n 5) c k) b
  unfolding round_by
  arc-is = refl

  pub pie-is : round_by op.pie n v c k image b ≡ call v (fill_arc (int_at n 0) (int_at n 1) (word_at n 2) (word_at n 3) (int_at n 4) (int_at n 5) c k) b
  unfolding round_by
  pie-is = refl

  pub rrect-is : round_by op.rrect n v c k image b ≡ call v (draw_round_rect (int_at n 0) (int_at n 1) (word_at n 2) (word_at n 3) (word_at n 4) (word_at n 5) c k) b
  unfolding round_by
  rrect-is = refl

  pub frrect-is : round_by op.frrect n v c k image b ≡ call v (fill_round_rect (int_at n 0) (int_at n 1) (word_at n 2) (word_at n 3) (word_at n 4) (word_at n 5) c k) b
  unfolding round_by
  frrect-is = refl

module _ (n : List ℕ) (v : Canvas) (k : Clip) (image b : List ℕ) where
  pub copy_is : picture_by op.copy n v k image b ≡ copy_area v (int_at n 0) (int_at n 1) (int_at n 2) (int_at n 3) (word_at n 4) (word_at n 5) k b
  unfolding picture_by
  copy_is = refl

  pub draw-is :
      picture_by op.draw n v k image b
      ≡ call v (draw (int_at n 0) (int_at n 1) (word_at n 2) (word_at n 3) (canvas_at n 4 8 false) image (int_at n 10) (int_at n 11) k) b
  unfolding picture_by
  draw-is = refl

-- The outcome of the call of a name is that of the op.
pub named : {A : Type 0} {r e : A} {o k : ℕ} (f : ℕ → A) → o ≡ k → f k ≡ e → r ≡ e → r ≡ f o
named f q p h = h ∙ sym p ∙ ap f (sym q)

-- A signed number reaches a callee as `to_z w (of_z w x)`.
pub reaches : {z : ℤ} (x : ℤ) → mag x < 2 ^ hbits w32 → x ≡ z → to_z w32 (of_z w32 x) ≡ z
reaches x f e = to_z-of_z w32 x (record { sfits = f }) ∙ e

-- A call of a place and of what else it takes, each of which is the line's.
pub made : {A B : Type 0} {o : Outcome} {x y z t : ℤ} {a a' : A} {b b' : B} (g : ℤ → ℤ → A → B → Outcome) → x ≡ z → y ≡ t → a ≡ a' → b ≡ b'
    → o ≡ g x y a b → o ≡ g z t a' b'
made g ex ey ea eb h = rw (ex, ey, ea, eb) at h

pub made₆ : {A B C D : Type 0} {o : Outcome} {x y z t : ℤ} {a a' : A} {b b' : B} {c c' : C} {d d' : D} (g : ℤ → ℤ → A → B → C → D → Outcome)
    → x ≡ z → y ≡ t → a ≡ a' → b ≡ b' → c ≡ c' → d ≡ d' → o ≡ g x y a b c d → o ≡ g z t a' b' c' d'
made₆ g ex ey ea eb ec ed h = rw (ex, ey, ea, eb, ec, ed) at h
