-- What get_pixel answers.
use Rattle.std.specs.Prelude.{ℕ, cond, List, length, ℤ, unsigned_abs, Option, Some, None, Result, Ok, Err}
use Rattle.words.specs.declared.Color.{Color}
use Rattle.words.specs.Word.{to_color}
use Rattle.pixels.specs.declared.Canvas.{Canvas}
use Rattle.canvas.specs.declared.Refusal.{Refusal}
use Rattle.pixels.specs.Bytes.{form, load_at}
use Rattle.canvas.specs.Faults.{number, Verdict, verdict}
use Rattle.canvas.specs.Plot.{on_canvas}

pub record Reading : Type 0 where
  pub status : ℕ
  pub color : Option Color

abbrev pub reading : ℕ → Option Color → Reading
reading s c = record { status = s; color = c }

-- 01's number and value of each answer.
unfoldable pub status_of : Result (Option Color) Refusal → ℕ
status_of (Ok p) = 0
status_of (Err r) = number r

unfoldable pub seen_of : Result (Option Color) Refusal → Option Color
seen_of (Ok p) = p
seen_of (Err r) = None

abbrev pub reads : Result (Option Color) Refusal → Reading
reads p = reading (status_of p) (seen_of p)

abbrev pub judged : Verdict → Option Color → Reading
judged (Ok u) c = reading 0 c
judged (Err r) c = reading (number r) None

-- "off the canvas it answers nothing"
unfoldable pub look : Canvas → List ℕ → ℤ → ℤ → Option Color
look v b x y = cond (on_canvas v x y) (Some (to_color (form v) (load_at v b (unsigned_abs x) (unsigned_abs y)))) None

-- "`get_pixel` is refused by 1 to 3", and so by 02's RULE and ROW
unfoldable pub pixel_at : Canvas → List ℕ → ℤ → ℤ → Reading
pixel_at v b x y = judged (verdict v (length b)) (look v b x y)
