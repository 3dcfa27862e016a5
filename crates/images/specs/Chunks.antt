-- What the contracts of the inner functions of images and copies speak of; no public contract cites this file.
use Rattle.std.specs.Prelude.{◌≡◌, List, ℕ, ◌+◌, ◌-◌, ◌<◌, length, get_or}
use Rattle.words.specs.Format.{Format, argb}
use Rattle.words.specs.Word.{to_color, seen}
use Rattle.blending.specs.Blend.{blend_word}
use Rattle.pixels.specs.declared.Canvas.{Canvas}
use Rattle.pixels.specs.Bytes.{form, load_at}
use Rattle.canvas.specs.Call.{carried}

-- What reading sees of each word.
pub record SeenAs (f : Format) (ws ws' : List ℕ) : Type 0 where
  pub long : length ws' ≡ length ws
  pub word : (i : ℕ) → i < length ws → get_or ws' i 0 ≡ seen f (get_or ws i 0)

-- What is seen, in these bytes, of the pixel as far from sx and sy as a pixel is from x and y.
abbrev pub shifted : Canvas → List ℕ → ℕ → ℕ → ℕ → ℕ → ℕ → ℕ → ℕ → ℕ
shifted v b x y sx sy i j w = seen (form v) (load_at v b (sx + (i - x)) (sy + (j - y)))

-- What drawing makes of the word at a pixel, with the source's pixel as far from sx and sy as the pixel is from x and y.
abbrev pub overlaid : Canvas → Canvas → List ℕ → ℕ → ℕ → ℕ → ℕ → ℕ → ℕ → ℕ → ℕ
overlaid v s image x y sx sy i j w = blend_word (form v) (carried v) v.xor (to_color (form s) (load_at s image (sx + (i - x)) (sy + (j - y)))) w

-- Colours read from an image whose format keeps no alpha are solid.
pub record Solid (format : ℕ) (cs : List ℕ) : Type 0 where
  pub solid : format < 3 → (i : ℕ) → i < length cs → (to_color argb (get_or cs i 0)).a ≡ 255
