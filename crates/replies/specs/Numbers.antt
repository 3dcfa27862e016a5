-- What the words of a line stand for.
use Rattle.std.specs.Prelude.{Bool, cond, List, ℕ, ◌+◌, ◌%◌, eqb, ℤ, get_or}
use Rattle.std.specs.Int.{w32}
use Rattle.std.proofs.Common.{to_z}
use Rattle.words.specs.declared.Color.{Color}
use Rattle.pixels.specs.declared.Canvas.{Canvas}
use Rattle.canvas.specs.declared.Clip.{Clip}
use Rattle.cases.specs.Ops as op

abbrev pub word_at : List ℕ → ℕ → ℕ
word_at n i = get_or n i 0

-- A signed number is held as its 32 bits.
abbrev pub int_at : List ℕ → ℕ → ℤ
int_at n i = to_z w32 (word_at n i)

-- "COL: A R G B.", from the word i on; a channel is at most 255.
unfoldable pub color_at : List ℕ → ℕ → Color
color_at n i = record {
  a = word_at n i % 256;
  r = word_at n (i + 1) % 256;
  g = word_at n (i + 2) % 256;
  b = word_at n (i + 3) % 256;
}

-- "CLIP: x y w h."
unfoldable pub clip_at : List ℕ → ℕ → Clip
clip_at n i = record { x = int_at n i; y = int_at n (i + 1); width = word_at n (i + 2); height = word_at n (i + 3) }

-- "F: format number. W, H: sides.", from the word i on, and the row length and the rule, from the word j on; of an image SF SW SH, and
-- its row and rule.
unfoldable pub canvas_at : List ℕ → ℕ → ℕ → Bool → Canvas
canvas_at n i j x = record {
  format = word_at n i;
  width = word_at n (i + 1);
  height = word_at n (i + 2);
  row = word_at n j;
  xor = x;
  rule = word_at n (j + 1);
}

-- Behind an op's own numbers stand COL, where it has one, and CLIP: the word at which CLIP begins.
unfoldable pub clip_start : ℕ → ℕ
clip_start o =
    cond (eqb o op.invert) 4
    (cond (eqb o op.put) 6
    (cond (eqb o op.copy) 6
    (cond (eqb o op.line) 8 (cond (eqb o op.rect) 8 (cond (eqb o op.fill) 8 (cond (eqb o op.draw) 12 10))))))
