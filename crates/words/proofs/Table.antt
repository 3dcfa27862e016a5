-- A table that a rule made has what the rule gives at each place; so reading through the tables is reading by the rule.
use mathlib.Core.Path.{◌≡◌, refl, ap, ◌∙◌}
use mathlib.Core.List.{List}
use Prim.Native.Nat.{ℕ, zero, suc, ◌+◌, ◌/◌, ◌%◌, ◌<◌}
use native.Mathlib.Omega.{arith}
use native.Mathlib.Nat.{zero-add}
use lib.ListN.{get_or}
use Rattle.words.specs.Format.{rgb332, rgb565, argb}
use Rattle.words.specs.Word.{to_color, level5, level6}
use Rattle.words.specs.Table.{run, fives, sixes, argb332, back332, through332, through565}
use Rattle.words.specs.Ink.{keeps_alpha}
use Rattle.words.proofs.Reading.{read_channels, store-read}

from : (f : ℕ → ℕ) (n i k : ℕ) → k < n → get_or (run f i n) k 0 ≡ f (i + k)
unfolding run
from f zero i k l = absurd (omega arith)
from f (suc n) i zero l = ap f (omega arith)
from f (suc n) i (suc k) l = from f n (suc i) k (omega arith) ∙ ap f (omega arith)

pub run_at : (f : ℕ → ℕ) (n k : ℕ) → k < n → get_or (run f 0 n) k 0 ≡ f k
run_at f n k l = from f n 0 k l ∙ ap f (zero-add k)

low_byte : (w : ℕ) → to_color rgb332 (w % 256) ≡ to_color rgb332 w
unfolding to_color
low_byte w =
    let r : w % 256 / 32 % 8 ≡ w / 32 % 8 = omega arith in
    let g : w % 256 / 4 % 8 ≡ w / 4 % 8 = omega arith in
    let b : w % 256 % 4 ≡ w % 4 = omega arith in
    rw (r, g, b)

back_332 : (w : ℕ) → to_color argb (argb332 w) ≡ to_color rgb332 w
unfolding argb332 keeps_alpha
back_332 w = store-read argb (to_color rgb332 w) (read_channels rgb332 w) refl

pub read_332 : {t : List ℕ} (w : ℕ) → t ≡ back332 → through332 t w ≡ to_color rgb332 w
unfolding through332 back332
read_332 w e =
    ap (λ (l : List ℕ). to_color argb (get_or l (w % 256) 0)) e
    ∙ ap (to_color argb) (run_at argb332 256 (w % 256) (omega arith))
    ∙ back_332 (w % 256)
    ∙ low_byte w

pub read_565 : {s t : List ℕ} (w : ℕ) → s ≡ fives → t ≡ sixes → through565 s t w ≡ to_color rgb565 w
unfolding through565 fives sixes to_color
read_565 w d e =
    rw (
      d,
      e,
      run_at level5 32 (w / 2048 % 32) (omega arith),
      run_at level6 64 (w / 32 % 64) (omega arith),
      run_at level5 32 (w % 32) (omega arith),
    )
