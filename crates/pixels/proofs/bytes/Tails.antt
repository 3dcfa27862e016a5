-- Rows and their tails: a byte is in a tail or a pixel's; and a canvas whose row is its width.
use mathlib.Core.Path.{◌≡◌, refl, ap, ◌∙◌, subst}
use mathlib.Core.Logic.{◌≢◌}
use mathlib.Core.List.{Mem, mem-cons_self, mem-cons_of_mem}
use Prim.Native.Nat.{ℕ, zero, suc, ◌+◌, ◌*◌, ◌/◌, ◌%◌, ◌<◌}
use native.Mathlib.Omega.{arith}
use native.Mathlib.Nat.{add-zero, add-suc, suc-add, le_refl, mul-zero, zero-lt-suc, zero-mul, mod-lt, div-add-mod', div-lt_iff_lt-mul}
use lib.Arith.{digits_div, digits_mod}
use Rattle.pixels.specs.declared.Canvas.{Canvas}
use Rattle.pixels.specs.Bytes.{byte, cells, size, pitch, pixel, extent, column, Tail, On}
use Rattle.pixels.proofs.bytes.Pixels.{cells_out, in_row, pitch-is, Free}

-- a byte of a tail is no pixel's
pub tail_free : (v : Canvas) (o : ℕ) → Tail v o → Free v (byte o)
unfolding pixel column
tail_free v o t = record { free = λ x y p. cells_out (size v) ((y * pitch v + x) * size v) o (other x y p) }
  where
    other : (x y : ℕ) → On v x y → (i : ℕ) → i < size v → o ≢ (y * pitch v + x) * size v + i
    other x y p i l e =
        let d : o / size v ≡ y * pitch v + x = ap (λ (n : ℕ). n / size v) e ∙ digits_div (y * pitch v + x) l in
        let m : o / size v % pitch v ≡ x = ap (λ (n : ℕ). n % pitch v) d ∙ digits_mod y (in_row p) in
        omega (arith, t, m, p.across)

-- any other byte of a canvas is a pixel's, in the byte's column
pub record Owned (v : Canvas) (o : ℕ) : Type 0 where
  pub line : ℕ
  pub on : On v (column v o) line
  pub owned : Mem (byte o) (pixel v (column v o) line)

cells_mem : (s o j : ℕ) → j < s → Mem (byte (o + j)) (cells s o)
unfolding cells
cells_mem zero o j l = absurd (omega arith)
cells_mem (suc s) o zero l = rw (add-zero o) mem-cons_self
cells_mem (suc s) o (suc j) l = mem-cons_of_mem (byte o) (rw (add-suc o j, ← suc-add o j) (cells_mem s (suc o) j (omega arith)))

digit_places : (h p s : ℕ) (o : ℕ) → o < h * p * s → (o / s / p < h) × ((o / s / p * p + o / s % p) * s + o % s ≡ o) × (o % s < s)
digit_places h p zero o l = absurd (let z : o < 0 = rw (mul-zero (h * p)) at l in omega arith)
digit_places h zero (suc s) o l = absurd (let z : o < 0 = rw (mul-zero h, zero-mul (suc s)) at l in omega arith)
digit_places h (suc p) (suc s) o l = (
  (div-lt_iff_lt-mul (zero-lt-suc p)).1 ((div-lt_iff_lt-mul (zero-lt-suc s)).1 l),
  ap (λ (n : ℕ). n * suc s + o % suc s) (div-add-mod' (o / suc s) (suc p)) ∙ div-add-mod' o (suc s),
  mod-lt o (zero-lt-suc s),
)

pub not_tail : (v : Canvas) (o : ℕ) → o < extent v → column v o < v.width → Owned v o
unfolding extent pixel column
not_tail v o l k =
    let d = digit_places v.height (pitch v) (size v) o l in
    let p : ℕ = (o / size v / pitch v * pitch v + o / size v % pitch v) * size v in
    record {
      line = o / size v / pitch v;
      on = record { across = k; down = d.0 };
      owned = subst (λ (n : ℕ). Mem (byte n) (cells (size v) p)) d.1 (cells_mem (size v) p (o % size v) d.2);
    }

-- a canvas whose row is its width: where its pixels are, and how many bytes it has
module _ (v : Canvas) (e : v.row ≡ v.width) where
  even : pitch v ≡ v.width
  even = pitch-is v (rw e (le_refl v.width)) ∙ e

  pub even_pixel : (x y : ℕ) → pixel v x y ≡ cells (size v) ((y * v.width + x) * size v)
  unfolding pixel
  even_pixel x y = rw even refl

  pub even_extent : extent v ≡ v.height * v.width * size v
  unfolding extent
  even_extent = rw even refl
