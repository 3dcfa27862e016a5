-- The ones of a byte are its bits' sum, so the ones of a plane's bytes are the bits of its pixels.
use mathlib.Core.Path.{◌≡◌, refl, sym, ap, ap₂, ◌∙◌}
use mathlib.Core.Logic.{⊎_elim}
use mathlib.Core.List.{List, [], ◌∷◌}
use Prim.Native.Nat.{ℕ, zero, suc, ◌+◌, ◌-◌, ◌*◌, ◌/◌, ◌%◌, ◌^◌, ◌<◌, ◌≤◌}
use native.Mathlib.Omega.{arith}
use native.Mathlib.Nat.{zero-div, mul_comm, mod-lt, eq-zero-or-pos, add-mul, one-mul, mod-one}
use native.Mathlib.Numerals.{one-add}
use lib.Arith.{digits_div, digits_mod}
use lib.Bits.{bit_and, and_mask}
use lib.Count.{ones, ones_in, ones_cat}
use lib.ListN.{length, get_or, take, drop}
use lib.Pow.{pow_pos, mod-pow-add}
use Rattle.std.specs.Prelude.{sum_by}
use Rattle.lbmp.specs.Plane.{plane_size, plane_bit, plane_at, total}
use Rattle.lbmp.specs.Image.{clear_in}
use Rattle.lbmp.proofs.planes.Totals.{total_ext, total-none, total-add, total_swap, total-rows, sum_taken, sum_dropped, total-le}
use Rattle.lbmp.proofs.planes.Sizes.{full_le}

-- ---- where the bit of a pixel stands

pub bit_lt : (p : List ℕ) (w x y : ℕ) → plane_bit p w x y < 2
unfolding plane_bit
bit_lt p w x y = mod-lt _ (omega arith)

-- A plane of no bytes has no bit set.
pub no_bit : (w x y : ℕ) → plane_bit [] w x y ≡ 0
unfolding plane_bit
no_bit w x y = ap (λ (b : ℕ). b % 2) (zero-div _)

pub plane_at_lem : (p : List ℕ) (w y x : ℕ) → x < w → plane_at p w (y * w + x) ≡ plane_bit p w x y
plane_at_lem p w y x l = rw (digits_mod y l, digits_div y l) refl

-- The row s of the eight that a byte has.
pub plane_eight : (p : List ℕ) (w x y s : ℕ) → s < 8 → plane_bit p w x (y * 8 + s) ≡ get_or p (y * w + x) 0 / 2 ^ s % 2
unfolding plane_bit
plane_eight p w x y s l = rw (digits_mod y l, digits_div y l) refl

-- ---- the ones of a number

one_bit : (b : ℕ) → b < 2 → ones b ≡ b
unfolding ones ones_in
one_bit zero l = refl
one_bit (suc zero) l = refl
one_bit (suc (suc b)) l = absurd (omega arith)

pub ones_bits : (b k : ℕ) → ones (b % 2 ^ k) ≡ total (λ s. b / 2 ^ s % 2) k
unfolding total
ones_bits b zero = ap ones (mod-one b) ∙ one_bit 0 (omega arith)
ones_bits b (suc k) =
    ap (λ (n : ℕ). ones (b % 2 ^ n)) (sym (one-add k))
    ∙ ap ones (mod-pow-add b 1 k)
    ∙ ones_cat k (b / 2 ^ k % 2) (b % 2 ^ k) (mod-lt b (pow_pos k))
    ∙ ap₂ (λ (x y : ℕ). x + y) (one_bit (b / 2 ^ k % 2) (mod-lt _ (omega arith))) (ones_bits b k)
    ∙ omega arith

-- ---- a plane's bytes, and its rows

-- The bits of a row.
abbrev row_of : List ℕ → ℕ → ℕ → ℕ
row_of m w y = total (λ x. plane_bit m w x y) w

module _ (m : List ℕ) (w : ℕ) where
  rows : (h : ℕ) → clear_in m w (w * h) ≡ total (row_of m w) h
  unfolding clear_in
  rows h =
      ap (total (plane_at m w)) (mul_comm w h)
      ∙ total-rows (plane_at m w) h w
      ∙ total_ext _ (row_of m w) h (λ y _. total_ext _ _ w (λ x l. plane_at_lem m w y x l))

  -- The first k of eight rows, from a band's bytes.
  band : (y k : ℕ) → k ≤ 8 → total (λ x. ones (get_or m (y * w + x) 0 % 2 ^ k)) w ≡ total (λ s. row_of m w (y * 8 + s)) k
  band y k l =
      total_ext _ (λ x. total (λ s. plane_bit m w x (y * 8 + s)) k) w
      (λ x _. ones_bits (get_or m (y * w + x) 0) k ∙ total_ext _ _ k (λ s j. sym (plane_eight m w x y s (omega arith))))
      ∙ total_swap (λ x s. plane_bit m w x (y * 8 + s)) w k

  -- The bytes whose eight rows are all of the image.
  full : (n : ℕ) → n * w ≤ length m → sum_by (λ b. ones (bit_and b 255)) (take (n * w) m) ≡ total (row_of m w) (n * 8)
  full n l =
      sum_taken (λ b. ones (bit_and b 255)) (n * w) m l
      ∙ total_ext _ (λ i. ones (get_or m i 0 % 2 ^ 8)) (n * w) (λ i _. ap ones (and_mask (get_or m i 0) 8))
      ∙ total-rows (λ i. ones (get_or m i 0 % 2 ^ 8)) n w
      ∙ total_ext _ _ n (λ y _. band y 8 (omega arith))
      ∙ sym (total-rows (row_of m w) n 8)

  -- The bytes of the last rows, of each only the bits of these.
  last : (n r : ℕ) → r ≤ 8
      → total (λ i. ones (bit_and (get_or m (n * w + i) 0) (2 ^ r - 1))) w ≡ total (λ s. row_of m w (n * 8 + s)) r
  last n r l =
      total_ext _ (λ x. ones (get_or m (n * w + x) 0 % 2 ^ r)) w (λ x _. ap ones (and_mask (get_or m (n * w + x) 0) r)) ∙ band n r l

  over : (h : ℕ) → h / 8 * 8 + h % 8 ≡ h
  over h = omega arith

  -- Both parts of a plane's bytes, of the second only the bits of rows that the image has.
  pub counts : (h : ℕ) → plane_size w h ≡ length m
      → sum_by (λ b. ones (bit_and b 255)) (take (h / 8 * w) m) + sum_by (λ b. ones (bit_and b (2 ^ (h % 8) - 1))) (drop (h / 8 * w) m)
      ≡ clear_in m w (w * h)
  unfolding plane_size total
  counts h p = ap₂ (λ (x y : ℕ). x + y) (full (h / 8) (omega (arith, p, full_le w h))) rest ∙ sym all
    where
      all : clear_in m w (w * h) ≡ total (row_of m w) (h / 8 * 8) + total (λ s. row_of m w (h / 8 * 8 + s)) (h % 8)
      all = rows h ∙ ap (total (row_of m w)) (sym (over h)) ∙ total-add (row_of m w) (h / 8 * 8) (h % 8)

      kept : ℕ → ℕ
      kept b = ones (bit_and b (2 ^ (h % 8) - 1))

      lasts : ℕ → ℕ
      lasts n = total (λ i. kept (get_or m (h / 8 * w + i) 0)) n

      none : h % 8 ≡ 0 → lasts (length m - h / 8 * w) ≡ total (λ s. row_of m w (h / 8 * 8 + s)) (h % 8)
      none z =
          let q : (h + 7) / 8 ≡ h / 8 = omega arith in
          let s : length m - h / 8 * w ≡ 0 = omega (arith, p, ap (λ (j : ℕ). j * w) q) in
          ap lasts s ∙ sym (ap (total (λ s. row_of m w (h / 8 * 8 + s))) z)

      some : 0 < h % 8 → lasts (length m - h / 8 * w) ≡ total (λ s. row_of m w (h / 8 * 8 + s)) (h % 8)
      some z =
          let q : (h + 7) / 8 ≡ h / 8 + 1 = omega arith in
          let s : length m - h / 8 * w ≡ w = omega (arith, p, ap (λ (j : ℕ). j * w) q, add-mul (h / 8) 1 w, one-mul w) in
          ap lasts s ∙ last (h / 8) (h % 8) (omega arith)

      rest : sum_by kept (drop (h / 8 * w) m) ≡ total (λ s. row_of m w (h / 8 * 8 + s)) (h % 8)
      rest = sum_dropped kept (h / 8 * w) m ∙ ⊎_elim none some (eq-zero-or-pos (h % 8))

-- No more pixels are clear than there are.
pub clear_le : (m : List ℕ) (w n : ℕ) → clear_in m w n ≤ n
unfolding clear_in
clear_le m w n = total-le (plane_at m w) n (λ i. omega (arith, bit_lt m w (i % w) (i / w)))

-- A mask of no bytes has no pixel clear.
pub none-clear : (m : List ℕ) (w n : ℕ) → length m ≡ 0 → 0 ≡ clear_in m w n
unfolding clear_in
none-clear [] w n e = sym (total-none (plane_at [] w) n (λ i _. no_bit w (i % w) (i / w)))
none-clear (b ∷ m) w n e = absurd (omega arith)
