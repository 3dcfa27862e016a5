-- First the bytes of eight rows each, and then those of the last rows.
use mathlib.Core.Path.{◌≡◌}
use mathlib.Core.List.{List}
use Prim.Native.Nat.{ℕ, ◌+◌, ◌-◌, ◌*◌, ◌/◌, ◌%◌, ◌^◌}
use native.Mathlib.Omega.{arith}
use lib.Bits.{bit_and}
use lib.Count.{ones}
use lib.ListN.{length, take, drop}
use Rattle.std.specs.Prelude.{sum_by}
use Rattle.lbmp.specs.Plane.{plane_size}
use Rattle.lbmp.specs.Image.{clear_in}
use Rattle.lbmp.proofs.planes.Sizes.{full_le, plane_le}
use Rattle.lbmp.proofs.planes.Bits.{counts, clear_le}
use Rattle.lbmp.proofs.planes.clear_in.Goals as goal

both : (m x y : List ℕ) (w h a b k : ℕ) → plane_size w h ≡ length m → x ≡ take (h / 8 * w) m → y ≡ drop (h / 8 * w) m → k ≡ 2 ^ (h % 8) - 1
    → a ≡ sum_by (λ i. ones (bit_and i 255)) x → b ≡ sum_by (λ i. ones (bit_and i k)) y → a + b ≡ clear_in m w (w * h)
both m x y w h a b k p ex ey ek ea eb = rw (ea, eb, ex, ey, ek) (counts m w h p)

pub overflow_mul-full : goal.overflow_mul-full
overflow_mul-full c = record { fits = omega (arith, full_le c.args.width c.args.height) }

pub split_at-requires : goal.split_at-requires
split_at-requires c = omega (arith, full_le c.args.width c.args.height)

pub count_ones-requires : goal.count_ones-requires
count_ones-requires c = omega (arith, c.split_at.ensures.front_len, plane_le c.args.width c.args.height)

pub count_ones-requires-2 : goal.count_ones-requires-2
count_ones-requires-2 c = omega (arith, c.split_at.ensures.back_len, plane_le c.args.width c.args.height)

pub overflow_add-result : goal.overflow_add-result
overflow_add-result c =
    let a = c.args in
    let s = c.split_at in
    let e = both a.m.now s.result.0.now s.result.1.now a.width a.height _ _ _ c.requires.0 s.ensures.front s.ensures.back c.kept_bits.ensures c.count_ones.ensures c.count_ones-2.ensures in
    record { fits = omega (arith, e, clear_le a.m.now a.width (a.width * a.height)) }

pub returns : goal.returns
returns c =
    let s = c.split_at in
    both _ s.result.0.now s.result.1.now _ _ _ _ _ c.requires.0 s.ensures.front s.ensures.back c.kept_bits.ensures c.count_ones.ensures c.count_ones-2.ensures
