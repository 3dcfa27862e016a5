-- What is put behind the part of a buffer that is used stays within it.
use mathlib.Core.List.{List}
use mathlib.Core.Path.{◌≡◌}
use Prim.Native.Nat.{ℕ, ◌+◌, ◌-◌, ◌≤◌}
use native.Mathlib.Omega.{arith}
use lib.ListN.{length}
use borrow.Rule.Slice.PartMut.{mid_of, put_mid, mid_len, same_len_mid}

pub as_long : (out part : List ℕ) (used : ℕ) → length part ≡ length (mid_of used (length out - used) out)
    → length (put_mid used (length out - used) out part) ≡ length out
as_long out part used = same_len_mid used (length out - used) out part

pub within : (out : List ℕ) (used n : ℕ) → used ≤ length out → n ≤ length (mid_of used (length out - used) out) → used + n ≤ length out
within out used n h k = omega (arith, mid_len used (length out) out (omega arith))
