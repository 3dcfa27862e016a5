-- Whole numbers up to 2 ^ 24: as an i32 each is itself, and each is an f32.
use Rattle.std.proofs.Common.{◌≡◌, ℕ, ◌≤◌, T, ℤ, pos, sym, subst, arith, le→leb, w32, to_z}
use lib.Ieee.{binary32, in_float}
use mir.ValLaws.{to_z_pos}

pub plain : (n : ℕ) → n ≤ 0x100_0000 → to_z w32 n ≡ pos n
plain n h = to_z_pos w32 n (omega arith)

pub exact : (n : ℕ) → n ≤ 0x100_0000 → T (in_float binary32 (to_z w32 n))
unfolding in_float
exact n h = subst (λ (z : ℤ). T (in_float binary32 z)) (sym (plain n h)) (le→leb n 0x100_0000 h)
