-- A rounded size takes the float's sign: 0 - n fits at 64 bits and then at 32. Assumes nothing.
use Rattle.std.proofs.Common.{◌≡◌, ℕ, zero, suc, ◌+◌, ◌*◌, ◌/◌, ◌≤◌, min, true, false, not, T, ℤ, pos, ◌-ℤ◌, neg_ℤ, sym, refl, ap, ◌∙◌, subst, lt_of_lt_of_le, lt_of_le_of_lt, arith, lit<, lit≤, ltb→lt, nltb→le, w32, w64, SFits, to_z, of_z}
use lib.IntN.{+ℤ_idl}
use lib.Ieee.{Float, nan, inf, fin, up, down, lt}
use lib.Ieee.Fits.{down_pos}
use mir.ValLaws.{to_z_pos, to_z-of_z}
use Rattle.floats.specs.Whole.{round_size, round_as}
use Rattle.floats.proofs.Range.{none, no_less}
use Rattle.floats.proofs.whole.Halves.{nothing}

-- 0 - n, at 64 bits and then at 32, for n up to 2 ^ 31
module _ (n : ℕ) (h : n ≤ 0x8000_0000) where
  is : pos 0 -ℤ to_z w64 n ≡ neg_ℤ (pos n)
  is = ap (λ (z : ℤ). pos 0 -ℤ z) (to_z_pos w64 n (lt_of_le_of_lt h (lit< tt))) ∙ +ℤ_idl (neg_ℤ (pos n))

  pub in32 : SFits w32 (neg_ℤ (pos n))
  in32 = go n h
    where
      go : (k : ℕ) → k ≤ 0x8000_0000 → SFits w32 (neg_ℤ (pos k))
      go zero g = record { sfits = lit< tt }
      go (suc k) g = record { sfits = g }

  in64 : SFits w64 (neg_ℤ (pos n))
  in64 = record { sfits = lt_of_lt_of_le in32.sfits (lit≤ tt) }

  pub minus_fits : SFits w64 (pos 0 -ℤ to_z w64 n)
  minus_fits = subst (λ (z : ℤ). SFits w64 z) (sym is) in64

  back : to_z w64 (of_z w64 (pos 0 -ℤ to_z w64 n)) ≡ neg_ℤ (pos n)
  back = to_z-of_z w64 (pos 0 -ℤ to_z w64 n) minus_fits ∙ is

  pub minus_narrow : SFits w32 (to_z w64 (of_z w64 (pos 0 -ℤ to_z w64 n)))
  minus_narrow = subst (λ (z : ℤ). SFits w32 z) (sym back) in32

  pub minus_is : to_z w32 (of_z w32 (to_z w64 (of_z w64 (pos 0 -ℤ to_z w64 n)))) ≡ neg_ℤ (pos n)
  minus_is = to_z-of_z w32 (to_z w64 (of_z w64 (pos 0 -ℤ to_z w64 n))) minus_narrow ∙ back

-- ---- the sign goes by the test
pub negative : (x : Float) → T (lt x (fin false 0 (pos 0))) → neg_ℤ (pos (round_size 0x8000_0000 x)) ≡ round_as 31 x
unfolding lt round_size round_as
negative nan h = absurd h
negative (inf true) h = refl
negative (inf false) h = absurd h
negative (fin true m e) h = refl
negative (fin false m e) h = absurd (none (m * up e * 1) (down e) (ltb→lt (m * up e * 1) (0 * 1 * down e) h))

pub other : (x : Float) → T (not (lt x (fin false 0 (pos 0)))) → pos (min (round_size 0x8000_0000 x) 0x7fff_ffff) ≡ round_as 31 x
unfolding lt round_size round_as
other nan h = refl
other (inf true) h = absurd h
other (inf false) h = refl
other (fin true m e) h =
    let z : m * up e ≡ 0 = no_less (m * up e) (down e) (nltb→le 0 (m * up e * 1 + 0 * 1 * down e) h) in
    let n = nothing (m * up e) (down e) 0x8000_0000 (down_pos e) z in
    ap (λ (k : ℕ). pos (min k 0x7fff_ffff)) (sym n) ∙ ap (λ (k : ℕ). neg_ℤ (pos k)) n
other (fin false m e) h = ap pos (go ((2 * (m * up e) + down e) / (2 * down e)))
  where
    go : (q : ℕ) → min (min q 0x8000_0000) 0x7fff_ffff ≡ min q 0x7fff_ffff
    go q = omega arith
