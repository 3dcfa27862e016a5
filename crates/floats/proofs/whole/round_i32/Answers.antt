-- `round_i32` meets its contract: what was lifted is lowered. Assumes nothing.
use Rattle.std.proofs.Common.{◌≡◌, ℕ, ℤ, pos, ◌-ℤ◌, sym, ap, ◌∙◌, subst, lt_of_lt_of_le, lit≤, w32, w64, SFits, to_z, of_z}
use mir.ValLaws.{to_z-of_z}
use Rattle.floats.specs.Whole.{round_as, lifted}
use Rattle.floats.proofs.Rounds.{round_fits}
use Rattle.floats.proofs.whole.Lifted.{lowered_is}
use Rattle.floats.proofs.whole.round_i32.Goals as goal

-- n is z lifted
module _ (z : ℤ) (f : SFits w32 z) (n : ℕ) (e : n ≡ lifted z) where
  less : to_z w64 n -ℤ pos 0x8000_0000 ≡ z
  less = ap (λ (k : ℕ). to_z w64 k -ℤ pos 0x8000_0000) e ∙ lowered_is z f

  wide : SFits w64 z
  wide = record { sfits = lt_of_lt_of_le f.sfits (lit≤ tt) }

  less_fits : SFits w64 (to_z w64 n -ℤ pos 0x8000_0000)
  less_fits = subst (SFits w64) (sym less) wide

  back : to_z w64 (of_z w64 (to_z w64 n -ℤ pos 0x8000_0000)) ≡ z
  back = to_z-of_z w64 (to_z w64 n -ℤ pos 0x8000_0000) less_fits ∙ less

  narrow : SFits w32 (to_z w64 (of_z w64 (to_z w64 n -ℤ pos 0x8000_0000)))
  narrow = subst (SFits w32) (sym back) f

pub overflow_sub-result : goal.overflow_sub-result
overflow_sub-result c = let r = c.round_lifted in let x = c.args.x in less_fits (round_as 31 x) (round_fits x) r.result r.ensures

pub overflow_cast-result-2 : goal.overflow_cast-result-2
overflow_cast-result-2 c = let r = c.round_lifted in let x = c.args.x in narrow (round_as 31 x) (round_fits x) r.result r.ensures

pub returns : goal.returns
returns c =
    let r = c.round_lifted in
    let x = c.args.x in
    to_z-of_z w32 _ (narrow (round_as 31 x) (round_fits x) r.result r.ensures) ∙ back (round_as 31 x) (round_fits x) r.result r.ensures
