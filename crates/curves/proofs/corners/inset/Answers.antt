-- `inset` meets its contract: a number that is not negative is its own size. Assumes nothing.
use Rattle.std.proofs.Common.{◌≡◌, zero, suc, T, ℤ, pos, negsuc, nat_abs, ap, ◌∙◌, arith, zero-lt-suc, lt-ltb, w32, Fits, SFits, to_z, of_z}
use Rattle.std.specs.Int.{int_max}
use lib.Signed.{non_neg}
use lib.Ieee.{Float}
use mir.ValLaws.{to_z-of_z}
use Rattle.floats.specs.Whole.{round_as, at_least0}
use Rattle.curves.specs.Corners.{inset_of}
use Rattle.curves.proofs.corners.inset.Goals as goal

held : (z m : ℤ) → SFits w32 m → m ≡ int_max z (pos 0) → (T (non_neg m) × Fits w32 (nat_abs m)) × (nat_abs m ≡ at_least0 z)
held z (negsuc n) s e = absurd (none z e)
  where
    none : (z : ℤ) → negsuc n ≡ int_max z (pos 0) → ⊥
    none (negsuc m) e = cc
    none (pos zero) e = cc
    none (pos (suc m)) e = let f = rw (lt-ltb 0 (suc m) (zero-lt-suc m)) at e in cc
held z (pos n) s e = ((tt, record { fits = omega (arith, s.sfits) }), size z e)
  where
    size : (z : ℤ) → pos n ≡ int_max z (pos 0) → n ≡ at_least0 z
    size (negsuc m) e = cc
    size (pos zero) e = cc
    size (pos (suc m)) e = let f = rw (lt-ltb 0 (suc m) (zero-lt-suc m)) at e in cc

module _ (x : Float) (r m : ℤ) (s : SFits w32 r) (t : SFits w32 m) (e : r ≡ round_as 31 x) (f : m ≡ int_max (to_z w32 (of_z w32 r)) (pos 0)) where
  is : (T (non_neg m) × Fits w32 (nat_abs m)) × (nat_abs m ≡ at_least0 (round_as 31 x))
  is = held (round_as 31 x) m t (f ∙ ap (λ (z : ℤ). int_max z (pos 0)) (to_z-of_z w32 r s ∙ e))

  fits : T (non_neg (to_z w32 (of_z w32 m))) × Fits w32 (nat_abs (to_z w32 (of_z w32 m)))
  fits = rw (to_z-of_z w32 m t) is.0

  size : nat_abs (to_z w32 (of_z w32 m)) ≡ inset_of x
  unfolding inset_of
  size = rw (to_z-of_z w32 m t) is.1

pub overflow_cast-result : goal.overflow_cast-result
overflow_cast-result c =
    let r = c.round_i32 in
    let m = c.max in
    fits c.args.radius r.result m.result (record { sfits = r.type_inv }) (record { sfits = m.type_inv }) r.ensures m.ensures.value

pub returns : goal.returns
returns c =
    let r = c.round_i32 in
    let m = c.max in
    size c.args.radius r.result m.result (record { sfits = r.type_inv }) (record { sfits = m.type_inv }) r.ensures m.ensures.value
