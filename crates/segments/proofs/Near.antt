-- The tests of a column or row, which arrives as `to_z w (of_z w x)`.
use mathlib.Core.Path.{◌≡◌, refl, sym, subst}
use mathlib.Core.Bool.{Bool, true, false}
use Prim.Native.Nat.{ℕ, ◌<◌}
use native.Mathlib.Omega.{arith}
use borrow.Author.Tests.{ltb-true, lt-leb, ltb-false, le-leb}
use lib.Dec.{T, leb}
use lib.IntN.{ℤ, pos, negsuc, nat_abs}
use lib.Signed.{lt_z}
use mir.Syntax.{w32}
use mir.Val.{SFits, to_z, of_z}
use mir.ValLaws.{to_z-of_z}
use Rattle.segments.specs.Cut.{near, inside, kept}

no : false ≡ true → ⊥
no e = subst T (sym e) tt

below_margin : (n : ℕ) (x : ℤ) → lt_z x (negsuc 0) ≡ true → false ≡ near n x
unfolding near
below_margin n (pos k) h = absurd (no h)
below_margin n (negsuc k) h = rw (lt-leb k 0 (ltb-true 0 k h)) refl

on_margin : (n : ℕ) (x : ℤ) → lt_z x (negsuc 0) ≡ false → lt_z x (pos 0) ≡ true → true ≡ near n x
unfolding near
on_margin n (pos k) h l = let z = ltb-true k 0 l in absurd (omega arith)
on_margin n (negsuc k) h l = rw (le-leb k 0 (ltb-false 0 k h)) refl

on_side : (n : ℕ) (x : ℤ) → lt_z x (pos 0) ≡ false → leb (nat_abs x) n ≡ near n x
unfolding near
on_side n (pos k) l = refl
on_side n (negsuc k) l = absurd (no (sym l))

not_below : (x : ℤ) → lt_z x (pos 0) ≡ false → x ≡ pos (nat_abs x)
not_below (pos k) l = refl
not_below (negsuc k) l = absurd (no (sym l))

module _ (n : ℕ) (x : ℤ) (s : SFits w32 x) where
  pub is_below : lt_z (to_z w32 (of_z w32 x)) (negsuc 0) ≡ true → false ≡ near n x
  is_below h = below_margin n x (rw (to_z-of_z w32 x s) at h)

  pub is_margin : lt_z (to_z w32 (of_z w32 x)) (negsuc 0) ≡ false → lt_z (to_z w32 (of_z w32 x)) (pos 0) ≡ true → true ≡ near n x
  is_margin h l = on_margin n x (rw (to_z-of_z w32 x s) at h) (rw (to_z-of_z w32 x s) at l)

  pub is_on : lt_z (to_z w32 (of_z w32 x)) (pos 0) ≡ false → leb (nat_abs (to_z w32 (of_z w32 x))) n ≡ near n x
  is_on l = rw (to_z-of_z w32 x s) (on_side n x (rw (to_z-of_z w32 x s) at l))

  pub size : nat_abs (pos (nat_abs x)) < 4294967296
  size = go x s
    where
      go : (z : ℤ) → SFits w32 z → nat_abs (pos (nat_abs z)) < 4294967296
      go (pos k) f = omega arith
      go (negsuc k) f = omega arith

  pub positive : lt_z (to_z w32 (of_z w32 x)) (pos 0) ≡ false → to_z w32 (of_z w32 x) ≡ pos (nat_abs x)
  positive l = rw (to_z-of_z w32 x s) (not_below x (rw (to_z-of_z w32 x s) at l))

  pub is-near : (r : Bool) → r ≡ near n (to_z w32 (of_z w32 x)) → r ≡ near n x
  is-near r e = rw (to_z-of_z w32 x s) at e

pub insides : (width height : ℕ) (x y : ℤ) (t r : Bool) → t ≡ near width x → t ≡ true → r ≡ near height y → r ≡ inside width height x y
unfolding inside
insides width height x y t r ex e ey = rw (← ex, e) ey

pub outside : (width height : ℕ) (x y : ℤ) (t : Bool) → t ≡ near width x → t ≡ false → false ≡ inside width height x y
unfolding inside
outside width height x y t ex e = rw (← ex, e) refl

-- both ends
module _ (width height : ℕ) (x y : ℤ) (fx : SFits w32 x) (fy : SFits w32 y) where
  pub is-inside : (r : Bool) → r ≡ inside width height (to_z w32 (of_z w32 x)) (to_z w32 (of_z w32 y)) → r ≡ inside width height x y
  is-inside r e = rw (to_z-of_z w32 x fx, to_z-of_z w32 y fy) at e

pub both_inside : (x1 y1 x2 y2 : ℤ) (width height : ℕ) (t r : Bool) → t ≡ inside width height x1 y1 → t ≡ true → r ≡ inside width height x2 y2 → r ≡ kept x1 y1 x2 y2 width height
unfolding kept
both_inside x1 y1 x2 y2 width height t r e h k = rw (← e, h) k

pub first-outside : (x1 y1 x2 y2 : ℤ) (width height : ℕ) (t : Bool) → t ≡ inside width height x1 y1 → t ≡ false → false ≡ kept x1 y1 x2 y2 width height
unfolding kept
first-outside x1 y1 x2 y2 width height t e h = rw (← e, h) refl
