-- `cut` meets its contract: the low bits of the sum are the cut or one more, and the test tells which.
use mathlib.Core.Path.{◌≡◌, ◌∙◌}
use mathlib.Core.Bool.{true, false, not}
use Prim.Native.Nat.{◌+◌}
use native.Mathlib.Omega.{arith}
use lib.Dec.{T}
use lib.Ieee.{Float, binary32, lt, of_bits, add, is_nan}
use Rattle.floats.specs.Whole.{as_u8}
use Rattle.blending.specs.Blend.{channel}
use Rattle.blending.specs.Inner.{raised, lowered}
use Rattle.blending.proofs.Held.{Keeps, held_keeps, big, shown, shows, one_more, the_same}
use Rattle.blending.proofs.cut.cut.Goals as goal

module _ (x : Float) {y z : Float} (e : y ≡ raised x) (f : z ≡ lowered y) where
  keeps : Keeps x z
  keeps = rw (f, e) (held_keeps x)

  is_number : T (not (is_nan (add binary32 z big)))
  is_number = (shows z keeps.0).number

  above : lt z (channel (shown z)) ≡ true → shown z ≡ as_u8 x + 1
  above t =
      let s = shows z keeps.0 in
      one_more z (shown z) keeps.0 s.low s.high t ∙ omega (arith, keeps.1)

  not_above : lt z (channel (shown z)) ≡ false → shown z ≡ as_u8 x
  not_above t =
      let s = shows z keeps.0 in
      the_same z (shown z) keeps.0 s.low s.high t ∙ keeps.1

pub float_to_bits-n : goal.float_to_bits-n
unfolding of_bits
float_to_bits-n c = is_number c.args.x c.at_least_0.ensures c.at_most_255-held.ensures

pub overflow_sub-result : goal.overflow_sub-result
unfolding of_bits
overflow_sub-result c =
    let h = above c.args.x c.at_least_0.ensures c.at_most_255-held.ensures c.if-n-held.true in
    omega arith

pub returns-then-n-held : goal.returns-then-n-held
unfolding of_bits
returns-then-n-held c =
    let h = above c.args.x c.at_least_0.ensures c.at_most_255-held.ensures c.if-n-held.true in
    omega arith

pub returns : goal.returns
unfolding of_bits
returns c =
    not_above c.args.x c.at_least_0.ensures c.at_most_255-held.ensures c.if-n-held.false
