-- A signed argument is read back from its bits as it was. Assumes nothing.
use Rattle.std.proofs.Common.{◌≡◌, ℤ, ap, ◌∙◌, w32, SFits, to_z, of_z}
use lib.Ieee.{Float, binary32, of_int}
use mir.ValLaws.{to_z-of_z}

pub as_given : (x : ℤ) (f : Float) → SFits w32 x → f ≡ of_int binary32 (to_z w32 (of_z w32 x)) → f ≡ of_int binary32 x
as_given x f h e = e ∙ ap (of_int binary32) (to_z-of_z w32 x h)
