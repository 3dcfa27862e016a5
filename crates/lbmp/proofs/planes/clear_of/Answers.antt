-- By the mask's switch.
use mathlib.Core.Path.{sym, ◌∙◌}
use Rattle.lbmp.proofs.planes.Sizes.{mask_plane, mask_none}
use Rattle.lbmp.proofs.planes.Bits.{none-clear}
use Rattle.lbmp.proofs.planes.clear_of.Goals as goal

pub clear_in-requires : goal.clear_in-requires
clear_in-requires c = (sym (mask_plane c.args.h c.if-h-eq1.true) ∙ c.requires.0, c.requires.1)

pub returns : goal.returns
returns c =
    let a = c.args in
    none-clear a.m.now a.h.width _ (sym c.requires.0 ∙ mask_none a.h c.if-h-eq1.false)
