-- A row below the width has a tail that wraps around, and is then above 32,767.
use Rattle.std.proofs.Common.{◌∙◌, arith}
use Rattle.canvas.proofs.faults.Limits.{wraps_off}
use Rattle.canvas.proofs.faults.is_off.Goals as goal

pub returns : goal.returns
returns c =
    c.is_large.ensures
    ∙ wraps_off c.args.row c.args.width _ (omega arith) c.ranges.row.fits (omega (arith, c.ranges.row.fits, c.requires)) c.requires
