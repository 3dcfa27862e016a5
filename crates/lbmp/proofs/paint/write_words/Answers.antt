-- The colours, and where there is a mask, the mask over them.
use mathlib.Core.Path.{sym, ap, ◌∙◌}
use native.Mathlib.Omega.{arith}
use lib.ListN.{length}
use Rattle.lbmp.specs.File.{pixel_size, mask_size}
use Rattle.lbmp.proofs.paint.Walks.{swept-length}
use Rattle.lbmp.proofs.faults.Verdicts.{same_whole}
use Rattle.lbmp.proofs.header.Parts.{pixels-length, mask_length}
use Rattle.lbmp.proofs.planes.Sizes.{mask_plane}
use Rattle.lbmp.proofs.paint.Images.{written_plain, written_masked, same-pixels}
use Rattle.lbmp.proofs.paint.write_words.Goals as goal

pub read_header-h-requires : goal.read_header-h-requires
read_header-h-requires c = omega (arith, c.requires.0.long)

pub pixel_bytes-requires : goal.pixel_bytes-requires
pixel_bytes-requires c = (c.read_header-h.ensures, same_whole c.read_header-h.ensures c.requires.0)

pub paint_colors-requires : goal.paint_colors-requires
paint_colors-requires c =
    let p = c.requires in
    let h = c.read_header-h.ensures in (
      (same_whole h p.0).fair,
      (
        ap length c.pixel_bytes.ensures ∙ pixels-length _ p.0 ∙ sym (ap pixel_size h),
        omega (arith, same-pixels _ _ h, p.1),
      ),
    )

pub mask_bytes-requires : goal.mask_bytes-requires
mask_bytes-requires c = (c.read_header-h.ensures, same_whole c.read_header-h.ensures c.requires.0)

pub veil_rows-requires : goal.veil_rows-requires
veil_rows-requires c =
    let p = c.requires in
    let h = c.read_header-h.ensures in (
      ap length c.mask_bytes.ensures ∙ mask_length _ p.0 ∙ sym (ap mask_size h) ∙ mask_plane _ c.if-h-eq1.true,
      omega (arith, same-pixels _ _ h, p.1, ap length c.paint_colors.ensures ∙ swept-length _ _ _ _),
    )

pub returns-then-h-eq1 : goal.returns-then-h-eq1
returns-then-h-eq1 c =
    written_masked _ _ _ _ _ c.requires.1 c.read_header-h.ensures c.pixel_bytes.ensures c.paint_colors.ensures _ _ c.mask_bytes.ensures c.veil_rows.ensures

pub returns-else-h-eq1 : goal.returns-else-h-eq1
returns-else-h-eq1 c =
    written_plain _ _ _ _ _ c.requires.1 c.read_header-h.ensures c.pixel_bytes.ensures c.paint_colors.ensures c.if-h-eq1.false
