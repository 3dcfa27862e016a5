-- The bit is read of the plane, and lies over the word.
use mathlib.Core.Path.{◌≡◌, refl}
use Prim.Native.Nat.{◌+◌, ◌*◌, ◌/◌, ◌%◌, ◌^◌, ◌≤◌, ◌<◌}
use native.Mathlib.Omega.{arith}
use lib.ListN.{length, get_or}
use Rattle.std.proofs.Common.{rules}
use Rattle.lbmp.specs.Walk.{veiled, veil}
use Rattle.lbmp.proofs.planes.Sizes.{plane_inside}
use Rattle.lbmp.proofs.paint.Places.{veil-is}
use Rattle.lbmp.proofs.paint.veil_rows.Goals as goal

pub sweep_rows-requires-clause-callable : goal.sweep_rows-requires-clause-callable
sweep_rows-requires-clause-callable c = λ x y v lx ly lv.
    let w = c.args.h.width in
    let i : y / 8 * w + x + 1 ≤ length c.args.m.now = omega (arith, plane_inside w c.args.h.height x y lx ly, c.requires.0) in
    let s : y % 8 < 8 = omega arith in
    search rules

pub returns : goal.returns
returns c = c.sweep_rows.ensures (veil c.args.m.now c.args.h.width) (λ x y v r lx ly lv e.
    let w = c.args.h.width in
    let b : r ≡ veiled (get_or c.args.m.now (y / 8 * w + x) 0 / 2 ^ (y % 8) % 2) v = search rules in
    veil-is w y x lx c.args.m.now _ r v refl b)
