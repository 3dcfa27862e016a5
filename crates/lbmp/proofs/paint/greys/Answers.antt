-- The bits are read of both planes.
use mathlib.Core.Path.{◌≡◌, refl, ◌∙◌}
use Prim.Native.Nat.{◌+◌, ◌*◌, ◌/◌, ◌%◌, ◌^◌, ◌≤◌, ◌<◌}
use native.Mathlib.Omega.{arith}
use lib.ListN.{length, get_or, take, drop}
use Rattle.std.proofs.Common.{rules}
use Rattle.words.specs.Format.{argb}
use Rattle.words.specs.Word.{from_color}
use Rattle.lbmp.specs.Plane.{plane_size}
use Rattle.lbmp.specs.Image.{grey_color, grey_at}
use Rattle.lbmp.specs.Walk.{painted}
use Rattle.lbmp.proofs.planes.Sizes.{plane_inside}
use Rattle.lbmp.proofs.paint.Places.{grey-is}
use Rattle.lbmp.proofs.paint.Images.{greys_are}
use Rattle.lbmp.proofs.paint.greys.Goals as goal

pub sweep_rows-requires-clause-callable : goal.sweep_rows-requires-clause-callable
sweep_rows-requires-clause-callable c = λ x y v lx ly lv.
    let w = c.args.h.width in
    let t = c.split_at in
    let p = plane_inside w c.args.h.height x y lx ly in
    let i : y / 8 * w + x + 1 ≤ length t.result.0.now = omega (arith, p, c.requires.0, t.ensures.front_len) in
    let j : y / 8 * w + x + 1 ≤ length t.result.1.now = omega (arith, p, c.requires.0, t.ensures.back_len) in
    let s : y % 8 < 8 = omega arith in
    search rules

pub returns : goal.returns
returns c =
    let a = c.args in
    let w = a.h.width in
    let t = c.split_at in
    let n = plane_size w a.h.height in
    let half : length a.p.now / 2 ≡ n = omega (arith, c.requires.0) in
    let high : t.result.0.now ≡ take n a.p.now = rw half at t.ensures.front in
    let low : t.result.1.now ≡ drop n a.p.now = rw half at t.ensures.back in
    c.sweep_rows.ensures (painted (grey_at t.result.0.now t.result.1.now w)) (λ x y v r lx ly lv e.
    let b : r ≡ from_color argb (grey_color (get_or t.result.0.now (y / 8 * w + x) 0 / 2 ^ (y % 8) % 2) (get_or t.result.1.now (y / 8 * w + x) 0 / 2 ^ (y % 8) % 2)) = search rules in
    grey-is w y x lx t.result.0.now t.result.1.now _ _ r v refl refl b)
    ∙ greys_are a.p.now _ _ a.out.now n w (w * a.h.height) high low
