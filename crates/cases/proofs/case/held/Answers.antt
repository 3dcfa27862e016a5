-- `held` compares the area with the room divided by a pixel's size, so that no product can wrap.
use native.Mathlib.Omega.{arith}
use Rattle.cases.proofs.Cases.{no_format, too_big, held_is, product_fits}
use Rattle.cases.proofs.case.held.Goals as goal

pub returns-then-size-eq0 : goal.returns-then-size-eq0
returns-then-size-eq0 c =
    let a = c.args in
    no_format a.room c.bytes_per_pixel-size.result a.format a.row a.height c.bytes_per_pixel-size.ensures c.if-size-eq0.true

pub returns-then-room-size : goal.returns-then-room-size
returns-then-room-size c =
    let a = c.args in
    too_big a.room c.bytes_per_pixel-size.result a.format a.row a.height c.bytes_per_pixel-size.ensures c.if-size-eq0.false c.if-room-size.true

pub overflow_mul-result : goal.overflow_mul-result
overflow_mul-result c = omega (arith, product_fits _ c.args.room c.bytes_per_pixel-size.result c.if-size-eq0.false c.if-room-size.false)

pub returns : goal.returns
returns c =
    let a = c.args in
    held_is a.room c.bytes_per_pixel-size.result a.format a.row a.height c.bytes_per_pixel-size.ensures c.if-size-eq0.false c.if-room-size.false
