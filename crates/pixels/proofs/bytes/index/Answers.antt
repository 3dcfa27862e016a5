-- A pixel's number is below the area.
use native.Mathlib.Omega.{arith}
use Rattle.pixels.proofs.bytes.Places.{row_index, index_le}
use Rattle.pixels.proofs.bytes.index.Goals as goal

pub overflow_mul-result : goal.overflow_mul-result
overflow_mul-result c =
    let a = c.args in
    let p = c.requires in
    record { fits = omega (arith, row_index a.canvas a.x a.y p.1.rows, index_le a.canvas a.x a.y p.0 p.1) }

pub overflow_add-result : goal.overflow_add-result
overflow_add-result c =
    let a = c.args in
    let p = c.requires in
    record { fits = omega (arith, row_index a.canvas a.x a.y p.1.rows, index_le a.canvas a.x a.y p.0 p.1) }

pub returns : goal.returns
returns c =
    let a = c.args in
    let p = c.requires in
    let r = row_index a.canvas a.x a.y p.1.rows in
    (r, omega (arith, r, index_le a.canvas a.x a.y p.0 p.1))
