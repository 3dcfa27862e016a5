-- `angles` meets its contract: the first j are worked out. Assumes nothing.
use Rattle.std.proofs.Common.{◌≡◌, ℕ, ◌+◌, pos, arith}
use lib.Ieee.{Float, binary32, of_int, add, mul, div}
use Rattle.angle.specs.Stroke.{stroke_angle}
use Rattle.curves.specs.Strokes.{angles_from}
use Rattle.curves.proofs.strokes.Sixteen.{filled_none, filled_more, filled_all, angles_length, angles_at}
use Rattle.curves.proofs.strokes.angles.Goals as goal

-- the number of steps is an f32
by_steps : (start sweep : Float) (k steps : ℕ) (by t : Float) → by ≡ of_int binary32 (pos steps) → t ≡ add binary32 start (div binary32 (mul binary32 sweep (of_int binary32 (pos k))) by)
    → t ≡ stroke_angle start sweep k steps
unfolding stroke_angle
by_steps start sweep k steps by t e f = rw (f, e)

pub nearest_to-by-requires : goal.nearest_to-by-requires
nearest_to-by-requires c = tt

pub loop-j-init : goal.loop-j-init
loop-j-init c = filled_none c.told-ts

pub overflow_cast-ts : goal.overflow_cast-ts
overflow_cast-ts c = record { fits = omega (arith, c.loop-j-test.true) }

pub offset_bounds-ts-j : goal.offset_bounds-ts-j
offset_bounds-ts-j c = record { fits = omega (arith, c.loop-j-test.true) }

pub bounds-ts-j : goal.bounds-ts-j
bounds-ts-j c = omega (arith, c.loop-j-test.true, c.loop-j.invariant.long)

pub loop-j-preserved : goal.loop-j-preserved
loop-j-preserved c =
    let a = c.args in
    let n = c.nearest_to-by in
    let l = c.loop-j in
    filled_more c.angle_at.result c.loop-j-test.true
    (by_steps a.start a.sweep (a.i + l.j) a.steps n.result c.angle_at.result n.ensures c.angle_at.ensures) l.invariant

pub returns : goal.returns
returns c =
    let a = c.args in
    filled_all (angles_from a.start a.sweep a.steps a.i 16) c.loop-j-test.false (angles_length a.start a.sweep a.steps a.i 16)
    (angles_at a.start a.sweep a.steps a.i 16) c.loop-j.invariant
