-- What is left of the rows leads to the same end as all of them.
use Prim.Native.Nat.{◌-◌}
use Rattle.words.specs.Ink.{inked}
use Rattle.pixels.specs.Rows.{run, flat, field}
use Rattle.pixels.proofs.rows.Rows.{Rest}
use Rattle.pixels.proofs.rows.ink_box.Given as goal

abbrev pub invariant-loop-y : goal.invariant-loop-y
invariant-loop-y l =
    let xs = run l.xs.from (l.xs.to - l.xs.from) in
    Rest l.canvas (field (flat (inked l.ink)) xs (run l.y (l.y-end - l.y))) l.b (field (flat (inked l.ink)) xs (run l.fn.ys.from (l.y-end - l.fn.ys.from))) l.initial.b
