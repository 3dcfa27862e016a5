-- The columns and rows that are shown, or nothing where either are none.
use native.Mathlib.Omega.{arith}
use mathlib.Core.Path.{◌≡◌}
use Prim.Native.Nat.{◌-◌}
use Rattle.std.proofs.Common.{rules, w32, Fits, SFits, ◌⊎◌, inl, inr}
use Rattle.canvas.proofs.span.Lifts.{lift_lt, lowers}
use Rattle.canvas.proofs.span.Sources.{shown-is}
use Rattle.images.proofs.parts.Corners.{placed, shows, shows_nothing}
use Rattle.images.proofs.parts.shown.Goals as goal
use Rattle.images.proofs.parts.shown.Goals.{then-xs-via-then-xs, then-xs-via-else-xs+then-ys}

pub shown_in-xs-requires : goal.shown_in-xs-requires
shown_in-xs-requires c = lift_lt c.args.dx _ c.ranges.dx c.lift-p.ensures

pub shown_in-ys-requires : goal.shown_in-ys-requires
shown_in-ys-requires c = lift_lt c.args.dy _ c.ranges.dy c.lift-q.ensures

pub returns-then-xs-clause-shows : goal.returns-then-xs-clause-shows
returns-then-xs-clause-shows c =
    let a = c.args in
    let f = c.ranges in
    let xs = c.shown_in-xs.result in
    let ys = c.shown_in-ys.result in
    let fx : SFits w32 a.clip.x = search rules in
    let fy : SFits w32 a.clip.y = search rules in
    let nothing : (xs.to - xs.from ≡ 0) ⊎ (ys.to - ys.from ≡ 0)
    = elim c.then-xs.branch [ then-xs-via-then-xs w ↦ inl (omega (arith, w.if-xs.true)) | then-xs-via-else-xs+then-ys w ↦ inr (omega (arith, w.if-ys.true)) ] in
    shows_nothing a.canvas a.source a.clip _ _ _ _ a.w a.h a.dx a.dy a.sx a.sy
    (lowers a.dx _ f.dx c.lift-p.ensures) (lowers a.dy _ f.dy c.lift-q.ensures) (lowers a.sx _ f.sx c.lift-u.ensures) (lowers a.sy _ f.sy c.lift-v.ensures)
    fx fy _ _ _ _ (shown-is _ _ _ _ a.clip.x _ _ _ fx c.shown_in-xs.ensures) (shown-is _ _ _ _ a.clip.y _ _ _ fy c.shown_in-ys.ensures) nothing

pub overflow_sub-result : goal.overflow_sub-result
overflow_sub-result c =
    let fx : SFits w32 c.args.clip.x = search rules in
    (shown-is _ _ _ _ c.args.clip.x _ _ _ fx c.shown_in-xs.ensures).ordered

pub overflow_sub-result-2 : goal.overflow_sub-result-2
overflow_sub-result-2 c =
    let fy : SFits w32 c.args.clip.y = search rules in
    (shown-is _ _ _ _ c.args.clip.y _ _ _ fy c.shown_in-ys.ensures).ordered

pub overflow_add-result : goal.overflow_add-result
overflow_add-result c =
    let a = c.args in
    let fx : SFits w32 a.clip.x = search rules in
    let wide : Fits w32 a.canvas.width = search rules in
    let xs = shown-is _ _ _ _ a.clip.x _ _ _ fx c.shown_in-xs.ensures in
    record { fits = omega (arith, xs.ordered, xs.held, lift_lt a.sx _ c.ranges.sx c.lift-u.ensures) }

pub overflow_sub-result-3 : goal.overflow_sub-result-3
overflow_sub-result-3 c =
    let fx : SFits w32 c.args.clip.x = search rules in
    let xs = shown-is _ _ _ _ c.args.clip.x _ _ _ fx c.shown_in-xs.ensures in
    xs.sourced.begins (omega (arith, xs.ordered))

pub overflow_add-result-2 : goal.overflow_add-result-2
overflow_add-result-2 c =
    let a = c.args in
    let fy : SFits w32 a.clip.y = search rules in
    let high : Fits w32 a.canvas.height = search rules in
    let ys = shown-is _ _ _ _ a.clip.y _ _ _ fy c.shown_in-ys.ensures in
    record { fits = omega (arith, ys.ordered, ys.held, lift_lt a.sy _ c.ranges.sy c.lift-v.ensures) }

pub overflow_sub-result-4 : goal.overflow_sub-result-4
overflow_sub-result-4 c =
    let fy : SFits w32 c.args.clip.y = search rules in
    let ys = shown-is _ _ _ _ c.args.clip.y _ _ _ fy c.shown_in-ys.ensures in
    ys.sourced.begins (omega (arith, ys.ordered))

pub returns-clause-placed : goal.returns-clause-placed
returns-clause-placed c =
    let a = c.args in
    let f = c.ranges in
    let fx : SFits w32 a.clip.x = search rules in
    let fy : SFits w32 a.clip.y = search rules in
    let xs = shown-is _ _ _ _ a.clip.x _ _ _ fx c.shown_in-xs.ensures in
    let ys = shown-is _ _ _ _ a.clip.y _ _ _ fy c.shown_in-ys.ensures in
    placed _ _ xs ys (omega (arith, xs.ordered)) (omega (arith, ys.ordered))

pub returns-clause-shows : goal.returns-clause-shows
returns-clause-shows c =
    let a = c.args in
    let f = c.ranges in
    let fx : SFits w32 a.clip.x = search rules in
    let fy : SFits w32 a.clip.y = search rules in
    shows a.canvas a.source a.clip _ _ _ _ a.w a.h a.dx a.dy a.sx a.sy
    (lowers a.dx _ f.dx c.lift-p.ensures) (lowers a.dy _ f.dy c.lift-q.ensures) (lowers a.sx _ f.sx c.lift-u.ensures) (lowers a.sy _ f.sy c.lift-v.ensures)
    fx fy _ _ _ _ (shown-is _ _ _ _ a.clip.x _ _ _ fx c.shown_in-xs.ensures) (shown-is _ _ _ _ a.clip.y _ _ _ fy c.shown_in-ys.ensures)
