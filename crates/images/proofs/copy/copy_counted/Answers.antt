-- A refusal is the first fault; else what is shown is copied.
use native.Mathlib.Omega.{arith}
use mathlib.Core.Path.{◌≡◌, refl, sym, ap, ◌∙◌}
use mathlib.Core.List.{List}
use mir.Syntax.{w32}
use mir.ValLaws.{to_z-of_z}
use Rattle.std.proofs.Common.{rules, Ok, Err}
use Rattle.pixels.specs.Hits.{Hit, paint}
use Rattle.pixels.proofs.bytes.Cells.{Bytes}
use Rattle.canvas.specs.declared.Refusal.{Refusal}
use Rattle.canvas.specs.Faults.{Verdict}
use Rattle.canvas.specs.Call.{count_of}
use Rattle.canvas.proofs.faults.Verdicts.{sized}
use Rattle.canvas.proofs.plot.Answers.{declines, finishes}
use Rattle.images.specs.Areas.{copied, copy_area}
use Rattle.images.proofs.copy.Moves.{copies, with_count}
use Rattle.images.proofs.parts.Landed.{part_did}
use Rattle.images.proofs.copy.copy_counted.Goals as goal

-- where no fault is named there is none
passed : (d f : Verdict) → d ≡ f → ((r : Refusal) → d ≡ Err r → ⊥) → Ok tt ≡ f
passed (Ok u) f e h = e
passed (Err r) f e h = absurd (h r refl)

pub pixels-n-requires-clause-wide : goal.pixels-n-requires-clause-wide
pixels-n-requires-clause-wide c =
    let s = sized c.args.canvas c.args.bytes.now (sym (passed _ _ c.judge.ensures c.in_default.not-Err)) in
    omega (arith, c.shown-part.ensures.placed.wide, s.wide)

pub pixels-n-requires-clause-high : goal.pixels-n-requires-clause-high
pixels-n-requires-clause-high c =
    let s = sized c.args.canvas c.args.bytes.now (sym (passed _ _ c.judge.ensures c.in_default.not-Err)) in
    omega (arith, c.shown-part.ensures.placed.high, s.high)

pub copy_part-requires-clause-sized : goal.copy_part-requires-clause-sized
copy_part-requires-clause-sized c = sized c.args.canvas c.args.bytes.now (sym (passed _ _ c.judge.ensures c.in_default.not-Err))

pub returns-in-Err : goal.returns-in-Err
unfolding copy_area count_of
returns-in-Err c =
    with_count _ _ _ (declines c.args.canvas c.args.bytes.now _ _ (Err c.in-Err.r) refl (sym c.in-Err.is ∙ c.judge.ensures)) refl

pub returns : goal.returns
unfolding copy_area count_of
returns c =
    let a = c.args in
    let f = c.ranges in
    let o : Bytes a.bytes.now = record { byte = λ i. search rules } in
    let shows = rw (to_z-of_z w32 a.dx f.dx, to_z-of_z w32 a.dy f.dy, to_z-of_z w32 a.sx f.sx, to_z-of_z w32 a.sy f.sy) at c.shown-part.ensures.shows in
    let same = copies a.canvas a.bytes.now o a.dx a.dy a.sx a.sy a.w a.h a.clip c.shown-part.result shows in
    with_count _ _ _
    (finishes a.canvas a.bytes.now a.clip _ _ (record { landed = 0 }) _ _ (passed _ _ c.judge.ensures c.in_default.not-Err) refl
    (part_did a.canvas a.clip _ _ c.shown-part.result _ _ _ (shows.lands (copied a.canvas a.bytes.now a.dx a.dy a.sx a.sy))
    (c.copy_part.ensures ∙ ap (λ (hs : List Hit). paint a.canvas hs a.bytes.now) (sym same)) c.pixels-n.ensures))
    refl
