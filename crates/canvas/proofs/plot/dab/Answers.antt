-- Two tests, and the pixel inked and counted.
use Rattle.std.proofs.Common.{sym, ◌∙◌, arith}
use borrow.Author.Tests.{not-true, not-false}
use Rattle.words.specs.Ink.{inked}
use Rattle.canvas.proofs.plot.Dabs.{covered, misses_x, misses_y, dab_lands}
use Rattle.canvas.proofs.plot.dab.Goals as goal

pub is_covered-requires : goal.is_covered-requires
is_covered-requires c = let p = c.requires in (p.1.0.ordered-x, omega (arith, p.1.0.held_x, p.0.wide))

pub returns-then-not-is_covered : goal.returns-then-not-is_covered
returns-then-not-is_covered c = misses_x c.args.canvas c.args.xs c.args.ys (inked c.args.ink) c.args.p c.args.q _ (sym c.is_covered.ensures ∙ not-true _ c.if-not-is_covered.true-raw)

pub is_covered-requires-2 : goal.is_covered-requires-2
is_covered-requires-2 c = let p = c.requires in (p.1.0.ordered-y, omega (arith, p.1.0.held-y, p.0.high))

pub returns-then-not-is_covered-2 : goal.returns-then-not-is_covered-2
returns-then-not-is_covered-2 c = misses_y c.args.canvas c.args.xs c.args.ys (inked c.args.ink) c.args.p c.args.q _ (sym c.is_covered-2.ensures ∙ not-true _ c.if-not-is_covered-2.true-raw)

pub overflow_sub-x : goal.overflow_sub-x
overflow_sub-x c = omega (arith, (covered c.args.xs c.args.p (sym c.is_covered.ensures ∙ not-false _ c.if-not-is_covered.false-raw)).low)

pub overflow_sub-y : goal.overflow_sub-y
overflow_sub-y c = omega (arith, (covered c.args.ys c.args.q (sym c.is_covered-2.ensures ∙ not-false _ c.if-not-is_covered-2.false-raw)).low)

pub touch_by-requires : goal.touch_by-requires
touch_by-requires c =
    let a = c.args in
    let pre = c.requires in (
      pre.0,
      (
        record {
          across = omega (
            arith,
            (covered a.xs a.p
                (sym c.is_covered.ensures ∙ not-false _ c.if-not-is_covered.false-raw)).inside,
            pre.1.0.held_x,
          );
          down = omega (
            arith,
            (covered a.ys a.q (sym c.is_covered-2.ensures ∙ not-false _ c.if-not-is_covered-2.false-raw)).inside,
            pre.1.0.held-y,
          );
        },
        pre.1.1.0,
      ),
    )

pub landed_more-requires : goal.landed_more-requires
landed_more-requires c = c.requires.1.1.1

pub returns : goal.returns
returns c =
    let a = c.args in
    dab_lands a.canvas a.xs a.ys (inked a.ink) a.p a.q (sym c.is_covered.ensures ∙ not-false _ c.if-not-is_covered.false-raw)
    (sym c.is_covered-2.ensures ∙ not-false _ c.if-not-is_covered-2.false-raw) _ _ _ _ c.touch_by.ensures c.landed_more.ensures
