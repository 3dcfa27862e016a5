-- The three steps that there are.
use Rattle.std.proofs.Common.{sym, ◌∙◌, arith}
use Rattle.canvas.proofs.lines.Ways.{small, back_one, takes_x, then_y, room-x, room-y, stepped, next_xy, next-x, next-y}
use Rattle.canvas.proofs.lines.advance.Goals as goal

pub moved-x-requires : goal.moved-x-requires
moved-x-requires c = (c.requires.goes.low_x, λ e. back_one _ _ _ c.requires.goes.side-x (room-x c.args.w c.args.s c.requires (sym c.steps_x-across.ensures ∙ c.if-across.true)) e)

pub moved-y-requires : goal.moved-y-requires
moved-y-requires c = (c.requires.goes.low-y, λ e. back_one _ _ _ c.requires.goes.side-y (room-y c.args.w c.args.s c.requires (sym c.steps_y-along.ensures ∙ c.if-along.true)) e)

pub overflow_add-result : goal.overflow_add-result
overflow_add-result c = record { fits = omega (arith, small c.args.w c.args.s c.requires, c.requires.goes.wide) }

pub overflow_sub-result : goal.overflow_sub-result
overflow_sub-result c = omega (arith, (stepped c.args.w c.args.s c.requires).enough (takes_x c.args.w c.args.s c.requires (sym c.steps_x-across.ensures ∙ c.if-across.true)))

pub returns-then-along : goal.returns-then-along
returns-then-along c =
    rw (c.moved-x.ensures, c.moved-y.ensures) (next_xy c.args.w c.args.s c.requires
    (sym c.steps_x-across.ensures ∙ c.if-across.true) (sym c.steps_y-along.ensures ∙ c.if-along.true))

pub overflow_sub-result-then-across : goal.overflow_sub-result-then-across
overflow_sub-result-then-across c = omega (arith, (stepped c.args.w c.args.s c.requires).enough (takes_x c.args.w c.args.s c.requires (sym c.steps_x-across.ensures ∙ c.if-across.true)))

pub returns-then-across : goal.returns-then-across
returns-then-across c = rw c.moved-x.ensures (next-x c.args.w c.args.s c.requires (sym c.steps_x-across.ensures ∙ c.if-across.true) (sym c.steps_y-along.ensures ∙ c.if-along.false))

pub moved-y-requires-2 : goal.moved-y-requires-2
moved-y-requires-2 c =
    let a = c.args in (
      c.requires.goes.low-y,
      λ e. back_one _ _ _ c.requires.goes.side-y
          (room-y a.w a.s c.requires (then_y a.w a.s c.requires (sym c.steps_x-across.ensures ∙ c.if-across.false))) e,
    )

pub overflow_add-result-2 : goal.overflow_add-result-2
overflow_add-result-2 c = record { fits = omega (arith, small c.args.w c.args.s c.requires, c.requires.goes.wide) }

pub returns : goal.returns
returns c = rw c.moved-y-2.ensures (next-y c.args.w c.args.s c.requires (sym c.steps_x-across.ensures ∙ c.if-across.false))
