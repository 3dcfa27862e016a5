-- The last column and row lie a side less one from the first.
use Rattle.ovals.proofs.fills.Sieves.{last_fits, corners_are}
use Rattle.ovals.proofs.fills.corners_of.Goals as goal

pub overflow_add-right : goal.overflow_add-right
overflow_add-right c = last_fits c.args.x c.args.w c.ranges.x c.requires.0.left c.requires.0.wide

pub overflow_add-bottom : goal.overflow_add-bottom
overflow_add-bottom c = last_fits c.args.y c.args.h c.ranges.y c.requires.0.top c.requires.0.high

pub returns : goal.returns
returns c =
    let a = c.args in
    corners_are a.x a.y a.w a.h a.aw a.ah c.ranges.x c.ranges.y c.requires.0 _ _ _ c.radius-rx.ensures c.radius-ry.ensures
    c.corners_in.ensures
