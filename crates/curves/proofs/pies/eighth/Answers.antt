-- `eighth` meets its contract: below, the eighths are counted from the other end. Assumes nothing.
use Rattle.std.proofs.Common.{sym, ◌∙◌, arith}
use Rattle.curves.proofs.Judged.{flank_few}
use Rattle.curves.proofs.pies.eighth.Goals as goal

pub overflow_sub-result : goal.overflow_sub-result
overflow_sub-result c = let a = c.args in omega (arith, c.flank-e.ensures, flank_few a.up a.right)

pub returns-then-is_sign_negative : goal.returns-then-is_sign_negative
returns-then-is_sign_negative c = rw (sym c.is_sign_negative.ensures ∙ c.if-is_sign_negative.true, c.flank-e.ensures)

pub returns : goal.returns
returns c = rw (sym c.is_sign_negative.ensures ∙ c.if-is_sign_negative.false, c.flank-e.ensures)
