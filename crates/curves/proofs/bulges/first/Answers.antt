-- The search goes on to the side that the place where it starts tells. Assumes nothing.
use Rattle.std.proofs.Common.{sym, ap, ◌∙◌, arith}
use Rattle.curves.specs.Bulges.{has_at}
use Rattle.curves.proofs.Near.{back}
use Rattle.curves.proofs.bulges.first.Goals as goal

pub has-requires : goal.has-requires
has-requires c = (c.requires.0, omega (arith, c.requires.1.1))

pub outward-requires : goal.outward-requires
outward-requires c = (c.requires.0, (c.requires.1.0, (c.requires.1.1, sym c.has.ensures ∙ c.if-has.true)))

pub inward-requires : goal.inward-requires
inward-requires c =
    let a = c.args in
    let p = c.requires in
    (p.0, (p.1.0, (omega arith, (omega (arith, p.1.1), ap (has_at a.s a.row) (back a.from) ∙ sym c.has.ensures ∙ c.if-has.false))))
