-- Where an eighth of a turn lies all in the sweep, or all past it, so does the angle. Assumes nothing.
use Rattle.std.proofs.Common.{ℕ, ◌≤◌, sym, subst}
use lib.Ieee.{neg}
use Rattle.curves.proofs.Judged.{all_of, none_of, from-few, eighth_few}
use Rattle.curves.proofs.pies.in_part.Goals as goal

pub begins-at-requires : goal.begins-at-requires
begins-at-requires c =
    let a = c.args in
    let d = c.in-Some in
    (from-few a.start a.length a.degrees c.requires.0 d.d d.is, subst (λ (n : ℕ). n ≤ 7) (sym c.eighth.ensures) (eighth_few (neg a.dy) a.dx))

pub returns-then-at-d : goal.returns-then-at-d
returns-then-at-d c =
    let a = c.args in
    let d = c.in-Some in
    all_of a.start a.length a.degrees c.requires.0 d.d d.is a.dx a.dy c.requires.1 _ _
    c.eighth.ensures c.begins-at.ensures c.if-at-lt315.true c.if-at-d.true

pub returns-then-d-at : goal.returns-then-d-at
returns-then-d-at c =
    let a = c.args in
    let d = c.in-Some in
    none_of a.start a.length a.degrees c.requires.0 d.d d.is a.dx a.dy c.requires.1 _ _
    c.eighth.ensures c.begins-at.ensures c.if-at-lt315.true c.if-d-at.true
