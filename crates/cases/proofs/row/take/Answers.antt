-- An argument by its kind.
use Rattle.cases.specs.Line.{got}
use Rattle.cases.specs.Place.{taken, left_of}
use Rattle.cases.specs.Row.{arg_of, seeded, numbered}
use Rattle.cases.proofs.Rows.{other_arg}
use Rattle.cases.proofs.row.take.Goals as goal

pub returns-in_err-seed-in-Seed : goal.returns-in_err-seed-in-Seed
unfolding arg_of seeded
returns-in_err-seed-in-Seed c = rw (c.from_residual.ensures, c.in-Seed.is) c.in_err-seed-in-Seed.ensures

pub returns-in_err-seed-in-File : goal.returns-in_err-seed-in-File
unfolding arg_of seeded
returns-in_err-seed-in-File c = rw (c.from_residual-in_err-seed-in-File.ensures, c.in-File.is) c.in_err-seed-in-File.ensures

pub returns-in_err-n-in_default : goal.returns-in_err-n-in_default
unfolding numbered
returns-in_err-n-in_default c =
    let a = c.args in
    rw (c.from_residual-in_err-n-in_default.ensures, other_arg a.i a.kind (got (taken a.args.now) (left_of a.left)) c.in_default.not-Seed c.in_default.not-File)
    c.in_err-n-in_default.ensures

pub returns-in_ok-seed-in-Seed : goal.returns-in_ok-seed-in-Seed
unfolding arg_of seeded
returns-in_ok-seed-in-Seed c = rw (c.in-Seed.is, c.in_ok-seed-in-Seed.ensures)

pub returns-in_ok-seed-in-File : goal.returns-in_ok-seed-in-File
unfolding arg_of seeded
returns-in_ok-seed-in-File c = rw (c.in-File.is, c.in_ok-seed-in-File.ensures)

pub returns-in_ok-n-in_default : goal.returns-in_ok-n-in_default
unfolding numbered
returns-in_ok-n-in_default c =
    let a = c.args in
    rw (other_arg a.i a.kind (got (taken a.args.now) (left_of a.left)) c.in_default.not-Seed c.in_default.not-File, c.in_ok-n-in_default.ensures)
