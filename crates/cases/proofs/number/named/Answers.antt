-- `named` reads what is behind a name.
use mathlib.Core.Path.{sym}
use Rattle.cases.proofs.Numbers.{with_name, without_name}
use Rattle.cases.proofs.number.named.Goals as goal

pub returns-in_err-strip_prefix : goal.returns-in_err-strip_prefix
returns-in_err-strip_prefix c = rw c.from_residual.ensures (without_name c.args.name.now c.args.text.now c.requires c.in_err-strip_prefix.ensures.cases)

pub returns : goal.returns
returns c =
    let p = c.in_ok-strip_prefix.ensures.cases in
    rw (with_name c.args.name.now c.args.text.now c.requires p.0, sym p.1) c.number.ensures
