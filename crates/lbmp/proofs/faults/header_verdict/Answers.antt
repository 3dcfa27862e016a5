-- The area is small and the type known where the tests behind ask for it.
use mathlib.Core.Path.{◌≡◌, sym, ◌∙◌}
use native.Mathlib.Omega.{arith}
use Rattle.std.specs.Prelude.{Some}
use Rattle.lbmp.specs.File.{kind_of}
use Rattle.lbmp.proofs.faults.Verdicts.{area-known}
use Rattle.lbmp.proofs.faults.header_verdict.Goals as goal

pub twice_fault-requires : goal.twice_fault-requires
twice_fault-requires c = grind (arith, area-known c.args.h (sym c.area_fault.ensures ∙ c.in_ok-area_fault.was))

pub field_fault-requires : goal.field_fault-requires
field_fault-requires c =
    let k : kind_of c.args.h.kind ≡ Some c.in_ok-kind.kind = grind arith in
    (area-known c.args.h (sym c.area_fault.ensures ∙ c.in_ok-area_fault.was), k)
