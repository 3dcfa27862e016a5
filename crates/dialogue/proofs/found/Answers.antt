-- The line ends with the first line of what is held.
use Rattle.std.proofs.Common.{ℕ, ◌-◌, arith, refl}
use Rattle.std.proofs.Math.ListN.{length-take}
use Rattle.dialogue.proofs.Laws.{shorter, line_at}
use Rattle.dialogue.proofs.found.Goals as goal

pub returns-clause-stands : goal.returns-clause-stands
returns-clause-stands c =
    let held = c.min-held in
    let at = c.min-at in
    let n = c.first_line-n in
    record {
      first = omega arith;
      last = omega (arith, at.ensures, n.ensures, shorter, length-take {A = ℕ});
      within = omega (arith, held.ensures);
      room = omega (arith, c.min.ensures);
      line = line_at _ at.result (held.result - at.result) n.result _ (omega (arith, n.ensures)) refl;
    }
