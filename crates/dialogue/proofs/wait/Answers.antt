-- What is handed out begins the text.
use Rattle.std.proofs.Common.{ℕ, ◌+◌, rules, arith}
use Rattle.std.proofs.Math.ListN.{length-take}
use Rattle.dialogue.proofs.Laws.{shorter, line_at}
use Rattle.dialogue.proofs.wait.Goals as goal

pub returns-then-n-eq0 : goal.returns-then-n-eq0
returns-then-n-eq0 g c =
    let end = c.first_line-end in
    record {
      first = omega arith;
      last = omega (arith, end.ensures, shorter, length-take {A = ℕ});
      within = search rules;
      room = omega arith;
      line = line_at _ 0 (c.loop.kept + c.in_ok-n.n) end.result end.result (omega (arith, end.ensures)) (omega arith);
    }
