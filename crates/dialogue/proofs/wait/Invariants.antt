-- What is kept lies within the text.
use Rattle.std.proofs.Common.{◌≤◌, length}
use Rattle.dialogue.proofs.wait.Given as goal

abbrev pub invariant-loop : goal.invariant-loop
invariant-loop g l = l.kept ≤ length l.text
