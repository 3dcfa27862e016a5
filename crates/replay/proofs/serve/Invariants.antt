-- The text keeps its length.
use Rattle.std.proofs.Common.{◌≡◌, length}
use Rattle.replay.proofs.serve.Given as goal

abbrev pub invariant-loop : goal.invariant-loop
invariant-loop g l = length l.text ≡ length l.initial.text
