-- A last byte 13 is left out.
use mathlib.Core.Path.{ap, ◌∙◌}
use Rattle.std.specs.Borrow.{Bor}
use Prim.Native.Nat.{ℕ}
use mathlib.Core.List.{List}
use Rattle.replies.proofs.Replies.{stripped}
use Rattle.replies.proofs.line.without_return.Goals as goal

pub returns : goal.returns
returns c = ap (λ (s : Bor (List ℕ)). s.now) c.unwrap_or.ensures ∙ stripped _ c.strip_suffix.result c.strip_suffix.ensures.cases
