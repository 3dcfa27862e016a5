-- `level5_of` meets its contract: the two divisions agree at each level.
use mathlib.Core.Path.{◌≡◌, sym, ◌∙◌}
use Prim.Native.Nat.{ℕ, ◌+◌, ◌*◌, ◌/◌, ◌%◌, ◌<◌}
use native.Mathlib.Omega.{arith}
use Rattle.words.specs.Word.{level5}
use Rattle.words.specs.Table.{run}
use Rattle.words.proofs.Table.{run_at}
use Rattle.words.proofs.level5_of.Goals as goal

fast : ℕ → ℕ
fast v = (v * 527 + 23) / 64

-- By comparing the two tables of 32.
agree : (v : ℕ) → v < 32 → fast v ≡ level5 v
unfolding fast level5 run
agree v l = sym (run_at fast 32 v l) ∙ run_at level5 32 v l

pub returns : goal.returns
unfolding fast
returns c = agree (c.args.v % 32) (omega arith)
