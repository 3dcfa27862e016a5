-- By the bit.
use mathlib.Core.Path.{◌≡◌, refl}
use native.Mathlib.Omega.{arith}
use Rattle.lbmp.specs.Walk.{veiled}
use Rattle.lbmp.proofs.paint.veiled_word.Goals as goal

pub returns-then-bit-eq1 : goal.returns-then-bit-eq1
unfolding veiled
returns-then-bit-eq1 c = rw (← c.bit.ensures.0, c.if-bit-eq1.true) refl

pub returns : goal.returns
unfolding veiled
returns c = let z : c.bit.result ≡ 0 = omega arith in rw (← c.bit.ensures.0, z) refl
