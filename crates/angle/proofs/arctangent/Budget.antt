-- The numbers of the error budget of the ratio's rule, all closed. Assumes nothing.
use Rattle.std.proofs.Common.{ℕ, ◌+◌, ◌*◌, ◌/◌, ◌^◌, ◌≤◌, lit≤}
use Rattle.angle.specs.Meaning.{D, whole}

-- the largest step from a node, and the end of the range
unfoldable pub Most : ℕ
unfolding D
Most = D / 1800

unfoldable pub B : ℕ
unfolding D
B = D * 79 / 100

pub B-few : B ≤ D
unfolding B D
B-few = lit≤ tt

-- a hundredth of what the bound allows, times D
unfoldable pub J : ℕ
unfolding D whole
J = D * whole / (100 * 2 ^ 18)

-- what Taylor's two terms leave over the largest step
unfoldable pub Q : ℕ
unfolding J
Q = 6 * J

-- how far y may lie from the angle that the polynomial says
unfoldable pub E : ℕ
unfolding D
E = D * 40 / (100 * 2 ^ 18)

-- what the slope at a node leaves over two cells
unfoldable pub L2 : ℕ
unfolding D
L2 = D * 10 / (100 * 2 ^ 18)

unfoldable pub L : ℕ
unfolding E L2
L = E + 1 + L2

-- two cells, each a 4096th
unfoldable pub m : ℕ
unfolding D
m = D / 2048

unfoldable pub tau : ℕ
unfolding whole
tau = 4096 * whole / (100 * 2 ^ 18)
