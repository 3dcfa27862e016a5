-- `size_of` meets its contract: it is made of the three choices of the rule. Assumes nothing.
use Rattle.std.proofs.Common.{◌≡◌}
use lib.Ieee.{Float, of_bits, neg}
use Rattle.angle.specs.Sine.{least, most, larger_of, smaller_of, size_of}
use Rattle.angle.proofs.sine.size_of.Goals as goal

by : (t a b r : Float) → a ≡ larger_of t least → b ≡ larger_of (neg t) a → r ≡ smaller_of b most → r ≡ size_of t
unfolding size_of
by t a b r e f g = cc

pub returns : goal.returns
unfolding of_bits
returns c =
    let r = c.smaller in
    let b = c.larger-2 in
    let a = c.larger in
    by c.args.t a.result b.result r.result a.ensures b.ensures r.ensures
