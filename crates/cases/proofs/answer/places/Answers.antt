-- `places` takes digits off while there are two or more left.
use native.Mathlib.Omega.{arith}
use Rattle.cases.proofs.Texts.{place-more, place-last, place_end}
use Rattle.cases.proofs.answer.places.Goals as goal

pub loop-k-init : goal.loop-k-init
loop-k-init c = omega arith

pub returns-then-rest-base : goal.returns-then-rest-base
returns-then-rest-base c = record { value = omega (arith, place-last c.args.base c.loop-k.k c.loop-k.rest c.loop-k-test.true c.if-rest-base.true); upper_bound = omega arith }

pub loop-k-preserved : goal.loop-k-preserved
loop-k-preserved c = omega (arith, place-more c.args.base c.loop-k.k c.loop-k.rest c.loop-k-test.true c.if-rest-base.false)

pub returns : goal.returns
returns c = record { value = omega (arith, place_end c.args.base c.loop-k.k c.loop-k.rest c.loop-k-test.false); upper_bound = omega arith }
