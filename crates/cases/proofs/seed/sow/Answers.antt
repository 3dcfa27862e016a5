-- `sow` fills the bytes by the seed's kind.
use Rattle.cases.specs.Seed.{first_bytes}
use Rattle.cases.proofs.seed.sow.Goals as goal

pub returns-in-Zeros : goal.returns-in-Zeros
unfolding first_bytes
returns-in-Zeros c = rw c.in-Zeros.is (c.fill.ensures.after (λ y e. e))

pub returns-in-Number : goal.returns-in-Number
unfolding first_bytes
returns-in-Number c = rw c.in-Number.is c.grow.ensures

pub returns-in-Bytes : goal.returns-in-Bytes
unfolding first_bytes
returns-in-Bytes c = rw c.in-Bytes.is c.decode.ensures
