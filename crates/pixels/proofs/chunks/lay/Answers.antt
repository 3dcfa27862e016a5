-- Each word size has its loop.
use Rattle.std.proofs.Common.{rules}
use Rattle.pixels.proofs.bytes.Places.{one_byte, two_bytes, four_bytes}
use Rattle.pixels.proofs.chunks.lay.Goals as goal

pub lay_by-requires : goal.lay_by-requires
lay_by-requires c = (c.requires.0, (c.requires.1.0, (c.requires.1.1, one_byte _ c.in-0.is)))

pub lay_by-requires-in-1 : goal.lay_by-requires-in-1
lay_by-requires-in-1 c = (c.requires.0, (c.requires.1.0, (c.requires.1.1, two_bytes _ c.in-1.is)))

pub lay_by-requires-in_default : goal.lay_by-requires-in_default
lay_by-requires-in_default c = (c.requires.0, (c.requires.1.0, (c.requires.1.1, four_bytes _ c.requires.0.known (search rules) (search rules))))
