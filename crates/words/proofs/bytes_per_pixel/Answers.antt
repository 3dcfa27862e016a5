-- `words::bytes_per_pixel` meets its contract, number by number.
use Prim.Native.Nat.{◌<◌}
use native.Mathlib.Omega.{arith}
use Rattle.words.specs.Format.{format_of, bytes_per_pixel}
use Rattle.words.proofs.Formats.{is_none}
use Rattle.words.proofs.bytes_per_pixel.Goals as goal

pub returns-in-0 : goal.returns-in-0
unfolding format_of bytes_per_pixel
returns-in-0 c = rw c.in-0.is

pub returns-in-1 : goal.returns-in-1
unfolding format_of bytes_per_pixel
returns-in-1 c = rw c.in-1.is

pub returns-in-2 : goal.returns-in-2
unfolding format_of bytes_per_pixel
returns-in-2 c = rw c.in-2.is

pub returns-in-3 : goal.returns-in-3
unfolding format_of bytes_per_pixel
returns-in-3 c = rw c.in-3.is

pub returns-in-4 : goal.returns-in-4
unfolding format_of bytes_per_pixel
returns-in-4 c = rw c.in-4.is

pub returns-in_default : goal.returns-in_default
unfolding bytes_per_pixel
returns-in_default c = let h : 4 < c.args.format = omega arith in rw (is_none _ h)
