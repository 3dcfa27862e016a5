-- `words::from_color` meets its contract, number by number.
use Prim.Native.Nat.{◌<◌}
use native.Mathlib.Omega.{arith}
use Rattle.words.specs.Format.{format_of}
use Rattle.words.specs.Word.{from_color}
use Rattle.words.proofs.Formats.{is_none}
use Rattle.words.proofs.from_color.Goals as goal

pub returns-in-0 : goal.returns-in-0
unfolding format_of
returns-in-0 c = rw c.in-0.is c.word.ensures

pub returns-in-1 : goal.returns-in-1
unfolding format_of
returns-in-1 c = rw c.in-1.is c.word-in-1.ensures

pub returns-in-2 : goal.returns-in-2
unfolding format_of
returns-in-2 c = rw c.in-2.is c.word-in-2.ensures

pub returns-in-3 : goal.returns-in-3
unfolding format_of
returns-in-3 c = rw c.in-3.is c.word-in-3.ensures

pub returns-in-4 : goal.returns-in-4
unfolding format_of
returns-in-4 c = rw c.in-4.is c.word-in-4.ensures

pub returns-in_default : goal.returns-in_default
unfolding from_color
returns-in_default c = let h : 4 < c.args.format = omega arith in rw (is_none _ h)
