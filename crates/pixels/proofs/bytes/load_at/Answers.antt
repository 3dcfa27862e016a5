-- By the word's size, the word read at the offset is the pixel's.
use Rattle.std.proofs.Common.{rules}
use Rattle.pixels.proofs.bytes.Pixels.{bounded}
use Rattle.pixels.proofs.bytes.Places.{one_byte, two_bytes, four_bytes, in_offset, read_offset}
use Rattle.pixels.proofs.bytes.load_at.Goals as goal

pub offset-o-requires : goal.offset-o-requires
offset-o-requires c = (c.requires.1, bounded c.requires.0)

pub word-requires-clause-room : goal.word-requires-clause-room
word-requires-clause-room c =
    let a = c.args in
    in_offset a.canvas a.b.now a.x a.y _ 1 c.requires.0 c.requires.1 c.offset-o.ensures (one_byte _ c.in-0.is)

pub word-requires-in-1-clause-room : goal.word-requires-in-1-clause-room
word-requires-in-1-clause-room c =
    let a = c.args in
    in_offset a.canvas a.b.now a.x a.y _ 2 c.requires.0 c.requires.1 c.offset-o.ensures (two_bytes _ c.in-1.is)

pub word-requires-in_default-clause-room : goal.word-requires-in_default-clause-room
word-requires-in_default-clause-room c =
    let a = c.args in
    in_offset a.canvas a.b.now a.x a.y _ 4 c.requires.0 c.requires.1 c.offset-o.ensures (four_bytes _ c.requires.0.known (search rules) (search rules))

pub returns-in-0 : goal.returns-in-0
returns-in-0 c =
    let a = c.args in
    read_offset a.canvas a.b.now a.x a.y _ 1 c.requires.0 c.requires.1 c.offset-o.ensures (one_byte _ c.in-0.is) _ c.word.ensures

pub returns-in-1 : goal.returns-in-1
returns-in-1 c =
    let a = c.args in
    read_offset a.canvas a.b.now a.x a.y _ 2 c.requires.0 c.requires.1 c.offset-o.ensures (two_bytes _ c.in-1.is) _ c.word-in-1.ensures

pub returns-in_default : goal.returns-in_default
returns-in_default c =
    let a = c.args in
    let z = four_bytes a.canvas.format c.requires.0.known (search rules) (search rules) in
    read_offset a.canvas a.b.now a.x a.y _ 4 c.requires.0 c.requires.1 c.offset-o.ensures z _ c.word-in_default.ensures
