-- Which files are refused: the first fault in the order of the tests, not the lowest number.
use Rattle.std.specs.Prelude.{Bool, not, cond, ◌||◌, List, Option, Some, None, Result, Ok, Err, ℕ, ◌+◌, ◌*◌, ltb, eqb, length}
use Rattle.lbmp.specs.declared.Refusal.{Refusal}
use Rattle.lbmp.specs.declared.Refusal.TheVariants.{Invalid, BadType, Room}
use Rattle.lbmp.specs.declared.header.Header.{Header}
use Rattle.lbmp.specs.declared.header.Kind.{Kind}
use Rattle.lbmp.specs.declared.header.Kind.TheVariants.{Greys, Rgb332, Rgb565}
use Rattle.lbmp.specs.File.{header_of, kind_of, expected_size, pixel_size, mask_size}

-- "10 INVALID", "11 TYPE", "12 ROOM"
unfoldable pub number : Refusal → ℕ
number Invalid = 10
number BadType = 11
number Room = 12

-- What a test says of a file: nothing against it, or why it is refused.
abbrev pub Verdict : Type 0
Verdict = Result (Unit {0}) Refusal

abbrev pub sound : Verdict
sound = Ok tt

abbrev pub invalid : Bool → Verdict
invalid t = cond t (Err Invalid) sound

-- A number "beyond u32"
abbrev pub beyond : ℕ → Verdict
beyond n = invalid (ltb 4294967295 n)

-- "fewer than 24 bytes, INVALID"
unfoldable pub short_fault : ℕ → Verdict
short_fault n = invalid (ltb n 24)

-- "width*height beyond u32, INVALID"
unfoldable pub area_fault : Header → Verdict
area_fault h = beyond (h.width * h.height)

-- "type 16 with twice that beyond u32, INVALID"
unfoldable pub twice_fault : Option Kind → ℕ → Verdict
twice_fault (Some Greys) n = sound
twice_fault (Some Rgb332) n = sound
twice_fault (Some Rgb565) n = beyond (2 * n)
twice_fault None n = sound

-- "unknown type, TYPE"
unfoldable pub kind_fault : Option Kind → Verdict
kind_fault (Some Greys) = sound
kind_fault (Some Rgb332) = sound
kind_fault (Some Rgb565) = sound
kind_fault None = Err BadType

-- The first of two faults.
unfoldable pub or_else : Verdict → Verdict → Verdict
or_else (Ok u) d = d
or_else (Err r) d = Err r

-- "a zero side, size not the expected one, or mask above 1, INVALID"
unfoldable pub field_fault : Header → Verdict
field_fault h =
    invalid
    (eqb h.width 0 || eqb h.height 0 || not (eqb h.size (expected_size (kind_of h.kind) h.width h.height))
    || ltb 1 h.mask)

-- "size doubled beyond u32 for type 2, INVALID"
unfoldable pub planes_fault : Option Kind → ℕ → Verdict
planes_fault (Some Greys) s = beyond (2 * s)
planes_fault (Some Rgb332) s = sound
planes_fault (Some Rgb565) s = sound
planes_fault None s = sound

-- "pixel or mask bytes missing, INVALID"
unfoldable pub bytes_fault : Header → ℕ → Verdict
bytes_fault h n = invalid (ltb n (24 + pixel_size h + mask_size h))

-- "In order: .." "Bytes after the image and sides above 32,767 are allowed here.": no test looks for them.
unfoldable pub header_verdict : Header → ℕ → Verdict
header_verdict h n =
    or_else (area_fault h)
    (or_else (twice_fault (kind_of h.kind) (h.width * h.height))
    (or_else (kind_fault (kind_of h.kind)) (or_else (field_fault h)
    (or_else (planes_fault (kind_of h.kind) h.size) (bytes_fault h n)))))

unfoldable pub verdict : List ℕ → Verdict
verdict f = or_else (short_fault (length f)) (header_verdict (header_of f) (length f))

-- "then ROOM": "output has fewer words than pixels"
unfoldable pub room_fault : Header → ℕ → Verdict
room_fault h n = cond (ltb n (h.width * h.height)) (Err Room) sound
