-- How a RES file begins, and what the record at a place says.
use Rattle.std.specs.Prelude.{Result, Ok, Err, Bool, false, cond, ◌&&◌, List, ℕ, ◌+◌, ◌*◌, ltb, eqb, length}
use Rattle.fields.specs.Fields.{u8_at, u16_at}
use Rattle.res.specs.declared.Refusal.{Refusal}
use Rattle.res.specs.declared.Refusal.TheVariants.{Res, Depth, ResType, NoIcon}
use Rattle.res.specs.declared.Icon.{Icon}
use Rattle.res.specs.declared.records.Step.{Step}
use Rattle.res.specs.declared.records.Step.TheVariants.{Here, Next}

-- "Start CE FA AD DE", and the bytes of the first record's offset; "13 RES (start, offset .. missing ..)"
unfoldable pub is_res : List ℕ → Bool
is_res f =
    cond (ltb (length f) 8) false
    (eqb (u8_at f 0) 0xCE && eqb (u8_at f 1) 0xFA && eqb (u8_at f 2) 0xAD && eqb (u8_at f 3) 0xDE)

-- "first record's offset as little-endian u16 at byte 6"
abbrev pub first_record : List ℕ → ℕ
first_record f = u16_at f 6

-- "then records of eight bytes whose first four are type, width, height, depth"
abbrev pub kind : List ℕ → ℕ → ℕ
kind f at = u8_at f at

abbrev pub width : List ℕ → ℕ → ℕ
width f at = u8_at f (at + 1)

abbrev pub height : List ℕ → ℕ → ℕ
height f at = u8_at f (at + 2)

abbrev pub depth : List ℕ → ℕ → ℕ
depth f at = u8_at f (at + 3)

-- The pixels of an icon or of a frame: "an RGB332 image" has a byte for each.
abbrev pub area : List ℕ → ℕ → ℕ
area f at = width f at * height f at

-- The icon of a record: its sides, and its pixels right behind the eight bytes.
abbrev pub icon_at : List ℕ → ℕ → Icon
icon_at f at = record { start = at + 8; width = width f at; height = height f at }

-- "Type 2 holds the pixels"; "13 RES (.. pixels missing ..)"
unfoldable pub static : List ℕ → ℕ → Result Step Refusal
static f at = cond (ltb (length f) (at + 8 + area f at)) (Err Res) (Ok (Here (icon_at f at)))

-- "type 3 holds a frame count byte and that many frames, passed over"; "13 RES (.. no frame count)"
unfoldable pub moving : List ℕ → ℕ → Result Step Refusal
moving f at = cond (ltb (length f) (at + 9)) (Err Res) (Ok (Next (at + 9 + u8_at f (at + 8) * area f at)))

-- "15 RESTYPE (a type other than 2 or 3)"
unfoldable pub by_type : List ℕ → ℕ → Result Step Refusal
by_type f at = cond (eqb (kind f at) 2) (static f at) (cond (eqb (kind f at) 3) (moving f at) (Err ResType))

-- "A record header cut short is the end.", "16 NOICON at the end"; "14 DEPTH (not 8, before the type)"
unfoldable pub step_at : List ℕ → ℕ → Result Step Refusal
step_at f at = cond (ltb (length f) (at + 8)) (Err NoIcon) (cond (eqb (depth f at) 8) (by_type f at) (Err Depth))
