-- The first static icon of a RES file, the part of the file with its pixels, and the numbers that a caller gets back.
use Rattle.std.specs.Prelude.{Result, Ok, Err, cond, List, [], ℕ, zero, suc, ◌*◌, length, take, drop}
use Rattle.res.specs.declared.Refusal.{Refusal}
use Rattle.res.specs.declared.Refusal.TheVariants.{Res, Depth, ResType, NoIcon}
use Rattle.res.specs.declared.Icon.{Icon}
use Rattle.res.specs.declared.records.Step.{Step}
use Rattle.res.specs.declared.records.Step.TheVariants.{Here, Next}
use Rattle.res.specs.Record.{is_res, first_record, step_at}

-- "Refusals: 13 RES .., 14 DEPTH .., 15 RESTYPE .., 16 NOICON"
unfoldable pub number : Refusal → ℕ
number Res = 13
number Depth = 14
number ResType = 15
number NoIcon = 16

unfoldable pub follow : Result Step Refusal → (ℕ → Result Icon Refusal) → Result Icon Refusal
follow (Ok (Here i)) go = Ok i
follow (Ok (Next k)) go = go k
follow (Err r) go = Err r

-- "The search stops on the icon, the first fault or the end." From a place on, over n records; of none it is at the end.
unfoldable pub search : ℕ → List ℕ → ℕ → Result Icon Refusal
search zero f at = Err NoIcon
search (suc n) f at = follow (step_at f at) (search n f)

-- "the first static icon of a RES file". A file has fewer records than bytes: `no_further` in proofs/Search says that no
-- file's answer hangs on the number of records that are followed here.
unfoldable pub first_icon : List ℕ → Result Icon Refusal
first_icon f = cond (is_res f) (search (suc (length f)) f (first_record f)) (Err Res)

-- "the part of the file with the pixels"; of a refusal "an empty part"
unfoldable pub part : List ℕ → Result Icon Refusal → List ℕ
part f (Err r) = []
part f (Ok i) = take (i.width * i.height) (drop i.start f)

unfoldable pub icon_pixels : List ℕ → List ℕ
icon_pixels f = part f (first_icon f)

-- A status, where the part starts in the file, and the dimensions.
pub record Reading : Type 0 where
  pub status : ℕ
  pub start : ℕ
  pub width : ℕ
  pub height : ℕ

abbrev pub reading : ℕ → ℕ → ℕ → ℕ → Reading
reading s at w h = record { status = s; start = at; width = w; height = h }

-- 02's number and values of each answer; a refusal gives "dimensions 0 and an empty part".
unfoldable pub reads : Result Icon Refusal → Reading
reads (Err r) = reading (number r) 0 0 0
reads (Ok i) = reading 0 i.start i.width i.height
