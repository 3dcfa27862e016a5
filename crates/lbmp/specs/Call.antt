-- What judging and decoding answer, and what the lent words hold then.
use Rattle.std.specs.Prelude.{List, ◌++◌, Result, Ok, Err, ℕ, length, drop}
use Rattle.lbmp.specs.declared.Refusal.{Refusal}
use Rattle.lbmp.specs.declared.Image.{Image}
use Rattle.lbmp.specs.File.{header_of}
use Rattle.lbmp.specs.Faults.{Verdict, number, or_else, verdict, room_fault}
use Rattle.lbmp.specs.Image.{pixels, image, clear_of}

-- A status, the dimensions and the transparent count.
pub record Reading : Type 0 where
  pub status : ℕ
  pub width : ℕ
  pub height : ℕ
  pub clear : ℕ

abbrev pub reading : ℕ → ℕ → ℕ → ℕ → Reading
reading s w h c = record { status = s; width = w; height = h; clear = c }

-- 01's number and values of each answer; a refusal gives "dimensions and count 0".
unfoldable pub reads : Result Image Refusal → Reading
reads (Err r) = reading (number r) 0 0 0
reads (Ok i) = reading 0 i.width i.height i.clear

abbrev pub reading_of : List ℕ → Reading
reading_of f = reading 0 (header_of f).width (header_of f).height (clear_of f)

abbrev pub ruled : Verdict → List ℕ → Reading
ruled (Ok u) f = reading_of f
ruled (Err r) f = reading (number r) 0 0 0

-- Judging: everything but ROOM.
unfoldable pub judgement : List ℕ → Reading
judgement f = ruled (verdict f) f

pub record Outcome : Type 0 where
  pub answer : Reading
  pub words : List ℕ

abbrev pub outcome : Reading → List ℕ → Outcome
outcome a ws = record { answer = a; words = ws }

-- "Words past the last pixel are not written"; a refusal leaves "output as before".
abbrev pub decoded : Verdict → List ℕ → List ℕ → Outcome
decoded (Ok u) f out = outcome (reading_of f) (image f ++ drop (pixels f) out)
decoded (Err r) f out = outcome (reading (number r) 0 0 0) out

unfoldable pub decoding : List ℕ → List ℕ → Outcome
decoding f out = decoded (or_else (verdict f) (room_fault (header_of f) (length out))) f out
