-- Which canvases are refused, and by which number.
use Rattle.std.specs.Prelude.{ℕ, Bool, cond, not, ◌||◌, List, [], ◌∷◌, ◌==◌, nat_lt, Result, Ok, Err}
use Rattle.pixels.specs.declared.Canvas.{Canvas}
use Rattle.canvas.specs.declared.Refusal.{Refusal}
use Rattle.canvas.specs.declared.Refusal.TheVariants.{Format, Size, Length, Source, Angle, Shape, Row, Rule}
use Rattle.pixels.specs.Bytes.{extent}

-- 01's number of each refusal, and 02's.
unfoldable pub number : Refusal → ℕ
number Format = 1
number Size = 2
number Length = 3
number Source = 4
number Angle = 5
number Shape = 6
number Row = 18
number Rule = 23

-- That there is no fault, or which.
abbrev pub Verdict : Type 0
Verdict = Result (Unit {0}) Refusal

-- The fault, where the test holds.
abbrev pub fault : Bool → Refusal → Verdict
fault t r = cond t (Err r) (Ok tt)

-- "1 FORMAT | format above 4"
unfoldable pub format_fault : Canvas → Verdict
format_fault v = fault (nat_lt 4 v.format) Format

-- "23 RULE for a number other than 1 or 2, after FORMAT"
unfoldable pub rule_fault : Canvas → Verdict
rule_fault v = fault (not (v.rule == 1 || v.rule == 2)) Rule

-- "2 SIZE | width or height above 32,767"
unfoldable pub size_fault : Canvas → Verdict
size_fault v = fault (nat_lt 32767 v.width || nat_lt 32767 v.height) Size

-- "18 ROW if it is below the width or above 32,767"
unfoldable pub row_fault : Canvas → Verdict
row_fault v = fault (nat_lt v.row v.width || nat_lt 32767 v.row) Row

-- "3 LENGTH | lent length is not the exact byte size"; "LENGTH now compares against row length times height."
unfoldable pub length_fault : Canvas → ℕ → Verdict
length_fault v n = fault (not (n == extent v)) Length

-- The first of two faults, and of many.
unfoldable pub or_else : Verdict → Verdict → Verdict
or_else (Ok u) d = d
or_else (Err r) d = Err r

unfoldable pub first : List Verdict → Verdict
first [] = Ok tt
first (d ∷ ds) = or_else d (first ds)

-- Where several hold, the first in this order is given: RULE "after FORMAT", "18 ROW .., between SIZE and LENGTH", and then the call's
-- own.
unfoldable pub verdict : Canvas → ℕ → Verdict
verdict v n = first (format_fault v ∷ rule_fault v ∷ size_fault v ∷ row_fault v ∷ length_fault v n ∷ [])

-- "4 SOURCE | `draw`: the source fails any of 1 to 3"; "a source's bad row is SOURCE"; so is its rule: "a source's is SOURCE".
abbrev pub as_source : Verdict → Verdict
as_source (Ok u) = Ok tt
as_source (Err r) = Err Source
