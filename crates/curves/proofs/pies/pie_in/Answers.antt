-- `pie_in` meets its contract: its parts are those of the definition. Assumes nothing.
use Rattle.std.proofs.Common.{◌≡◌, ℕ, ℤ, Option, ◌∙◌, w32, SFits, to_z, of_z}
use mir.ValLaws.{to_z-of_z}
use lib.Ieee.{Float, binary32, of_int}
use Rattle.curves.specs.declared.oval.Oval.{Oval}
use Rattle.curves.specs.declared.pies.Sweep.{Sweep}
use Rattle.curves.specs.declared.pies.Degrees.{Degrees}
use Rattle.curves.specs.declared.pies.Pie.{Pie}
use Rattle.curves.specs.Oval.{oval_of}
use Rattle.curves.specs.Pies.{sweep_of, degrees_of, pie_of}
use Rattle.curves.proofs.Signs.{as_given}
use Rattle.curves.proofs.pies.pie_in.Goals as goal

abbrev pie : Oval → Sweep → Option Degrees → Pie
pie o s d = record { oval = o; sweep = s; degrees = d }

made : (x y : ℤ) (w h : ℕ) (start sweep : ℤ) (o : Oval) (from by : Float) (s : Sweep) (d : Option Degrees) → o ≡ oval_of x y w h → from ≡ of_int binary32 start → by ≡ of_int binary32 sweep
    → s ≡ sweep_of from by → d ≡ degrees_of s → pie o s d ≡ pie_of x y w h start sweep
unfolding pie_of
made x y w h start sweep o from by s d e k l m n = rw (n, m, e, k, l)

given : (x y : ℤ) (w h : ℕ) (o : Oval) → SFits w32 x → SFits w32 y → o ≡ oval_of (to_z w32 (of_z w32 x)) (to_z w32 (of_z w32 y)) w h → o ≡ oval_of x y w h
given x y w h o s t e = e ∙ rw (to_z-of_z w32 x s, to_z-of_z w32 y t)

pub returns : goal.returns
returns c =
    let a = c.args in
    let f = c.ranges in
    let oval = c.oval_in-oval in
    let from = c.nearest_i32_to_f32-from in
    let by = c.nearest_i32_to_f32 in
    let s = c.sweep_of-sweep in
    made a.x a.y a.w a.h a.start a.sweep oval.result from.result by.result s.result c.degrees_of-degrees.result
    (given a.x a.y a.w a.h oval.result f.x f.y oval.ensures)
    (as_given a.start from.result f.start from.ensures) (as_given a.sweep by.result f.sweep by.ensures) s.ensures c.degrees_of-degrees.ensures
