-- When an arc or a round outline is nothing, a plain outline, or strokes.
use Rattle.std.proofs.Common.{◌≡◌, ℕ, ◌-◌, Bool, true, false, cond, ◌||◌, eqb, List, [], ◌++◌, ℤ, pos, ◌+ℤ◌, refl, w32, SFits, to_z, of_z}
use lib.Ieee.{Float, binary32, of_int}
use mir.ValLaws.{to_z-of_z}
use Rattle.floats.specs.Degrees.{radians_of}
use Rattle.curves.specs.declared.oval.Oval.{Oval}
use Rattle.curves.specs.declared.corners.Corners.{Corners}
use Rattle.curves.specs.Oval.{oval_of}
use Rattle.curves.specs.Corners.{radius_of, inset_of, corners_of}
use Rattle.pixels.specs.declared.Canvas.{Canvas}
use Rattle.canvas.specs.Plot.{Point}
use Rattle.canvas.specs.Boxes.{fill, border, outline}
use Rattle.ovals.specs.Strokes.{stroke, arc, quarters, round_outline}
use Rattle.canvas.specs.Boxes.{edges}
use Rattle.canvas.specs.Walk.{lowered}
use Rattle.words.proofs.Either.{neither}

-- ---- arcs

module _ (v : Canvas) (x y : ℤ) (w h : ℕ) (start sweep : ℤ) where
  pub arc-none : (eqb w 0 || eqb h 0) ≡ true → arc v x y w h start sweep ≡ []
  unfolding arc
  arc-none e = rw e refl

  pub arc-stroke : (o : Oval) (a b c d : Float) → SFits w32 x → SFits w32 y → SFits w32 start → SFits w32 sweep → (eqb w 0 || eqb h 0) ≡ false
      → o ≡ oval_of (to_z w32 (of_z w32 x)) (to_z w32 (of_z w32 y)) w h
      → c ≡ of_int binary32 (to_z w32 (of_z w32 start)) → a ≡ radians_of c → d ≡ of_int binary32 (to_z w32 (of_z w32 sweep)) → b ≡ radians_of d → arc v x y w h start sweep ≡ stroke v o a b
  unfolding arc
  arc-stroke o a b c d sx sy ss sw l eo ec ea ed eb =
      let po : o ≡ oval_of x y w h = rw (to_z-of_z w32 x sx, to_z-of_z w32 y sy) at eo in
      let pc : c ≡ of_int binary32 start = rw (to_z-of_z w32 start ss) at ec in
      let pd : d ≡ of_int binary32 sweep = rw (to_z-of_z w32 sweep sw) at ed in
      rw (l, po, ea, eb, pc, pd) refl

-- ---- round outlines

module _ (v : Canvas) (x y : ℤ) (w h aw ah : ℕ) where
  module _ (p q : ℕ) (a : lowered p ≡ x) (b : lowered q ≡ y) where
    pub outline-plain : ((eqb w 0 || eqb h 0) || (eqb aw 0 || eqb ah 0)) ≡ true → round_outline v x y w h aw ah ≡ outline v (lowered p) (lowered q) w h
    unfolding round_outline outline
    outline-plain e =
        rw (a, b)
        (once (eqb w 0 || eqb h 0) (eqb aw 0 || eqb ah 0) (cond (eqb w 1 || eqb h 1) (fill v x y w h) (border v x y w h))
        (edges v x y w h (inset_of (radius_of aw w)) (inset_of (radius_of ah h)) ++ quarters v (corners_of x y (x +ℤ pos (w - 1)) (y +ℤ pos (h - 1)) (radius_of aw w) (radius_of ah h))) e)
      where
        once : (s t : Bool) (l m : List Point) → (s || t) ≡ true → cond s [] (cond t (cond s [] l) m) ≡ cond s [] l
        once true t l m f = refl
        once false t l m f = rw f refl

    pub outline_round : (k : Corners) → k ≡ corners_of x y (x +ℤ pos (w - 1)) (y +ℤ pos (h - 1)) (radius_of aw w) (radius_of ah h) → ((eqb w 0 || eqb h 0) || (eqb aw 0 || eqb ah 0)) ≡ false
        → round_outline v x y w h aw ah ≡ edges v (lowered p) (lowered q) w h (inset_of k.rx) (inset_of k.ry) ++ quarters v k
    unfolding round_outline corners_of
    outline_round k e c = let n = neither (eqb w 0 || eqb h 0) (eqb aw 0 || eqb ah 0) c in rw (n.0, n.1, a, b, e) refl
