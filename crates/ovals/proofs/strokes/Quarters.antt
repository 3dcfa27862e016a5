-- The quarters of a round rectangle's corners, two and two, after its edges.
use Rattle.std.proofs.Common.{◌≡◌, ℕ, suc, ◌+◌, ◌*◌, ◌≤◌, max, Bool, true, false, not, ◌++◌, length, ℤ, pos, refl, append_assoc, arith, length-append}
use native.Mathlib.Nat.{min-le_right}
use lib.Ieee.{Float, fin, binary32, of_int}
use Rattle.curves.specs.declared.oval.Oval.{Oval}
use Rattle.floats.specs.Degrees.{radians_of}
use Rattle.angle.specs.Stroke.{radians}
use Rattle.curves.specs.declared.corners.Corners.{Corners}
use Rattle.curves.specs.Strokes.{steps_of}
use Rattle.curves.specs.Corners.{inset_of, corner_of}
use Rattle.pixels.specs.declared.Canvas.{Canvas}
use Rattle.canvas.specs.declared.Clip.{Clip}
use Rattle.canvas.specs.Plot.{inks}
use Rattle.canvas.specs.Boxes.{edges}
use Rattle.canvas.specs.Walk.{Work, Did}
use Rattle.canvas.proofs.boxes.Chains.{then, did_le}
use Rattle.ovals.specs.Strokes.{stroke, quarters}
use Rattle.ovals.specs.Sift.{half}
use Rattle.ovals.proofs.strokes.Stroking.{from-length, few_steps}

pub stroke-le : (v : Canvas) (o : Oval) (start sweep : Float) → v.width ≤ 32767 → v.height ≤ 32767 → length (stroke v o start sweep) ≤ 1048545
unfolding stroke steps_of
stroke-le v o start sweep w h =
    let n = steps_of o sweep v.width v.height in
    omega (arith, from-length o start sweep n 0 (suc n), few_steps v n w h (min-le_right _ (16 * max (v.width + v.height) 1)))

-- ---- the four quarters

abbrev whole : ℕ → Float
whole n = of_int binary32 (pos n)

pub nought : fin false 0 (pos 0) ≡ whole 0
unfolding of_int
nought = refl

pub ninety : fin false 45 (pos 1) ≡ whole 90
unfolding of_int
ninety = refl

pub one_eighty : fin false 45 (pos 2) ≡ whole 180
unfolding of_int
one_eighty = refl

pub two_seventy : fin false 135 (pos 1) ≡ whole 270
unfolding of_int
two_seventy = refl

module _ {v : Canvas} {c : Clip} (f : ℕ → ℕ) (k : Corners) where
  -- two quarters, by the ovals and angles that the code works out
  pub half_did : (low : Bool) (a b : Float) (o u : Oval) (x y q : Float) {w w1 w2 : Work} → o ≡ corner_of k (not low) low → u ≡ corner_of k low low → x ≡ a → y ≡ b → q ≡ radians (pos 90)
      → Did v c (inks f (stroke v o x q)) w w1 → Did v c (inks f (stroke v u y q)) w1 w2 → Did v c (inks f (half v k low a b)) w w2
  half_did low a b o u x y q eo eu ea eb eq d e =
      then f (stroke v (corner_of k (not low) low) a (radians (pos 90))) (stroke v (corner_of k low low) b (radians (pos 90))) (rw (eo, ea, eq) at d) (rw (eu, eb, eq) at e)

  pub half_le : (low : Bool) (a b : Float) {w w' : Work} → v.width ≤ 32767 → v.height ≤ 32767 → Did v c (inks f (half v k low a b)) w w' → w'.tally.landed ≤ w.tally.landed + 2097090
  half_le low a b l m d =
      let s1 = stroke v (corner_of k (not low) low) a (radians (pos 90)) in
      let s2 = stroke v (corner_of k low low) b (radians (pos 90)) in
      omega (arith, did_le f (s1 ++ s2) d, length-append s1 s2, stroke-le v (corner_of k (not low) low) a (radians (pos 90)) l m, stroke-le v (corner_of k low low) b (radians (pos 90)) l m)

  pub quarters_did : (x0 x1 x2 x3 : Float) {w w1 w2 : Work} → x0 ≡ whole 0 → x1 ≡ whole 90 → x2 ≡ whole 180 → x3 ≡ whole 270
      → Did v c (inks f (half v k false (radians_of x0) (radians_of x1))) w w1 → Did v c (inks f (half v k true (radians_of x2) (radians_of x3))) w1 w2 → Did v c (inks f (quarters v k)) w w2
  unfolding quarters
  quarters_did x0 x1 x2 x3 e0 e1 e2 e3 d e =
      let q = radians (pos 90) in
      let s1 = stroke v (corner_of k true false) (radians (pos 0)) q in
      let s2 = stroke v (corner_of k false false) (radians (pos 90)) q in
      let s3 = stroke v (corner_of k false true) (radians (pos 180)) q in
      let s4 = stroke v (corner_of k true true) (radians (pos 270)) q in
      rw (← append_assoc s1 s2 (s3 ++ s4)) (then f (s1 ++ s2) (s3 ++ s4) (rw (e0, e1) at d) (rw (e2, e3) at e))

-- edges, and then quarters
pub rim_did : {v : Canvas} {c : Clip} (f : ℕ → ℕ) (k : Corners) (x y : ℤ) (w h rx ry : ℕ) {a a1 a2 : Work} → rx ≡ inset_of k.rx → ry ≡ inset_of k.ry
    → Did v c (inks f (edges v x y w h rx ry)) a a1 → Did v c (inks f (quarters v k)) a1 a2 → Did v c (inks f (edges v x y w h (inset_of k.rx) (inset_of k.ry) ++ quarters v k)) a a2
rim_did {v} f k x y w h rx ry ex ey d e = then f (edges v x y w h (inset_of k.rx) (inset_of k.ry)) (quarters v k) (rw (ex, ey) at d) e
