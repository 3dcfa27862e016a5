-- What 01 asks of angles, of accepted calls: every point of an arc and of a round outline's corners is drawn with a sine and a cosine within 2 ^ -20, and every arctangent
-- that a pie asks for meets 01's bounds. Assumes nothing.
use Rattle.std.proofs.Common.{◌≡◌, ℕ, zero, suc, ◌+◌, ◌*◌, ◌<◌, ◌≤◌, min, max, Bool, true, false, cond, ◌&&◌, ◌||◌, T, eqb, ltb, List, [], ◌∷◌, ◌++◌, length, ℤ, pos, negsuc, ◌+ℤ◌, nat_abs, refl, arith, lit≤, ltb-false, Ok}
use lib.Signed.{le_z, lt_z}
use lib.Ieee.{Float, binary32, neg, add, mul, lt, fits}
use lib.Ieee.Fits.{add-fits}
use Rattle.words.specs.declared.Color.{Color}
use Rattle.words.proofs.Either.{neither}
use Rattle.floats.specs.Size.{one}
use Rattle.angle.specs.Meaning.{Close, parts, sine, cosine}
use Rattle.angle.specs.Sine.{sine_of, cosine_of, sine_cosine_of}
use Rattle.angle.specs.Arctangent.{arctangent_of, Arctangent}
use Rattle.angle.specs.Stroke.{radians, stroke_angle}
use Rattle.angle.proofs.Stroke.{stroke_up_to_26}
use Rattle.angle.proofs.sine.Within.{sine_close, cosine_close}
use Rattle.angle.proofs.arctangent.Asked.{asked}
use Rattle.curves.specs.declared.oval.Oval.{Oval}
use Rattle.curves.specs.declared.corners.Corners.{Corners}
use Rattle.curves.specs.Oval.{offset, oval_of}
use Rattle.curves.specs.Corners.{corner_of}
use Rattle.curves.specs.Strokes.{steps_of, spot_of, stroke_point}
use Rattle.curves.specs.Pies.{Inside}
use Rattle.curves.proofs.Domain.{in_domain}
use Rattle.pixels.specs.declared.Canvas.{Canvas}
use Rattle.canvas.specs.declared.Clip.{Clip}
use Rattle.canvas.specs.declared.Refusal.TheVariants.{Angle}
use Rattle.canvas.specs.Faults.{or_else, verdict}
use Rattle.canvas.specs.Clip.{within}
use Rattle.canvas.specs.Plot.{Point}
use Rattle.canvas.specs.Call.{fault_of}
use Rattle.canvas.proofs.faults.Verdicts.{passes, both_sound, sized}
use Rattle.ovals.specs.Faults.{outside, angle_fault, shape_fault, arc_fault}
use Rattle.ovals.specs.Strokes.{point_of, stroke_from, stroke, arc, quarters}
use Rattle.ovals.specs.Call.{draw_arc, draw_round_rect, fill_arc}
use Rattle.ovals.proofs.faults.Bounds.{arc-known}

-- each of a list's points is such a one
pub data Each (Good : Point → Type 0) : List Point → Type 0 where
  none : Each Good []
  also : {p : Point} {ps : List Point} → Good p → Each Good ps → Each Good (p ∷ ps)

append : {Good : Point → Type 0} {ps qs : List Point} → Each Good ps → Each Good qs → Each Good (ps ++ qs)
append none b = b
append (also o a) b = also o (append a b)

every : {Good Fine : Point → Type 0} → ((p : Point) → Good p → Fine p) → {ps : List Point} → Each Good ps → Each Fine ps
every f none = none
every f (also {p} o a) = also (f p o) (every f a)

-- a point of a stroke, by the sine and the cosine of an angle, both as 01 asks
pub record Drawn (o : Oval) (p : Point) : Type 0 where
  pub angle : Float
  pub is : p ≡ point_of (spot_of o (sine_cosine_of angle))
  pub sine-near : Close (sine_of angle) (sine (parts angle))
  pub cosine-near : Close (cosine_of angle) (cosine (parts angle))

-- ---- strokes
steps_few : (o : Oval) (sweep : Float) (v : Canvas) → v.width ≤ 32767 → v.height ≤ 32767 → (0 < steps_of o sweep v.width v.height) × (steps_of o sweep v.width v.height ≤ 16 * 65534)
unfolding steps_of
steps_few o sweep v a b = go _ v.width v.height a b
  where
    go : (n w h : ℕ) → w ≤ 32767 → h ≤ 32767 → (0 < min (max n 1) (16 * max (w + h) 1)) × (min (max n 1) (16 * max (w + h) 1) ≤ 16 * 65534)
    go n w h a b = (omega arith, omega arith)

module _ (o : Oval) (start sweep : ℤ) (s1 : nat_abs start ≤ 720) (s2 : nat_abs sweep ≤ 720) (steps : ℕ) (some : 0 < steps) (few : steps ≤ 16 * 65534) where
  point : (i : ℕ) → i ≤ steps → Drawn o (point_of (stroke_point o (radians start) (radians sweep) i steps))
  unfolding stroke_point
  point i h =
      let t = stroke_angle (radians start) (radians sweep) i steps in
      let u = stroke_up_to_26 start sweep i steps s1 s2 h some few in
      let f : T (fits binary32 t) = unfold stroke_angle in add-fits binary32 _ _ in
      record { angle = t; is = refl; sine-near = sine_close t f u; cosine-near = cosine_close t f u }

  points : (i n : ℕ) → i + n ≤ suc steps → Each (Drawn o) (stroke_from o (radians start) (radians sweep) steps i n)
  unfolding stroke_from
  points i zero h = none
  points i (suc n) h = also (point i (omega arith)) (points (suc i) n (omega arith))

stroke-drawn : (v : Canvas) (o : Oval) (start sweep : ℤ) → v.width ≤ 32767 → v.height ≤ 32767 → nat_abs start ≤ 720 → nat_abs sweep ≤ 720 → Each (Drawn o) (stroke v o (radians start) (radians sweep))
unfolding stroke
stroke-drawn v o start sweep a b s1 s2 =
    let n = steps_few o (radians sweep) v a b in
    points o start sweep s1 s2 (steps_of o (radians sweep) v.width v.height) n.0 n.1 0 (suc (steps_of o (radians sweep) v.width v.height)) (omega arith)

-- ---- the angles that ANGLE lets pass
in_turns : (a : ℤ) → outside (negsuc 719) (pos 720) a ≡ false → nat_abs a ≤ 720
in_turns (pos n) e = ltb-false 720 n e
in_turns (negsuc n) e = let p = neither (ltb 719 n) false e in omega (arith, ltb-false 719 n p.0)

turns : (x y : ℤ) (w h : ℕ) (start sweep : ℤ) → arc_fault x y w h start sweep ≡ Ok tt → (nat_abs start ≤ 720) × (nat_abs sweep ≤ 720)
unfolding arc_fault angle_fault
turns x y w h start sweep e =
    let f = (both_sound (angle_fault start sweep) (shape_fault x y w h) e).0 in
    let p = neither (outside (negsuc 719) (pos 720) start) (outside (negsuc 719) (pos 720) sweep) (passes _ Angle f) in
    (in_turns start p.0, in_turns sweep p.1)

-- ---- an accepted arc
pub arc-drawn : (v : Canvas) (b : List ℕ) (x y : ℤ) (w h : ℕ) (start sweep : ℤ) (color : Color) (clip : Clip)
    → or_else (verdict v (length b)) (fault_of (draw_arc x y w h start sweep color clip)) ≡ Ok tt → Each (Drawn (oval_of x y w h)) (arc v x y w h start sweep)
unfolding arc
arc-drawn v b x y w h start sweep color clip e =
    let f = both_sound (verdict v (length b)) (arc_fault x y w h start sweep) e in
    let z = sized v b f.0 in
    let t = turns x y w h start sweep f.1 in
    go (eqb w 0 || eqb h 0) (stroke-drawn v (oval_of x y w h) start sweep z.wide z.high t.0 t.1)
  where
    go : (e : Bool) → Each (Drawn (oval_of x y w h)) (stroke v (oval_of x y w h) (radians start) (radians sweep))
        → Each (Drawn (oval_of x y w h)) (cond e [] (stroke v (oval_of x y w h) (radians start) (radians sweep)))
    go true a = none
    go false a = a

-- ---- the corners of an accepted round outline
pub record DrawnCorner (c : Corners) (p : Point) : Type 0 where
  pub right : Bool
  pub bottom : Bool
  pub drawn : Drawn (corner_of c right bottom) p

pub quarters-drawn : (v : Canvas) (b : List ℕ) (x y : ℤ) (w h aw ah : ℕ) (color : Color) (clip : Clip)
    → or_else (verdict v (length b)) (fault_of (draw_round_rect x y w h aw ah color clip)) ≡ Ok tt → (c : Corners) → Each (DrawnCorner c) (quarters v c)
unfolding quarters
quarters-drawn v b x y w h aw ah color clip e c =
    append (one true false (pos 0) (lit≤ tt)) (append (one false false (pos 90) (lit≤ tt)) (append (one false true (pos 180) (lit≤ tt)) (one true true (pos 270) (lit≤ tt))))
  where
    one : (right bottom : Bool) (start : ℤ) → nat_abs start ≤ 720 → Each (DrawnCorner c) (stroke v (corner_of c right bottom) (radians start) (radians (pos 90)))
    one right bottom start s =
        let z = sized v b (both_sound (verdict v (length b)) (shape_fault x y w h) e).0 in
        every (λ p d. record { right = right; bottom = bottom; drawn = d }) (stroke-drawn v (corner_of c right bottom) start (pos 90) z.wide z.high s (lit≤ tt))

-- ---- an accepted pie, at a pixel of its box that is no nearer to the centre than 1
both : (a b : Bool) → (a && b) ≡ true → (a ≡ true) × (b ≡ true)
both true b e = (refl, e)
both false b e = absurd (let z : ◌≡◌ {A = ℕ} 0 1 = cc in omega arith)

inside : (x : ℤ) (w n i : ℕ) → nat_abs x ≤ 32768 → w ≤ 32767 → n ≤ 32767 → i < n → within x w (pos i) ≡ true → Inside x w i
unfolding within
inside x w n i a b c l e = let p = both (le_z x (pos i)) (lt_z (pos i) (x +ℤ pos w)) e in record { corner = a; side = b; place = omega arith; from = p.0; to = p.1 }

pub pie-asked : (v : Canvas) (b : List ℕ) (x y : ℤ) (w h : ℕ) (start sweep : ℤ) (color : Color) (clip : Clip)
    → or_else (verdict v (length b)) (fault_of (fill_arc x y w h start sweep color clip)) ≡ Ok tt
    → (i j : ℕ) → i < v.width → j < v.height → within x w (pos i) ≡ true → within y h (pos j) ≡ true
    → let dx = offset (pos i) x w in let dy = offset (pos j) y h in lt (add binary32 (mul binary32 dx dx) (mul binary32 dy dy)) one ≡ false → Arctangent (neg dy) dx (arctangent_of (neg dy) dx)
pie-asked v b x y w h start sweep color clip e i j hi hj xi yj far =
    let f = both_sound (verdict v (length b)) (arc_fault x y w h start sweep) e in
    let z = sized v b f.0 in
    let s = arc-known x y w h start sweep f.1 in
    asked (neg (offset (pos j) y h)) (offset (pos i) x w)
    (in_domain x y w h i j (inside x w v.width i s.left s.wide z.wide hi xi) (inside y h v.height j s.top s.high z.high hj yj) far)
