-- What lands of a sieve, and the sieves of pies and round fills.
use Rattle.std.proofs.Common.{◌≡◌, ℕ, suc, ◌+◌, ◌-◌, ◌<◌, ◌≤◌, Bool, true, false, cond, ◌&&◌, ◌||◌, eqb, List, [], ◌∷◌, length, ℤ, pos, negsuc, ◌+ℤ◌, nat_abs, sym, refl, ap, ◌∙◌, ap₂, arith, w32, SFits, to_z, of_z, le-ltb, lt-ltb}
use mathlib.Core.List.{flat_map}
use native.Mathlib.Decide.{dec_lt}
use lib.Ieee.{Float}
use lib.IntN.{sub_ℕ}
use mir.ValLaws.{to_z-of_z}
use Rattle.curves.specs.declared.corners.Corners.{Corners}
use Rattle.curves.specs.Corners.{radius_of, corners_of, in_round}
use Rattle.curves.specs.Pies.{in_pie}
use Rattle.pixels.specs.declared.Canvas.{Canvas}
use Rattle.canvas.specs.declared.Clip.{Clip}
use Rattle.ovals.specs.Faults.{Shaped}
use Rattle.canvas.specs.Plot.{Point, at, Plot, inks, hits}
use Rattle.pixels.specs.Hits.{Hit}
use Rattle.canvas.specs.Clip.{within}
use Rattle.canvas.specs.Boxes.{side, fill}
use Rattle.pixels.specs.Rows.{run, mark, flat}
use Rattle.ovals.specs.Curves.{sieve, pie, round_fill}
use Rattle.canvas.specs.Walk.{lowered, Cut, Work, Fits, Ready, Did}
use Rattle.ovals.specs.Sift.{sift, sifted, land}
use Rattle.canvas.proofs.plot.Draws.{did_none}
use Rattle.canvas.proofs.plot.Paints.{drawn-is}
use Rattle.canvas.proofs.boxes.Boxes.{inks_each, spot_hit, pixels-hits, cut_run, fill_none, pixels-le, fill-le}

-- ---- what lands

module _ (v : Canvas) (c : Clip) (t : ℕ → ℕ → Bool) (f : ℕ → ℕ) where
  abbrev pixel : ℕ → ℕ → List Plot
  pixel i j = inks f (cond (t i j) (at (pos i) (pos j) ∷ []) [])

  pixel-hit : (i j : ℕ) → i < v.width → j < v.height
      → hits v c (pixel i j) ≡ cond (within c.x c.width (pos i) && within c.y c.height (pos j)) (sift t f j i) []
  unfolding sift inks hits
  pixel-hit i j hi hj = go (t i j)
    where
      none : (b : Bool) → [] ≡ cond {A = List Hit} b [] []
      none true = refl
      none false = refl

      go : (a : Bool) → hits v c (inks f (cond a (at (pos i) (pos j) ∷ []) []))
          ≡ cond (within c.x c.width (pos i) && within c.y c.height (pos j)) (cond a (mark (flat f) j i) []) []
      go true = spot_hit v c (flat f) i j hi hj
      go false = none (within c.x c.width (pos i) && within c.y c.height (pos j))

  -- the overlap that the code walks
  module _ (p q w h : ℕ) (s : SFits w32 c.x) (r : SFits w32 c.y) (x0 x1 y0 y1 : ℕ)
      (xs : Cut (p - 2147483648) (p + w - 2147483648) (to_z w32 (of_z w32 c.x)) c.width v.width x0 x1)
      (ys : Cut (q - 2147483648) (q + h - 2147483648) (to_z w32 (of_z w32 c.y)) c.height v.height y0 y1) where
    pub sieve-hits : hits v c (inks f (sieve t (side (lowered p) w v.width) (side (lowered q) h v.height))) ≡ sifted t f (run x0 (x1 - x0)) (run y0 (y1 - y0))
    unfolding sieve
    sieve-hits =
        ap (hits v c)
        (inks_each f _ (λ j. flat_map (λ i. pixel i j) (side (lowered p) w v.width)) (side (lowered q) h v.height)
        (λ j. inks_each f (λ i. cond (t i j) (at (pos i) (pos j) ∷ []) []) (λ i. pixel i j) (side (lowered p) w v.width) (λ i. refl)))
        ∙ pixels-hits v c pixel (λ i j. sift t f j i) pixel-hit (λ i. within (lowered p) w (pos i)) (λ j. within (lowered q) h (pos j))
        ∙ ap₂ (λ (l m : List ℕ). sifted t f l m) (sym (cut_run p w c.x c.width v.width x0 x1 s xs)) (sym (cut_run q h c.y c.height v.height y0 y1 r ys))

-- what is landed is the plots' work
module _ (v : Canvas) (c : Clip) (ps : List Plot) (hs : List Hit) (e : hits v c ps ≡ hs) (w : Work) where
  pub land_fits : Ready v c ps w → Fits (land v hs w).tally
  land_fits r = omega (arith, r.room, ap (λ (z : Work). z.tally.landed) (drawn-is v c ps w), ap length e)

  pub land_did : (w' : Work) → w' ≡ land v hs w → Did v c ps w w'
  land_did w' f = record { same = f ∙ ap (λ (l : List Hit). land v l w) (sym e) ∙ sym (drawn-is v c ps w) }

-- ---- the sieve of a pie

pub pie-none : (v : Canvas) (x y : ℤ) (w h : ℕ) (start arc : ℤ) → (eqb w 0 || eqb h 0) ≡ true → pie v x y w h start arc ≡ []
unfolding pie
pie-none v x y w h start arc e = rw e

-- a test gives a point or none
one_at_most : (t : Bool) (p : Point) → length (cond t (p ∷ []) []) ≤ 1
one_at_most true p = omega arith
one_at_most false p = omega arith

sieve-le : (v : Canvas) (t : ℕ → ℕ → Bool) (x y : ℤ) (w h : ℕ) → v.width ≤ 32767 → v.height ≤ 32767 → length (sieve t (side x w v.width) (side y h v.height)) ≤ 1073676289
unfolding sieve
sieve-le v t x y w h hw hh = pixels-le v (λ i j. cond (t i j) (at (pos i) (pos j) ∷ []) []) x y w h (λ i j. one_at_most (t i j) (at (pos i) (pos j))) hw hh

either_le : (t : Bool) (ps qs : List Point) → length ps ≤ 1073676289 → length qs ≤ 1073676289 → length (cond t ps qs) ≤ 1073676289
either_le true ps qs h k = h
either_le false ps qs h k = k

pub pie-le : (v : Canvas) (x y : ℤ) (w h : ℕ) (start arc : ℤ) → v.width ≤ 32767 → v.height ≤ 32767 → length (pie v x y w h start arc) ≤ 1073676289
unfolding pie
pie-le v x y w h start arc hw hh = either_le (eqb w 0 || eqb h 0) [] _ (omega arith) (sieve-le v (in_pie x y w h start arc) x y w h hw hh)

-- ---- the sieve of a round fill

module _ (v : Canvas) (x y : ℤ) (w h aw ah : ℕ) where
  pub round_le : v.width ≤ 32767 → v.height ≤ 32767 → length (round_fill v x y w h aw ah) ≤ 1073676289
  unfolding round_fill
  round_le hw hh =
      either_le (eqb w 0 || eqb h 0) [] _ (omega arith)
      (either_le (eqb aw 0 || eqb ah 0) (fill v x y w h) _ (fill-le v x y w h hw hh) (sieve-le v (in_round x y w h aw ah) x y w h hw hh))

  module _ (p q : ℕ) (a : lowered p ≡ x) (b : lowered q ≡ y) where
    pub round_plain : ((eqb w 0 || eqb h 0) || (eqb aw 0 || eqb ah 0)) ≡ true → round_fill v x y w h aw ah ≡ fill v (lowered p) (lowered q) w h
    unfolding round_fill
    round_plain e = go (eqb w 0 || eqb h 0) refl
      where
        go : (t : Bool) → (eqb w 0 || eqb h 0) ≡ t
            → cond t [] (cond (eqb aw 0 || eqb ah 0) (fill v x y w h) (sieve (in_round x y w h aw ah) (side x w v.width) (side y h v.height))) ≡ fill v (lowered p) (lowered q) w h
        go true f = sym (fill_none v p q w h f)
        go false f = let g : (eqb aw 0 || eqb ah 0) ≡ true = rw f at e in rw (g, a, b) refl

pub did_nothing : {v : Canvas} {c : Clip} {w : Work} (f : ℕ → ℕ) (ps : List Point) → ps ≡ [] → Did v c (inks f ps) w w
unfolding inks
did_nothing f ps e = rw e did_none

-- ---- the last column or row of a box

far_fits : (x : ℤ) (n : ℕ) → nat_abs x ≤ 32768 → n ≤ 32767 → SFits w32 (x +ℤ pos n)
far_fits (pos a) n h k = record { sfits = omega arith }
far_fits (negsuc a) n h k = go (dec_lt n (suc a))
  where
    go : Dec (n < suc a) → SFits w32 (sub_ℕ n (suc a))
    go (yes l) = rw (lt-ltb n (suc a) l) (record { sfits = omega arith })
    go (no l) = rw (le-ltb n (suc a) (omega arith)) (record { sfits = omega arith })

small : (n : ℕ) → n ≤ 32767 → to_z w32 n ≡ pos n
small n h = to_z-of_z w32 (pos n) (record { sfits = omega arith })

module _ (x : ℤ) (w : ℕ) (s : SFits w32 x) (l : nat_abs x ≤ 32768) (m : w ≤ 32767) where
  last-is : to_z w32 (of_z w32 x) +ℤ to_z w32 (w - 1) ≡ x +ℤ pos (w - 1)
  last-is = ap₂ (λ (a b : ℤ). a +ℤ b) (to_z-of_z w32 x s) (small (w - 1) (omega arith))

  pub last_fits : SFits w32 (to_z w32 (of_z w32 x) +ℤ to_z w32 (w - 1))
  last_fits = rw last-is (far_fits x (w - 1) l (omega arith))

  last-given : to_z w32 (of_z w32 (to_z w32 (of_z w32 x) +ℤ to_z w32 (w - 1))) ≡ x +ℤ pos (w - 1)
  last-given = to_z-of_z w32 _ last_fits ∙ last-is

pub corners_are : (x y : ℤ) (w h aw ah : ℕ) → SFits w32 x → SFits w32 y → Shaped x y w h → (rx ry : Float) (k : Corners) → rx ≡ radius_of aw w → ry ≡ radius_of ah h
    → k ≡ corners_of (to_z w32 (of_z w32 x)) (to_z w32 (of_z w32 y)) (to_z w32 (of_z w32 (to_z w32 (of_z w32 x) +ℤ to_z w32 (w - 1)))) (to_z w32 (of_z w32 (to_z w32 (of_z w32 y) +ℤ to_z w32 (h - 1)))) rx ry
    → k ≡ corners_of x y (x +ℤ pos (w - 1)) (y +ℤ pos (h - 1)) (radius_of aw w) (radius_of ah h)
corners_are x y w h aw ah sx sy s rx ry k ex ey e =
    rw (last-given x w sx s.left s.wide, last-given y h sy s.top s.high, to_z-of_z w32 x sx, to_z-of_z w32 y sy, ex, ey) at e
