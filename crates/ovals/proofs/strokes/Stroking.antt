-- The stroke's loops: what is left of its points leads to the same end.
use Rattle.std.proofs.Common.{◌≡◌, ℕ, zero, suc, ◌+◌, ◌-◌, ◌*◌, ◌<◌, ◌≤◌, max, List, [], ◌∷◌, length, get_or, sym, refl, ap, ◌∙◌, ap₂, arith}
use lib.Ieee.{Float}
use Rattle.floats.proofs.Rounds.{round_fits}
use Rattle.curves.specs.declared.oval.Oval.{Oval}
use Rattle.curves.specs.Strokes.{steps_of, x_at, y_at, spot_of, stroke_point, spots_from, columns, rows}
use Rattle.pixels.specs.declared.Canvas.{Canvas}
use Rattle.canvas.specs.declared.Clip.{Clip}
use Rattle.pixels.specs.declared.rows.Span.{Span}
use Rattle.canvas.specs.Plot.{Point, at, inks}
use Rattle.ovals.specs.Strokes.{point_of, stroke_from, stroke}
use Rattle.ovals.specs.Sift.{spots_at}
use Rattle.canvas.specs.Walk.{lifted, lowered, Work, Did, dabbed, dabs, Window}
use Rattle.canvas.proofs.span.Lifts.{lower_lift}
use Rattle.canvas.proofs.plot.Dabs.{Dabbing, dabbing_start, dabbing_step, dabbing_end, dabs_did, dabbed_grows}

-- ---- some of the points
pub dabs_grows : (v : Canvas) (xs ys : Span) (f : ℕ → ℕ) (ps : List Point) (w : Work) → (dabs v xs ys f ps w).tally.landed ≤ w.tally.landed + length ps
unfolding dabs
dabs_grows v xs ys f [] w = omega arith
dabs_grows v xs ys f (p ∷ ps) w = omega (arith, dabs_grows v xs ys f ps (dabbed v xs ys f p w), dabbed_grows v xs ys f p w)

module _ (ps qs : List ℕ) where
  spots-length : (k n : ℕ) → length (spots_at ps qs k n) ≡ n
  unfolding spots_at
  spots-length k zero = refl
  spots-length k (suc n) = ap suc (spots-length (suc k) n)

  pub record Spotting (v : Canvas) (xs ys : Span) (f : ℕ → ℕ) (m j : ℕ) (w w₀ : Work) : Type 0 where
    pub held : j ≤ m
    pub rest : Dabbing v xs ys f (spots_at ps qs j (m - j)) w (spots_at ps qs 0 m) w₀

  module _ {v : Canvas} {xs ys : Span} {f : ℕ → ℕ} {m : ℕ} where
    pub spotting_start : {w : Work} → Spotting v xs ys f m 0 w w
    spotting_start = let n : m - 0 ≡ m = omega arith in record { held = omega arith; rest = rw n dabbing_start }

    pub spotting_room : {j : ℕ} {w w₀ : Work} → w₀.tally.landed + m < 18446744073709551616 → j < m → Spotting v xs ys f m j w w₀ → w.tally.landed + 1 < 18446744073709551616
    spotting_room {j} l h k = omega (arith, k.rest.few, spots-length j (m - j), spots-length 0 m)

    pub spotting_turn : {j : ℕ} {w w' w₀ : Work} → j < m → w' ≡ dabbed v xs ys f (at (lowered (get_or ps j 0)) (lowered (get_or qs j 0))) w
        → Spotting v xs ys f m j w w₀ → Spotting v xs ys f m (j + 1) w' w₀
    unfolding spots_at
    spotting_turn {j} {w} {w'} {w₀} h d k =
        let n : m - j ≡ suc (m - suc j) = omega arith in
        let p : Dabbing v xs ys f (spots_at ps qs j (suc (m - suc j))) w (spots_at ps qs 0 m) w₀ = rw n at k.rest in
        let q : Dabbing v xs ys f (spots_at ps qs (suc j) (m - suc j)) w' (spots_at ps qs 0 m) w₀ = dabbing_step p d in
        let u : j + 1 ≡ suc j = omega arith in
        rw u (record { held = omega arith; rest = q })

    pub spotting_end : {j : ℕ} {w w₀ : Work} → m ≤ j → Spotting v xs ys f m j w w₀ → w ≡ dabs v xs ys f (spots_at ps qs 0 m) w₀
    unfolding spots_at
    spotting_end {j} {w} {w₀} h k =
        let n : m - j ≡ 0 = omega arith in
        let p : Dabbing v xs ys f (spots_at ps qs j 0) w (spots_at ps qs 0 m) w₀ = rw n at k.rest in
        dabbing_end p

-- ---- all of them, some at a time
module _ (o : Oval) (start sweep : Float) (steps : ℕ) where
  pub from-length : (i n : ℕ) → length (stroke_from o start sweep steps i n) ≡ n
  unfolding stroke_from
  from-length i zero = refl
  from-length i (suc n) = ap suc (from-length (suc i) n)

  -- sixteen columns and rows are those of the points from i on
  point : (i : ℕ) → at (lowered (lifted (stroke_point o start sweep i steps).x)) (lowered (lifted (stroke_point o start sweep i steps).y)) ≡ point_of (stroke_point o start sweep i steps)
  unfolding stroke_point spot_of x_at y_at
  point i = ap₂ at (lower_lift _ (round_fits _)) (lower_lift _ (round_fits _))

  spots-is : (ps qs : List ℕ) (p q k n : ℕ) → spots_at (p ∷ ps) (q ∷ qs) (suc k) n ≡ spots_at ps qs k n
  unfolding spots_at
  spots-is ps qs p q k zero = refl
  spots-is ps qs p q k (suc n) = ap (λ (ts : List Point). at (lowered (get_or ps k 0)) (lowered (get_or qs k 0)) ∷ ts) (spots-is ps qs p q (suc k) n)

  points : (i r n : ℕ) → n ≤ r → spots_at (columns (spots_from o start sweep steps i r)) (rows (spots_from o start sweep steps i r)) 0 n ≡ stroke_from o start sweep steps i n
  unfolding spots_at stroke_from spots_from
  points i r zero l = refl
  points i zero (suc n) l = absurd (omega arith)
  points i (suc r) (suc n) l = ap₂ (λ (p : Point) (ps : List Point). p ∷ ps) (point i) (spots-is _ _ _ _ 0 n ∙ points (suc i) r n (omega arith))

  sixteen : (i : ℕ) {ps qs : List ℕ} → ps ≡ columns (spots_from o start sweep steps i 16) → qs ≡ rows (spots_from o start sweep steps i 16) → (m : ℕ) → m ≤ 16
      → spots_at ps qs 0 m ≡ stroke_from o start sweep steps i m
  sixteen i e f m l = ap₂ (λ (ps qs : List ℕ). spots_at ps qs 0 m) e f ∙ points i 16 m l

  -- m of them, and then r
  parts : (v : Canvas) (xs ys : Span) (f : ℕ → ℕ) (m i r : ℕ) (w : Work)
      → dabs v xs ys f (stroke_from o start sweep steps i (m + r)) w ≡ dabs v xs ys f (stroke_from o start sweep steps (i + m) r) (dabs v xs ys f (stroke_from o start sweep steps i m) w)
  unfolding stroke_from dabs
  parts v xs ys f zero i r w =
      let e : 0 + r ≡ r = omega arith in
      let u : i + 0 ≡ i = omega arith in
      rw (e, u) refl
  parts v xs ys f (suc m) i r w =
      let e : suc m + r ≡ suc (m + r) = omega arith in
      let u : i + suc m ≡ suc i + m = omega arith in
      rw (e, u) (parts v xs ys f m (suc i) r (dabbed v xs ys f (point_of (stroke_point o start sweep i steps)) w))

  pub record Stroking (v : Canvas) (xs ys : Span) (f : ℕ → ℕ) (i : ℕ) (w w₀ : Work) : Type 0 where
    pub held : i ≤ suc steps
    pub rest : Dabbing v xs ys f (stroke_from o start sweep steps i (suc steps - i)) w (stroke_from o start sweep steps 0 (suc steps)) w₀

  module _ {v : Canvas} {xs ys : Span} {f : ℕ → ℕ} where
    pub stroking_start : {w : Work} → Stroking v xs ys f 0 w w
    stroking_start = let n : suc steps - 0 ≡ suc steps = omega arith in record { held = omega arith; rest = rw n dabbing_start }

    pub stroking_room : {i : ℕ} {w w₀ : Work} (m : ℕ) → steps ≤ 1048544 → w₀.tally.landed < 9223372036854775808 → m ≤ 16 → Stroking v xs ys f i w w₀ → w.tally.landed + m < 18446744073709551616
    stroking_room {i} m l k h s = omega (arith, s.rest.few, from-length i (suc steps - i), from-length 0 (suc steps))

    pub stroking_turn : {i : ℕ} {ps qs : List ℕ} {w w' w₀ : Work} (m : ℕ) → m ≤ 16 → i + m ≤ suc steps
        → ps ≡ columns (spots_from o start sweep steps i 16) → qs ≡ rows (spots_from o start sweep steps i 16)
        → w' ≡ dabs v xs ys f (spots_at ps qs 0 m) w → Stroking v xs ys f i w w₀ → Stroking v xs ys f (i + m) w' w₀
    stroking_turn {i} {ps} {qs} {w} {w'} {w₀} m few l a b d s =
        let r = suc steps - (i + m) in
        let n : suc steps - i ≡ m + r = omega arith in
        let p = s.rest in
        let t : w' ≡ dabs v xs ys f (stroke_from o start sweep steps i m) w = d ∙ ap (λ (ts : List Point). dabs v xs ys f ts w) (sixteen i a b m few) in
        record {
          held = l;
          rest = record {
            same =
                ap (dabs v xs ys f (stroke_from o start sweep steps (i + m) r)) t ∙ sym (parts v xs ys f m i r w) ∙ ap (λ (k : ℕ). dabs v xs ys f (stroke_from o start sweep steps i k) w)
                (sym n) ∙ p.same;
            few =
                let g = dabs_grows v xs ys f (stroke_from o start sweep steps i m) w in
                omega (arith, p.few, from-length i (suc steps - i), from-length (i + m) r, ap (λ (x : Work). x.tally.landed) t, g, from-length i m);
          };
        }

    pub stroking_end : {i : ℕ} {w w₀ : Work} → steps < i → Stroking v xs ys f i w w₀ → w ≡ dabs v xs ys f (stroke_from o start sweep steps 0 (suc steps)) w₀
    unfolding stroke_from
    stroking_end {i} {w} {w₀} h k =
        let n : suc steps - i ≡ 0 = omega arith in
        let p : Dabbing v xs ys f (stroke_from o start sweep steps i 0) w (stroke_from o start sweep steps 0 (suc steps)) w₀ = rw n at k.rest in
        dabbing_end p

-- ---- the whole stroke

pub stroke_did : (v : Canvas) (c : Clip) (xs ys : Span) (f : ℕ → ℕ) (o : Oval) (start sweep : Float) (steps : ℕ) {w w' : Work} → Window v c xs ys → steps ≡ steps_of o sweep v.width v.height
    → w' ≡ dabs v xs ys f (stroke_from o start sweep steps 0 (suc steps)) w → Did v c (inks f (stroke v o start sweep)) w w'
unfolding stroke
stroke_did v c xs ys f o start sweep steps k e d = dabs_did k f (stroke v o start sweep) (rw e at d)

pub few_steps : (v : Canvas) (n : ℕ) → v.width ≤ 32767 → v.height ≤ 32767 → n ≤ 16 * max (v.width + v.height) 1 → n ≤ 1048544
few_steps v n w h l = omega arith
