-- Boxes of plots: what of them lands, and how many there are.
use Rattle.std.proofs.Common.{◌≡◌, ℕ, zero, suc, ◌+◌, ◌-◌, ◌*◌, ◌<◌, ◌≤◌, Bool, true, false, cond, ◌&&◌, ◌||◌, eqb, List, [], ◌∷◌, ◌++◌, length, ℤ, pos, sym, refl, ap, ◌∙◌, ap₂, le_trans, mul-le-mul_right, suc-mul, zero-mul, arith, length-append, w32, SFits, to_z, of_z, eqb-true}
use mathlib.Core.List.{flat_map}
use native.Mathlib.Decide.{dec_lt}
use borrow.Author.Tests.{eqb-false}
use mir.ValLaws.{to_z-of_z}
use Rattle.words.proofs.Either.{neither}
use Rattle.pixels.specs.declared.Canvas.{Canvas}
use Rattle.canvas.specs.declared.Clip.{Clip}
use Rattle.canvas.specs.declared.Tally.{Tally}
use Rattle.canvas.specs.Plot.{Point, at, Plot, plot, inks, Fate, landed, outside, clipped, fate, hit_of, keep, hits}
use Rattle.pixels.specs.Hits.{Hit, hit, paint}
use Rattle.canvas.specs.Clip.{within, in_clip}
use Rattle.canvas.specs.Boxes.{select, side, spots, source_of, shown, fill}
use Rattle.pixels.specs.Rows.{run, mark, field, flat}
use Rattle.canvas.specs.Walk.{lowered, Cut, Shown, plus, Work, work, Fits, Ready, Did}
use Rattle.pixels.proofs.bytes.Places.{area-le}
use Rattle.canvas.proofs.span.Spans.{both_no, select-none, span_holds}
use Rattle.canvas.proofs.plot.Fates.{on_canvas_lem, is-inside}
use Rattle.canvas.proofs.plot.Paints.{inks-length, drawn-is}
use Rattle.pixels.proofs.rows.Rows.{field-length}

pub inks-append : (f : ℕ → ℕ) (ps qs : List Point) → inks f (ps ++ qs) ≡ inks f ps ++ inks f qs
unfolding inks
inks-append f [] qs = refl
inks-append f (p ∷ ps) qs = ap (λ (l : List Plot). plot f p.x p.y ∷ l) (inks-append f ps qs)

pub inks_each : (f : ℕ → ℕ) (g : ℕ → List Point) (h : ℕ → List Plot) (xs : List ℕ) → ((x : ℕ) → inks f (g x) ≡ h x) → inks f (flat_map g xs) ≡ flat_map h xs
unfolding flat_map inks
inks_each f g h [] e = refl
inks_each f g h (x ∷ xs) e = inks-append f (g x) (flat_map g xs) ∙ ap₂ (λ (l m : List Plot). l ++ m) (e x) (inks_each f g h xs e)

-- ---- what lands of plots at pixels: those of the columns and rows inside the clip

pub hits-append : (v : Canvas) (c : Clip) (ps qs : List Plot) → hits v c (ps ++ qs) ≡ hits v c ps ++ hits v c qs
unfolding hits
hits-append v c [] qs = refl
hits-append v c (p ∷ ps) qs = ap (keep (fate v c p) (hit_of p)) (hits-append v c ps qs) ∙ go (fate v c p)
  where
    go : (f : Fate) → keep f (hit_of p) (hits v c ps ++ hits v c qs) ≡ keep f (hit_of p) (hits v c ps) ++ hits v c qs
    go landed = refl
    go outside = refl
    go clipped = refl

pub hits_each : (v : Canvas) (c : Clip) (g : ℕ → List Plot) (xs : List ℕ) → hits v c (flat_map g xs) ≡ flat_map (λ x. hits v c (g x)) xs
unfolding flat_map hits
hits_each v c g [] = refl
hits_each v c g (x ∷ xs) = hits-append v c (g x) (flat_map g xs) ∙ ap (λ (l : List Hit). hits v c (g x) ++ l) (hits_each v c g xs)

-- what a second test lets through
each_cond : {A : Type 0} (t u : ℕ → Bool) (g h : ℕ → List A) (i n : ℕ) → ((k : ℕ) → i ≤ k → k < i + n → g k ≡ cond (u k) (h k) [])
    → flat_map g (select t i n) ≡ flat_map h (select (λ k. t k && u k) i n)
unfolding flat_map select
each_cond t u g h i zero e = refl
each_cond t u g h i (suc n) e = go (t i) (u i) (e i (omega arith) (omega arith)) (each_cond t u g h (suc i) n (λ k p q. e k (omega arith) (omega arith)))
  where
    go : (a b : Bool) → g i ≡ cond b (h i) [] → flat_map g (select t (suc i) n) ≡ flat_map h (select (λ k. t k && u k) (suc i) n)
        → flat_map g (cond a (i ∷ select t (suc i) n) (select t (suc i) n))
        ≡ flat_map h (cond (a && b) (i ∷ select (λ k. t k && u k) (suc i) n) (select (λ k. t k && u k) (suc i) n))
    go true true f r = ap₂ (λ (l m : List _). l ++ m) f r
    go true false f r = ap₂ (λ (l m : List _). l ++ m) f r
    go false b f r = r

each_nil : {A : Type 0} (t : ℕ → Bool) (g : ℕ → List A) (i n : ℕ) → ((k : ℕ) → i ≤ k → k < i + n → g k ≡ []) → flat_map g (select t i n) ≡ []
unfolding flat_map select
each_nil t g i zero e = refl
each_nil t g i (suc n) e = go (t i) (e i (omega arith) (omega arith)) (each_nil t g (suc i) n (λ k p q. e k (omega arith) (omega arith)))
  where
    go : (a : Bool) → g i ≡ [] → flat_map g (select t (suc i) n) ≡ [] → flat_map g (cond a (i ∷ select t (suc i) n) (select t (suc i) n)) ≡ []
    go true f r = ap₂ (λ (l m : List _). l ++ m) f r
    go false f r = r

-- where each pixel gives plots that land inside the clip
module _ (v : Canvas) (c : Clip) (g : ℕ → ℕ → List Plot) (h : ℕ → ℕ → List Hit)
    (lands : (i j : ℕ) → i < v.width → j < v.height
    → hits v c (g i j) ≡ cond (within c.x c.width (pos i) && within c.y c.height (pos j)) (h i j) []) where
  pixel_row : (t : ℕ → Bool) (j : ℕ) → j < v.height
      → hits v c (flat_map (λ i. g i j) (select t 0 v.width))
      ≡ cond (within c.y c.height (pos j)) (flat_map (λ i. h i j) (select (λ i. t i && within c.x c.width (pos i)) 0 v.width)) []
  pixel_row t j hj = hits_each v c (λ i. g i j) (select t 0 v.width) ∙ go (within c.y c.height (pos j)) refl
    where
      both_true : (a : Bool) → (a && true) ≡ a
      both_true true = refl
      both_true false = refl

      go : (r : Bool) → within c.y c.height (pos j) ≡ r
          → flat_map (λ i. hits v c (g i j)) (select t 0 v.width)
          ≡ cond r (flat_map (λ i. h i j) (select (λ i. t i && within c.x c.width (pos i)) 0 v.width)) []
      go true e =
          each_cond t (λ i. within c.x c.width (pos i)) _ (λ i. h i j) 0 v.width
          (λ i l m. lands i j (omega arith) hj ∙ rw (e, both_true (within c.x c.width (pos i))) refl)
      go false e =
          each_nil t _ 0 v.width (λ i l m. lands i j (omega arith) hj ∙ rw (e, both_no (within c.x c.width (pos i))) refl)

  pub pixels-hits : (t u : ℕ → Bool)
      → hits v c (flat_map (λ j. flat_map (λ i. g i j) (select t 0 v.width)) (select u 0 v.height))
      ≡ flat_map (λ j. flat_map (λ i. h i j) (select (λ i. t i && within c.x c.width (pos i)) 0 v.width))
      (select (λ j. u j && within c.y c.height (pos j)) 0 v.height)
  pixels-hits t u =
      hits_each v c (λ j. flat_map (λ i. g i j) (select t 0 v.width)) (select u 0 v.height)
      ∙ each_cond u (λ j. within c.y c.height (pos j)) _ (λ j. flat_map (λ i. h i j) (select (λ i. t i && within c.x c.width (pos i)) 0 v.width)) 0 v.height
      (λ j l m. pixel_row t j (omega arith))

module _ (v : Canvas) (c : Clip) (f : ℕ → ℕ → ℕ → ℕ) where
  pub spot_hit : (i j : ℕ) → i < v.width → j < v.height
      → hits v c (plot (f i j) (pos i) (pos j) ∷ []) ≡ cond (within c.x c.width (pos i) && within c.y c.height (pos j)) (mark f j i) []
  unfolding hits mark in_clip
  spot_hit i j hi hj =
      let t : Bool = (within c.x c.width (pos i) && within c.y c.height (pos j)) in
      rw (is-inside v c (pos i) (pos j) (f i j) t (on_canvas_lem v i j hi hj) refl) (go t)
    where
      go : (t : Bool) → keep (cond t landed clipped) (hit (f i j) i j) [] ≡ cond t (hit (f i j) i j ∷ []) []
      go true = refl
      go false = refl

  pub spots-hits : (t u : ℕ → Bool)
      → hits v c (spots f (select t 0 v.width) (select u 0 v.height))
      ≡ field f (select (λ i. t i && within c.x c.width (pos i)) 0 v.width) (select (λ j. u j && within c.y c.height (pos j)) 0 v.height)
  unfolding spots
  spots-hits t u = pixels-hits v c (λ i j. plot (f i j) (pos i) (pos j) ∷ []) (λ i j. mark f j i) spot_hit t u

-- ---- a fill

fill-spots : (v : Canvas) (f : ℕ → ℕ) (x y : ℤ) (w h : ℕ) → inks f (fill v x y w h) ≡ spots (flat f) (side x w v.width) (side y h v.height)
unfolding fill spots inks
fill-spots v f x y w h =
    inks_each f (λ j. flat_map (λ i. at (pos i) (pos j) ∷ []) (side x w v.width)) (λ j. flat_map (λ i. plot f (pos i) (pos j) ∷ []) (side x w v.width)) (side y h v.height)
    (λ j. inks_each f (λ i. at (pos i) (pos j) ∷ []) (λ i. plot f (pos i) (pos j) ∷ []) (side x w v.width) (λ i. refl))

-- how long a cut is
pub span-le : {lo end : ℕ} {c : ℤ} {m n from to : ℕ} → Cut lo end c m n from to → n ≤ 32767 → to - from ≤ 32767
span-le k l = omega (arith, k.held)

-- the run of a cut is what the span and the clip share
pub cut_run : (p w : ℕ) (c : ℤ) (m n x0 x1 : ℕ) → SFits w32 c → Cut (p - 2147483648) (p + w - 2147483648) (to_z w32 (of_z w32 c)) m n x0 x1
    → run x0 (x1 - x0) ≡ select (λ i. within (lowered p) w (pos i) && within c m (pos i)) 0 n
cut_run p w c m n x0 x1 s k = rw (to_z-of_z w32 c s) at (k.same (λ i. within (lowered p) w (pos i)) (span_holds p w _ _ refl refl))

-- the overlap that the code walks
module _ (v : Canvas) (c : Clip) (f : ℕ → ℕ) (p q w h : ℕ) (s : SFits w32 c.x) (r : SFits w32 c.y) (x0 x1 y0 y1 : ℕ)
    (xs : Cut (p - 2147483648) (p + w - 2147483648) (to_z w32 (of_z w32 c.x)) c.width v.width x0 x1)
    (ys : Cut (q - 2147483648) (q + h - 2147483648) (to_z w32 (of_z w32 c.y)) c.height v.height y0 y1) where
  pub fill-hits : hits v c (inks f (fill v (lowered p) (lowered q) w h)) ≡ field (flat f) (run x0 (x1 - x0)) (run y0 (y1 - y0))
  fill-hits =
      ap (hits v c) (fill-spots v f (lowered p) (lowered q) w h)
      ∙ spots-hits v c (flat f) (λ i. within (lowered p) w (pos i)) (λ j. within (lowered q) h (pos j))
      ∙ ap₂ (λ (l m : List ℕ). field (flat f) l m) (sym (cut_run p w c.x c.width v.width x0 x1 s xs)) (sym (cut_run q h c.y c.height v.height y0 y1 r ys))

-- what is shown of a source
module _ (v : Canvas) (c : Clip) (p q u t w h m n : ℕ) (s : SFits w32 c.x) (r : SFits w32 c.y) (x0 x1 y0 y1 : ℕ)
    (xs : Shown p u w m (to_z w32 (of_z w32 c.x)) c.width v.width x0 x1)
    (ys : Shown q t h n (to_z w32 (of_z w32 c.y)) c.height v.height y0 y1) where
  pub shown-hits : (f : ℕ → ℕ → ℕ → ℕ)
      → hits v c (spots f (shown (lowered p) (lowered u) w m v.width) (shown (lowered q) (lowered t) h n v.height)) ≡ field f (run x0 (x1 - x0)) (run y0 (y1 - y0))
  shown-hits f =
      let tx : ℕ → Bool = λ i. (within (lowered p) w (pos i) && within (pos 0) m (source_of (lowered p) (lowered u) i)) in
      let ty : ℕ → Bool = λ j. (within (lowered q) h (pos j) && within (pos 0) n (source_of (lowered q) (lowered t) j)) in
      let ex : run x0 (x1 - x0) ≡ select (λ i. tx i && within c.x c.width (pos i)) 0 v.width = rw (to_z-of_z w32 c.x s) at xs.same in
      let ey : run y0 (y1 - y0) ≡ select (λ j. ty j && within c.y c.height (pos j)) 0 v.height = rw (to_z-of_z w32 c.y r) at ys.same in
      spots-hits v c f tx ty ∙ ap₂ (λ (l k : List ℕ). field f l k) (sym ex) (sym ey)

-- hits of a field, painted and counted, are the plots' work
module _ (v : Canvas) (c : Clip) (ps : List Plot) (f : ℕ → ℕ → ℕ → ℕ) (x0 x1 y0 y1 : ℕ) (e : hits v c ps ≡ field f (run x0 (x1 - x0)) (run y0 (y1 - y0))) (b : List ℕ) (t : Tally) where
  field-count : length (hits v c ps) ≡ (y1 - y0) * (x1 - x0)
  field-count = ap length e ∙ field-length f x0 (x1 - x0) y0 (y1 - y0)

  pub field_fits : Ready v c ps (work b t) → Fits (plus t ((y1 - y0) * (x1 - x0)))
  field_fits r = omega (arith, r.room, ap (λ (z : Work). z.tally.landed) (drawn-is v c ps (work b t)), field-count)

  pub field_did : (b' : List ℕ) (t' : Tally) → b' ≡ paint v (field f (run x0 (x1 - x0)) (run y0 (y1 - y0))) b → t' ≡ plus t ((y1 - y0) * (x1 - x0)) → Did v c ps (work b t) (work b' t')
  field_did b' t' p q = record {
    same = ap₂ work (p ∙ ap (λ (hs : List Hit). paint v hs b) (sym e)) (q ∙ ap (plus t) (sym field-count)) ∙ sym (drawn-is v c ps (work b t));
  }

-- ---- a box without columns or rows

-- what two tests say, one after the other
pub first_holds : (r a b : Bool) → r ≡ a → r ≡ true → true ≡ (a || b)
first_holds r a b e t = rw (sym e ∙ t) refl

pub second_says : (r a b s : Bool) → r ≡ a → r ≡ false → s ≡ b → s ≡ (a || b)
second_says r a b s e t f = rw (sym e ∙ t) f

pub some_sides : (w h : ℕ) → (eqb w 0 || eqb h 0) ≡ false → (1 ≤ w) × (1 ≤ h)
some_sides w h e =
    let n = neither (eqb w 0) (eqb h 0) e in
    (omega (arith, eqb-false w 0 n.0), omega (arith, eqb-false h 0 n.1))

no_span : (p n : ℕ) → side (lowered p) 0 n ≡ []
no_span p n = select-none (λ k. within (lowered p) 0 (pos k)) 0 n (λ k l m. go k (dec_lt k (p - 2147483648)))
  where
    go : (k : ℕ) → Dec (k < p - 2147483648) → within (lowered p) 0 (pos k) ≡ false
    go k (yes h) = (span_holds p 0 _ _ refl refl).before k h
    go k (no h) = (span_holds p 0 _ _ refl refl).past k (omega arith)

pub none_each : {A : Type 0} (xs : List ℕ) → flat_map {B = A} (λ j. []) xs ≡ []
unfolding flat_map
none_each [] = refl
none_each (x ∷ xs) = none_each xs

pub box_none : {A : Type 0} (g : ℕ → ℕ → List A) (p q w h m n : ℕ) → (eqb w 0 || eqb h 0) ≡ true → flat_map (λ j. flat_map (λ i. g i j) (side (lowered p) w m)) (side (lowered q) h n) ≡ []
unfolding flat_map
box_none g p q w h m n e = go (eqb w 0) refl
  where
    go : (t : Bool) → eqb w 0 ≡ t → flat_map (λ j. flat_map (λ i. g i j) (side (lowered p) w m)) (side (lowered q) h n) ≡ []
    go true f = rw (eqb-true w 0 f, no_span p m) (none_each (side (lowered q) h n))
    go false f = let d : eqb h 0 ≡ true = rw f at e in rw (eqb-true h 0 d, no_span q n) refl

pub fill_none : (v : Canvas) (p q w h : ℕ) → (eqb w 0 || eqb h 0) ≡ true → fill v (lowered p) (lowered q) w h ≡ []
unfolding fill
fill_none v p q w h e = box_none (λ i j. at (pos i) (pos j) ∷ []) p q w h v.width v.height e

-- ---- how many points

pub select-le : (t : ℕ → Bool) (i n : ℕ) → length (select t i n) ≤ n
unfolding select
select-le t i zero = omega arith
select-le t i (suc n) = go (t i) (select-le t (suc i) n)
  where
    go : (a : Bool) → length (select t (suc i) n) ≤ n → length (cond a (i ∷ select t (suc i) n) (select t (suc i) n)) ≤ suc n
    go true h = omega arith
    go false h = omega arith

pub each_le : {A : Type 0} (g : ℕ → List A) (k : ℕ) (xs : List ℕ) → ((x : ℕ) → length (g x) ≤ k) → length (flat_map g xs) ≤ length xs * k
unfolding flat_map
each_le g k [] h = omega (arith, zero-mul k)
each_le g k (x ∷ xs) h = omega (arith, length-append (g x) (flat_map g xs), h x, each_le g k xs h, suc-mul (length xs) k)

-- where no pixel of a box gives more than one point
pub pixels-le : (v : Canvas) (g : ℕ → ℕ → List Point) (x y : ℤ) (w h : ℕ) → ((i j : ℕ) → length (g i j) ≤ 1) → v.width ≤ 32767 → v.height ≤ 32767
    → length (flat_map (λ j. flat_map (λ i. g i j) (side x w v.width)) (side y h v.height)) ≤ 1073676289
pixels-le v g x y w h few hw hh =
    let one : (j : ℕ) → length (flat_map (λ i. g i j) (side x w v.width)) ≤ v.width
    = λ j. omega (arith, each_le (λ i. g i j) 1 (side x w v.width) (λ i. few i j), select-le (λ i. within x w (pos i)) 0 v.width) in
    le_trans (each_le _ v.width (side y h v.height) one)
    (le_trans (mul-le-mul_right v.width (select-le _ 0 v.height)) (area-le v.width v.height hw hh))

pub fill-le : (v : Canvas) (x y : ℤ) (w h : ℕ) → v.width ≤ 32767 → v.height ≤ 32767 → length (fill v x y w h) ≤ 1073676289
unfolding fill
fill-le v x y w h hw hh = pixels-le v (λ i j. at (pos i) (pos j) ∷ []) x y w h (λ i j. omega arith) hw hh

pub inks-few : (f : ℕ → ℕ) (ps : List Point) → length ps ≤ 1073676289 → length (inks f ps) < 18446744073709551616
inks-few f ps h = omega (arith, inks-length f ps)
