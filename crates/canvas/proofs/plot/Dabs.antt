-- A plot that is tried against the columns and rows of a window has the fate of one tried against canvas and clip.
use Rattle.std.proofs.Common.{◌≡◌, ℕ, suc, ◌+◌, ◌-◌, ◌%◌, ◌^◌, ◌<◌, ◌≤◌, Bool, true, false, cond, ◌&&◌, ltb, leb, List, [], ◌∷◌, length, ℤ, pos, negsuc, nat_abs, sym, refl, ap, ◌∙◌, ap₂, arith, w32, SFits, to_z, of_z, ltb-true, le-ltb, le-leb}
use native.Mathlib.Decide.{dec_lt}
use borrow.Author.Tests.{lt-leb}
use lib.Signed.{le_z, lt_z}
use mir.ValLaws.{to_z-of_z}
use Rattle.pixels.specs.declared.Canvas.{Canvas}
use Rattle.words.proofs.Either.{both}
use Rattle.canvas.specs.declared.Clip.{Clip}
use Rattle.canvas.specs.declared.Tally.{Tally}
use Rattle.pixels.specs.declared.rows.Span.{Span}
use Rattle.canvas.specs.Clip.{within, in_clip}
use Rattle.canvas.specs.Plot.{Point, at, Plot, plot, inks, landed, judge, on_canvas, fate}
use Rattle.pixels.specs.Hits.{hit, touch}
use Rattle.canvas.specs.Walk.{lowered, cut_of, Holds, Cut, plus, Work, work, act, drawn, Did, covers, dabbed, dabs, Window, Fields}
use Rattle.canvas.proofs.span.Lifts.{lowered-neg, lowered_pos}
use Rattle.canvas.proofs.span.Spans.{both_no, same_leb, cut_of_lem}
use Rattle.canvas.proofs.plot.Fates.{side_yes, side-past, side-minus}
use Rattle.pixels.proofs.Hits.{touch-length}

side_holds : (n : ℕ) → Holds (λ i. within (pos 0) n (pos i)) 0 n
side_holds n = record { before = λ k l. absurd (omega arith); inside = λ k l m. side_yes n k m; past = λ k l. side-past n k l }

never : false ≡ true → ⊥
never e = let z : ◌≡◌ {A = ℕ} 0 1 = cc in absurd (omega arith)

-- one of the two
module _ (c : ℤ) (m n : ℕ) (s : Span) (k : Cut 0 n c m n s.from s.to) where
  covers-is : (z : ℤ) → covers s z ≡ (within (pos 0) n z && within c m z)
  unfolding covers
  covers-is (negsuc i) = rw (side-minus n i) refl
  covers-is (pos i) = go (dec_lt i n)
    where
      go : Dec (i < n) → (leb s.from i && ltb i s.to) ≡ (within (pos 0) n (pos i) && within c m (pos i))
      go (yes l) = sym (k.point (λ j. within (pos 0) n (pos j)) (side_holds n) i l)
      go (no l) = rw (le-ltb i s.to (omega (arith, k.held)), side-past n i (omega arith)) (both_no (leb s.from i))

fates : (v : Canvas) (p : Plot) (a b c d : Bool) (w : Work) → cond ((a && c) && (b && d)) (act v p landed w) w ≡ act v p (judge (a && b) (c && d)) w
fates v p true true true true w = refl
fates v p true true true false w = refl
fates v p true true false d w = refl
fates v p true false true d w = refl
fates v p true false false d w = refl
fates v p false b c d w = refl

module _ {v : Canvas} {c : Clip} {xs ys : Span} (k : Window v c xs ys) (f : ℕ → ℕ) where
  dabbed-is : (p : Point) (w : Work) → dabbed v xs ys f p w ≡ act v (plot f p.x p.y) (fate v c (plot f p.x p.y)) w
  unfolding dabbed fate on_canvas in_clip
  dabbed-is p w =
      rw (covers-is c.x c.width v.width xs k.columns p.x, covers-is c.y c.height v.height ys k.rows p.y)
      (fates v (plot f p.x p.y) (within (pos 0) v.width p.x) (within (pos 0) v.height p.y) (within c.x c.width p.x) (within c.y c.height p.y) w)

  dabs-drawn : (ps : List Point) (w : Work) → dabs v xs ys f ps w ≡ drawn v c (inks f ps) w
  unfolding dabs drawn inks
  dabs-drawn [] w = refl
  dabs-drawn (p ∷ ps) w = dabs-drawn ps (dabbed v xs ys f p w) ∙ ap (drawn v c (inks f ps)) (dabbed-is p w)

  pub dabs_did : (ps : List Point) {w w' : Work} → w' ≡ dabs v xs ys f ps w → Did v c (inks f ps) w w'
  dabs_did ps {w} e = record { same = e ∙ dabs-drawn ps w }

pub window_fields : {v : Canvas} {c : Clip} {xs ys : Span} → Window v c xs ys → Fields v xs ys
window_fields k = record { ordered-x = k.columns.ordered; ordered-y = k.rows.ordered; held_x = k.columns.held; held-y = k.rows.held }

-- what `window` answers of a clip's sides
pub window_of : (v : Canvas) (c : Clip) (xs ys : Span) → SFits w32 c.x → SFits w32 c.y → xs ≡ cut_of 0 v.width (to_z w32 (of_z w32 c.x)) c.width v.width
    → ys ≡ cut_of 0 v.height (to_z w32 (of_z w32 c.y)) c.height v.height → Window v c xs ys
window_of v c xs ys fx fy h k = record {
  columns = cut_of_lem 0 v.width c.x c.width v.width xs fx (rw (to_z-of_z w32 c.x fx) at h);
  rows = cut_of_lem 0 v.height c.y c.height v.height ys fy (rw (to_z-of_z w32 c.y fy) at k);
}

-- ---- what the two tests of `dab` say

not_from : (s : Span) (p : ℕ) → p < 2147483648 + s.from → false ≡ covers s (lowered p)
unfolding covers
not_from s p h = go (dec_lt p 2147483648)
  where
    go : Dec (p < 2147483648) → false ≡ (le_z (pos s.from) (lowered p) && lt_z (lowered p) (pos s.to))
    go (yes l) = rw (lowered-neg p l) refl
    go (no l) = rw (lowered_pos p (omega arith), lt-leb s.from (p - 2147483648) (omega arith)) refl

until : (s : Span) (p : ℕ) → 2147483648 + s.from ≤ p → ltb p (2147483648 + s.to) ≡ covers s (lowered p)
unfolding covers
until s p h =
    rw (lowered_pos p (omega arith), le-leb s.from (p - 2147483648) (omega arith))
    (same_leb (suc p) (2147483648 + s.to) (suc (p - 2147483648)) s.to (omega arith) (omega arith))

-- r is how far p lies past the span's first, modulo 2^64
pub past : (s : Span) (p r : ℕ) → s.from ≤ s.to → s.to ≤ 32767 → p < 2 ^ 64 → r < 2 ^ 64 → (r + (2147483648 + s.from)) % 2 ^ 64 ≡ p → ltb r (s.to - s.from) ≡ covers s (lowered p)
past s p r a b l m e = go (dec_lt p (2147483648 + s.from))
  where
    go : Dec (p < 2147483648 + s.from) → ltb r (s.to - s.from) ≡ covers s (lowered p)
    go (yes h) = le-ltb r (s.to - s.from) (omega arith) ∙ not_from s p h
    go (no h) =
        let i : 2147483648 + s.from ≤ p = omega arith in
        let j : r + (2147483648 + s.from) ≡ p = omega arith in
        same_leb (suc r) (s.to - s.from) (suc p) (2147483648 + s.to) (omega arith) (omega arith) ∙ until s p i

pub record Covered (s : Span) (p : ℕ) : Type 0 where
  pub low : 2147483648 ≤ p
  pub inside : p - 2147483648 < s.to

pub covered : (s : Span) (p : ℕ) → covers s (lowered p) ≡ true → Covered s p
unfolding covers
covered s p e = go (dec_lt p 2147483648)
  where
    go : Dec (p < 2147483648) → Covered s p
    go (yes l) = let z : false ≡ true = rw (lowered-neg p l) at e in absurd (never z)
    go (no l) =
        let z : (leb s.from (p - 2147483648) && ltb (p - 2147483648) s.to) ≡ true = rw (lowered_pos p (omega arith)) at e in
        record { low = omega arith; inside = ltb-true (p - 2147483648) s.to (both (leb s.from (p - 2147483648)) (ltb (p - 2147483648) s.to) z).1 }

module _ (v : Canvas) (xs ys : Span) (f : ℕ → ℕ) (p q : ℕ) where
  pub misses_x : (w : Work) → covers xs (lowered p) ≡ false → w ≡ dabbed v xs ys f (at (lowered p) (lowered q)) w
  unfolding dabbed
  misses_x w e = rw e refl

  pub misses_y : (w : Work) → covers ys (lowered q) ≡ false → w ≡ dabbed v xs ys f (at (lowered p) (lowered q)) w
  unfolding dabbed
  misses_y w e = rw (e, both_no (covers xs (lowered p))) refl

  pub dab_lands : covers xs (lowered p) ≡ true → covers ys (lowered q) ≡ true → (b b' : List ℕ) (t t' : Tally) → b' ≡ touch v b (hit f (p - 2147483648) (q - 2147483648)) → t' ≡ plus t 1
      → work b' t' ≡ dabbed v xs ys f (at (lowered p) (lowered q)) (work b t)
  unfolding dabbed
  dab_lands ex ey b b' t t' hb ht = rw (ex, ey, lowered_pos p (covered xs p ex).low, lowered_pos q (covered ys q ey).low) (ap₂ work hb ht)

-- ---- what a dab keeps

pub dabbed-length : (v : Canvas) (xs ys : Span) (f : ℕ → ℕ) (p : Point) (w : Work) → length (dabbed v xs ys f p w).bytes ≡ length w.bytes
unfolding dabbed
dabbed-length v xs ys f p w = go (covers xs p.x && covers ys p.y)
  where
    go : (t : Bool) → length (cond t (act v (plot f p.x p.y) landed w) w).bytes ≡ length w.bytes
    go true = touch-length v w.bytes (hit f (nat_abs p.x) (nat_abs p.y))
    go false = refl

pub dabs-length : (v : Canvas) (xs ys : Span) (f : ℕ → ℕ) (ps : List Point) (w : Work) → length (dabs v xs ys f ps w).bytes ≡ length w.bytes
unfolding dabs
dabs-length v xs ys f [] w = refl
dabs-length v xs ys f (p ∷ ps) w = dabs-length v xs ys f ps (dabbed v xs ys f p w) ∙ dabbed-length v xs ys f p w

pub dabbed_grows : (v : Canvas) (xs ys : Span) (f : ℕ → ℕ) (p : Point) (w : Work) → (dabbed v xs ys f p w).tally.landed ≤ w.tally.landed + 1
unfolding dabbed
dabbed_grows v xs ys f p w = go (covers xs p.x && covers ys p.y)
  where
    go : (t : Bool) → (cond t (act v (plot f p.x p.y) landed w) w).tally.landed ≤ w.tally.landed + 1
    go true = omega arith
    go false = omega arith

-- ---- a loop that dabs: what is left of its points leads to the same end

pub record Dabbing (v : Canvas) (xs ys : Span) (f : ℕ → ℕ) (ps : List Point) (w : Work) (ps₀ : List Point) (w₀ : Work) : Type 0 where
  pub same : dabs v xs ys f ps w ≡ dabs v xs ys f ps₀ w₀
  pub few : w.tally.landed + length ps ≤ w₀.tally.landed + length ps₀

module _ {v : Canvas} {xs ys : Span} {f : ℕ → ℕ} where
  pub dabbing_start : {ps : List Point} {w : Work} → Dabbing v xs ys f ps w ps w
  dabbing_start = record { same = refl; few = omega arith }

  pub dabbing_step : {p : Point} {ps ps₀ : List Point} {w w' w₀ : Work} → Dabbing v xs ys f (p ∷ ps) w ps₀ w₀ → w' ≡ dabbed v xs ys f p w → Dabbing v xs ys f ps w' ps₀ w₀
  unfolding dabs
  dabbing_step {p} {ps} {ps₀} {w} {w'} {w₀} d e = record {
    same = ap (dabs v xs ys f ps) e ∙ d.same;
    few = omega (arith, d.few, ap (λ (x : Work). x.tally.landed) e, dabbed_grows v xs ys f p w);
  }

  pub dabbing_end : {ps₀ : List Point} {w w₀ : Work} → Dabbing v xs ys f [] w ps₀ w₀ → w ≡ dabs v xs ys f ps₀ w₀
  unfolding dabs
  dabbing_end d = d.same

  pub dabbing_length : {ps ps₀ : List Point} {w w₀ : Work} → Dabbing v xs ys f ps w ps₀ w₀ → length w.bytes ≡ length w₀.bytes
  dabbing_length {ps} {ps₀} {w} {w₀} d = sym (dabs-length v xs ys f ps w) ∙ ap (λ (x : Work). length x.bytes) d.same ∙ dabs-length v xs ys f ps₀ w₀
