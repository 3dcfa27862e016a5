-- Copying by chunks and rows leaves what copying all at once would.
use mathlib.Core.Path.{◌≡◌, refl, sym, ap, ap₂, ◌∙◌}
use mathlib.Core.Bool.{Bool, true, false, cond}
use mathlib.Core.List.{List, [], ◌∷◌, append-nil, flat_map}
use Prim.Native.Nat.{ℕ, zero, suc, ◌+◌, ◌-◌, ◌%◌, ◌≤◌, ◌<◌}
use native.Mathlib.Omega.{arith}
use native.Mathlib.Decide.{ℕ_discrete, dec_le}
use borrow.Author.Tests.{le-leb, lt-leb}
use lib.Dec.{leb}
use lib.IntN.{ℤ}
use lib.ListN.{length, get_or, set, length-set}
use lib.Seq.{get_or-set_same, get_or-set_other}
use Rattle.std.proofs.Common.{Result}
use Rattle.words.specs.Format.{Format, rgb332, rgb565, rgb8, argb, abgr, none, format_of, range}
use Rattle.words.specs.Word.{from_color, to_color, seen}
use Rattle.words.proofs.Reading.{read-store}
use Rattle.pixels.specs.declared.Canvas.{Canvas}
use Rattle.pixels.specs.Bytes.{form, load_at, Sized}
use Rattle.pixels.specs.Hits.{Hit, paint}
use Rattle.pixels.specs.Rows.{run, mark, marks, field, laid}
use Rattle.pixels.proofs.chunks.Chunks.{Taken}
use Rattle.canvas.specs.declared.Clip.{Clip}
use Rattle.canvas.specs.declared.Refusal.{Refusal}
use Rattle.canvas.specs.declared.Tally.{Tally}
use Rattle.canvas.specs.Call.{Outcome, count_of, leaves}
use Rattle.images.specs.declared.parts.Part.{Part}
use Rattle.images.specs.Chunks.{SeenAs, shifted}
use Rattle.images.specs.Parts.{filled, Shows}
use Rattle.images.specs.Areas.{copied, counted}
use Rattle.pixels.proofs.bytes.Cells.{Bytes}
use Rattle.pixels.proofs.bytes.Pixels.{load_lt}
use Rattle.pixels.proofs.Orders.{Screen, All, By}
use Rattle.pixels.proofs.rows.Parts.{join_after, join_before, marks_all, field_all, marks_alike, field_alike, Elsewhere, load_elsewhere}

-- ---- top bytes

-- those before k are cleared
pub record Cleared (k : ℕ) (ws ws₀ : List ℕ) : Type 0 where
  pub done : (i : ℕ) → i < k → get_or ws i 0 ≡ seen rgb8 (get_or ws₀ i 0)
  pub left : (i : ℕ) → k ≤ i → get_or ws i 0 ≡ get_or ws₀ i 0
  pub long : length ws ≡ length ws₀

pub cleared_none : {ws : List ℕ} → Cleared 0 ws ws
cleared_none = record { done = λ i l. absurd (omega arith); left = λ i l. refl; long = refl }

top : (a b : ℕ) → a ≡ b → a % 16777216 ≡ seen rgb8 b
unfolding seen
top a b e = rw e refl

pub cleared_more : {k : ℕ} {ws ws₀ : List ℕ} → Cleared k ws ws₀ → k < length ws₀ → Cleared (k + 1) (set ws k (get_or ws k 0 % 16777216)) ws₀
cleared_more {k} {ws} {ws₀} c l = record {
  done = λ i m. at i m (ℕ_discrete i k);
  left = λ i m. get_or-set_other ws k i _ 0 (λ e. omega arith) ∙ c.left i (omega arith);
  long = length-set ws k _ ∙ c.long;
}
  where
    at : (i : ℕ) → i < k + 1 → Dec (i ≡ k) → get_or (set ws k (get_or ws k 0 % 16777216)) i 0 ≡ seen rgb8 (get_or ws₀ i 0)
    at i m (yes e) = rw e (get_or-set_same ws k _ 0 (omega (arith, c.long)) ∙ top (get_or ws k 0) (get_or ws₀ k 0) (c.left k (omega arith)))
    at i m (no n) = get_or-set_other ws k i _ 0 n ∙ c.done i (omega (arith, n))

pub cleared_all : {k : ℕ} {ws ws₀ : List ℕ} → Cleared k ws ws₀ → length ws₀ ≤ k → SeenAs rgb8 ws₀ ws
cleared_all c l = record { long = c.long; word = λ i m. c.done i (omega arith) }

-- other formats are seen as they are
pub seen_other : (n : ℕ) → (n ≡ 2 → ⊥) → (w : ℕ) → seen (format_of n) w ≡ w
unfolding seen format_of
seen_other zero h w = refl
seen_other (suc zero) h w = refl
seen_other (suc (suc zero)) h w = absurd (h refl)
seen_other (suc (suc (suc zero))) h w = refl
seen_other (suc (suc (suc (suc zero)))) h w = refl
seen_other (suc (suc (suc (suc (suc n))))) h w = refl

pub seen_same : (n : ℕ) (ws : List ℕ) → (n ≡ 2 → ⊥) → SeenAs (format_of n) ws ws
seen_same n ws h = record { long = refl; word = λ i l. sym (seen_other n h (get_or ws i 0)) }

pub rgb8-is : (n : ℕ) → n ≡ 2 → format_of n ≡ rgb8
unfolding format_of
rgb8-is n e = rw e refl

-- ---- one chunk

chunk_moves : (v : Canvas) (b : List ℕ) (y x sy sx : ℕ) (ws ws' : List ℕ) → Taken v b sy sx ws → SeenAs (form v) ws ws'
    → marks (laid ws' x) (run x (length ws)) y ≡ marks (shifted v b x y sx sy) (run x (length ws)) y
chunk_moves v b y x sy sx ws ws' t s = marks_alike (laid ws' x) (shifted v b x y sx sy) y x (length ws) alike
  where
    alike : (k : ℕ) → x ≤ k → k < x + length ws → laid ws' x k y ≡ shifted v b x y sx sy k y
    alike k l m =
        let n : k - x < length ws = omega arith in
        let z : sy + (y - y) ≡ sy = omega arith in
        let still : ℕ → ℕ → ℕ = λ a w. a in
        ap still (s.word (k - x) n ∙ ap (seen (form v)) (t.word (k - x) n ∙ ap (load_at v b (sx + (k - x))) (sym z)))

pub chunk_done : (v : Canvas) (b b' : List ℕ) (y x sy sx n : ℕ) (ws ws' : List ℕ) → length ws ≡ n → Taken v b sy sx ws → SeenAs (form v) ws ws'
    → b' ≡ paint v (marks (laid ws' x) (run x (length ws')) y) b → b' ≡ paint v (marks (shifted v b x y sx sy) (run x n) y) b
chunk_done v b b' y x sy sx n ws ws' l t s e =
    e ∙ ap (λ (k : ℕ). paint v (marks (laid ws' x) (run x k) y) b) s.long
    ∙ ap (λ (hs : List Hit). paint v hs b) (chunk_moves v b y x sy sx ws ws' t s)
    ∙ ap (λ (k : ℕ). paint v (marks (shifted v b x y sx sy) (run x k) y) b) l

-- ---- a part that is done, grown at its end or at its start

abbrev pub from_end : Bool → ℕ → ℕ → ℕ
from_end true n k = 0
from_end false n k = n - k

-- what the code's test of directions says
pub data Way (x sx : ℕ) : Bool → Type 0 where
  onward : x ≤ sx → Way x sx true
  backward : sx < x → Way x sx false

seen-lt : (f : Format) (w : ℕ) → w < range f → seen f w < range f
unfolding seen range
seen-lt rgb332 w l = l
seen-lt rgb565 w l = l
seen-lt rgb8 w l = omega arith
seen-lt argb w l = l
seen-lt abgr w l = l
seen-lt none w l = l

shifted-lt : (v : Canvas) (b : List ℕ) → Bytes b → (x y sx sy i j w : ℕ) → w < range (form v) → shifted v b x y sx sy i j w < range (form v)
shifted-lt v b o x y sx sy i j w l = seen-lt (form v) _ (load_lt v b (sx + (i - x)) (sy + (j - y)) o)

pub one_row : (g : ℕ → List Hit) (y : ℕ) → g y ≡ flat_map g (run y 1)
unfolding flat_map run
one_row g y = sym (append-nil (g y))

grown : (v : Canvas) (f : ℕ → ℕ → ℕ → ℕ) → ((x y w : ℕ) → w < range (form v) → f x y w < range (form v)) → (g : ℕ → List Hit) (b : List ℕ) → Screen v b
    → (x n : ℕ) (right : Bool) (k m at : ℕ) → k + m ≤ n → at ≡ cond right k (n - k - m)
    → All (By v f) (flat_map g (run (x + at) m)) → All (By v f) (flat_map g (run (x + from_end right n k) k))
    → paint v (flat_map g (run (x + at) m)) (paint v (flat_map g (run (x + from_end right n k) k)) b) ≡ paint v (flat_map g (run (x + from_end right n (k + m)) (k + m))) b
grown v f h g b s x n true k m at l e p q =
    let z : x + at ≡ x + 0 + k = omega arith in
    rw z (join_after v g b (x + 0) k m)
grown v f h g b s x n false k m at l e p q =
    let z : x + (n - k) ≡ x + at + m = omega arith in
    let u : x + (n - (k + m)) ≡ x + at = omega arith in
    let c : k + m ≡ m + k = omega arith in
    let q' : All (By v f) (flat_map g (run (x + at + m) k)) = rw z at q in
    rw (z, u, c) (join_before v f h g b s (x + at) m k p q')

-- ---- a row

-- the pixels that are done: the first k, or the last k
pub record Moved (v : Canvas) (b₀ : List ℕ) (x y sx sy n : ℕ) (right : Bool) (k : ℕ) (b : List ℕ) : Type 0 where
  pub few : k ≤ n
  pub same : b ≡ paint v (marks (shifted v b₀ x y sx sy) (run (x + from_end right n k) k) y) b₀

module _ (v : Canvas) (b₀ : List ℕ) (s : Screen v b₀) (x y sx sy n : ℕ)
    (wide : x + n ≤ v.width) (source : sx + n ≤ v.width) (down : y < v.height) (sdown : sy < v.height) (right : Bool) (way : Way x sx right) where
  abbrev ink : ℕ → ℕ → ℕ → ℕ
  ink = shifted v b₀ x y sx sy

  row_by : (i k : ℕ) → i + k ≤ x + n → All (By v ink) (marks ink (run i k) y)
  row_by i k l = marks_all (By v ink) ink y i k (λ t p q. record { on = record { across = omega arith; down = down }; inked = refl })

  -- the done part does not reach what is still to be read
  clear_of_lem : (right : Bool) → Way x sx right → (k m at t i : ℕ) → k + m ≤ n → at ≡ cond right k (n - k - m) → x + from_end right n k ≤ t → t < x + from_end right n k + k
      → x + at ≤ i → i < x + at + m → t ≡ sx + (i - x) → ⊥
  clear_of_lem true (onward w) k m at t i l e p q r u z = omega arith
  clear_of_lem false (backward w) k m at t i l e p q r u z = omega arith

  pub row_more : (k m at : ℕ) (b b' : List ℕ) → Moved v b₀ x y sx sy n right k b → k + m ≤ n → at ≡ cond right k (n - k - m)
      → b' ≡ paint v (marks (shifted v b (x + at) y (sx + at) sy) (run (x + at) m) y) b → Moved v b₀ x y sx sy n right (k + m) b'
  row_more k m at b b' d l e h = record { few = l; same = h ∙ ap₂ (λ (hs : List Hit) (c : List ℕ). paint v hs c) alike d.same ∙ joined }
    where
      end : at + m ≤ n
      end = at_most right e
        where
          at_most : (r : Bool) → at ≡ cond r k (n - k - m) → at + m ≤ n
          at_most true f = omega arith
          at_most false f = omega arith

      begin : from_end right n k + k ≤ n
      begin = within right d.few
        where
          within : (r : Bool) → k ≤ n → from_end r n k + k ≤ n
          within true f = omega arith
          within false f = omega arith

      read : (i : ℕ) → x + at ≤ i → i < x + at + m → load_at v b (sx + (i - x)) sy ≡ load_at v b₀ (sx + (i - x)) sy
      read i p q =
          ap (λ (c : List ℕ). load_at v c (sx + (i - x)) sy) d.same
          ∙ load_elsewhere v (sx + (i - x)) sy (record { across = omega (arith, end); down = sdown }) _ b₀
          (marks_all (Elsewhere v (sx + (i - x)) sy) ink y (x + from_end right n k) k
          (λ t r u. record { on = record { across = omega (arith, begin); down = down }; other = λ z w. clear_of_lem right way k m at t i l e r u p q z }))

      alike : marks (shifted v b (x + at) y (sx + at) sy) (run (x + at) m) y ≡ marks ink (run (x + at) m) y
      alike = marks_alike (shifted v b (x + at) y (sx + at) sy) ink y (x + at) m one
        where
          one : (i : ℕ) → x + at ≤ i → i < x + at + m → shifted v b (x + at) y (sx + at) sy i y ≡ ink i y
          one i p q =
              let still : ℕ → ℕ → ℕ = λ a w. a in
              let c : sx + at + (i - (x + at)) ≡ sx + (i - x) = omega arith in
              let z : sy + (y - y) ≡ sy = omega arith in
              ap still (ap (seen (form v)) (ap₂ (load_at v b) c z ∙ read i p q ∙ ap (load_at v b₀ (sx + (i - x))) (sym z)))

      joined : paint v (marks ink (run (x + at) m) y) (paint v (marks ink (run (x + from_end right n k) k) y) b₀) ≡ paint v (marks ink (run (x + from_end right n (k + m)) (k + m)) y) b₀
      joined =
          grown v ink (λ i j w r. shifted-lt v b₀ s.bytes x y sx sy i j w r) (mark ink y) b₀ s x n right k m at l e
          (row_by (x + at) m (omega (arith, end))) (row_by (x + from_end right n k) k (omega (arith, begin)))

pub row_none : {v : Canvas} {b₀ : List ℕ} {x y sx sy n : ℕ} {right : Bool} → Moved v b₀ x y sx sy n right 0 b₀
unfolding run flat_map paint
row_none = record { few = omega arith; same = refl }

from_start : (x n k : ℕ) (r : Bool) → n ≤ k → x + from_end r n k ≡ x
from_start x n k true l = omega arith
from_start x n k false l = omega arith

pub row_all : {v : Canvas} {b₀ : List ℕ} {x y sx sy n : ℕ} {right : Bool} {k : ℕ} {b : List ℕ} → Moved v b₀ x y sx sy n right k b → n ≤ k
    → b ≡ paint v (marks (shifted v b₀ x y sx sy) (run x n) y) b₀
row_all {v} {b₀} {x} {y} {sx} {sy} {n} {right} {k} d l =
    d.same ∙ ap₂ (λ (i j : ℕ). paint v (marks (shifted v b₀ x y sx sy) (run i j) y) b₀) (from_start x n k right l) (omega (arith, d.few))

-- ---- a box of rows

pub record Rows (v : Canvas) (b₀ : List ℕ) (x y sx sy n m : ℕ) (below : Bool) (k : ℕ) (b : List ℕ) : Type 0 where
  pub few : k ≤ m
  pub same : b ≡ paint v (field (shifted v b₀ x y sx sy) (run x n) (run (y + from_end below m k) k)) b₀

module _ (v : Canvas) (b₀ : List ℕ) (s : Screen v b₀) (x y sx sy n m : ℕ)
    (wide : x + n ≤ v.width) (source : sx + n ≤ v.width) (high : y + m ≤ v.height) (deep : sy + m ≤ v.height) (below : Bool) (way : Way y sy below) where
  abbrev inks : ℕ → ℕ → ℕ → ℕ
  inks = shifted v b₀ x y sx sy

  box_by : (j k : ℕ) → j + k ≤ y + m → All (By v inks) (field inks (run x n) (run j k))
  box_by j k l = field_all (By v inks) inks x n j k (λ i t p q r u. record { on = record { across = omega arith; down = omega arith }; inked = refl })

  rows-clear : (below : Bool) → Way y sy below → (k at t : ℕ) → k + 1 ≤ m → at ≡ cond below k (m - k - 1) → y + from_end below m k ≤ t → t < y + from_end below m k + k → t ≡ sy + at → ⊥
  rows-clear true (onward w) k at t l e p q z = omega arith
  rows-clear false (backward w) k at t l e p q z = omega arith

  pub rows_more : (k at : ℕ) (b b' : List ℕ) → Rows v b₀ x y sx sy n m below k b → k + 1 ≤ m → at ≡ cond below k (m - k - 1)
      → b' ≡ paint v (marks (shifted v b x (y + at) sx (sy + at)) (run x n) (y + at)) b → Rows v b₀ x y sx sy n m below (k + 1) b'
  rows_more k at b b' d l e h = record { few = l; same = h ∙ ap₂ (λ (hs : List Hit) (c : List ℕ). paint v hs c) (alike ∙ single) d.same ∙ joined }
    where
      end : at + 1 ≤ m
      end = at_most below e
        where
          at_most : (r : Bool) → at ≡ cond r k (m - k - 1) → at + 1 ≤ m
          at_most true f = omega arith
          at_most false f = omega arith

      begin : from_end below m k + k ≤ m
      begin = within below d.few
        where
          within : (r : Bool) → k ≤ m → from_end r m k + k ≤ m
          within true f = omega arith
          within false f = omega arith

      read : (i : ℕ) → x ≤ i → i < x + n → load_at v b (sx + (i - x)) (sy + at) ≡ load_at v b₀ (sx + (i - x)) (sy + at)
      read i p q =
          ap (λ (c : List ℕ). load_at v c (sx + (i - x)) (sy + at)) d.same
          ∙ load_elsewhere v (sx + (i - x)) (sy + at) (record { across = omega arith; down = omega (arith, end) }) _ b₀
          (field_all (Elsewhere v (sx + (i - x)) (sy + at)) inks x n (y + from_end below m k) k
          (λ t u f g r w. record { on = record { across = omega arith; down = omega (arith, begin) }; other = λ z c. rows-clear below way k at u l e r w c }))

      alike : marks (shifted v b x (y + at) sx (sy + at)) (run x n) (y + at) ≡ marks inks (run x n) (y + at)
      alike = marks_alike (shifted v b x (y + at) sx (sy + at)) inks (y + at) x n one
        where
          one : (i : ℕ) → x ≤ i → i < x + n → shifted v b x (y + at) sx (sy + at) i (y + at) ≡ inks i (y + at)
          one i p q =
              let still : ℕ → ℕ → ℕ = λ a w. a in
              let c : sy + at + (y + at - (y + at)) ≡ sy + at = omega arith in
              let z : sy + (y + at - y) ≡ sy + at = omega arith in
              ap still (ap (seen (form v)) (ap (load_at v b (sx + (i - x))) c ∙ read i p q ∙ ap (load_at v b₀ (sx + (i - x))) (sym z)))

      single : marks inks (run x n) (y + at) ≡ field inks (run x n) (run (y + at) 1)
      single = one_row (marks inks (run x n)) (y + at)

      joined : paint v (field inks (run x n) (run (y + at) 1)) (paint v (field inks (run x n) (run (y + from_end below m k) k)) b₀)
          ≡ paint v (field inks (run x n) (run (y + from_end below m (k + 1)) (k + 1))) b₀
      joined =
          grown v inks (λ i j w r. shifted-lt v b₀ s.bytes x y sx sy i j w r) (marks inks (run x n)) b₀ s y m below k 1 at l e
          (box_by (y + at) 1 (omega (arith, end))) (box_by (y + from_end below m k) k (omega (arith, begin)))

pub rows_none : {v : Canvas} {b₀ : List ℕ} {x y sx sy n m : ℕ} {below : Bool} → Rows v b₀ x y sx sy n m below 0 b₀
unfolding run flat_map paint
rows_none = record { few = omega arith; same = refl }

pub rows_all : {v : Canvas} {b₀ : List ℕ} {x y sx sy n m : ℕ} {below : Bool} {k : ℕ} {b : List ℕ} → Rows v b₀ x y sx sy n m below k b → m ≤ k
    → b ≡ paint v (field (shifted v b₀ x y sx sy) (run x n) (run y m)) b₀
rows_all {v} {b₀} {x} {y} {sx} {sy} {n} {m} {below} {k} d l =
    d.same ∙ ap₂ (λ (i j : ℕ). paint v (field (shifted v b₀ x y sx sy) (run x n) (run i j)) b₀) (from_start y m k below l) (omega (arith, d.few))

-- what the code's test says
pub way_of : (x sx : ℕ) (t : Bool) → t ≡ leb x sx → Way x sx t
way_of x sx t e = go (dec_le x sx)
  where
    go : Dec (x ≤ sx) → Way x sx t
    go (yes h) = rw (e ∙ le-leb x sx h) (onward h)
    go (no h) = rw (e ∙ lt-leb x sx (omega arith)) (backward (omega arith))

-- bytes that a canvas takes
pub screen_of : {v : Canvas} {b : List ℕ} → Sized v b → ((i : ℕ) → get_or b i 0 < 256) → Screen v b
screen_of s o = record { long = s.long; bytes = record { byte = o } }

-- ---- what is shown

-- what is copied, through the colour, is what is seen
pub copies : (v : Canvas) (b : List ℕ) → Bytes b → (dx dy sx sy : ℤ) (w h : ℕ) (c : Clip) (p : Part) → Shows v v dx dy sx sy w h c p
    → filled (copied v b dx dy sx sy) p ≡ filled (shifted v b p.x p.y p.sx p.sy) p
copies v b o dx dy sx sy w h c p s = field_alike (copied v b dx dy sx sy) (shifted v b p.x p.y p.sx p.sy) p.x p.w p.y p.h one
  where
    one : (i j : ℕ) → p.x ≤ i → i < p.x + p.w → p.y ≤ j → j < p.y + p.h → copied v b dx dy sx sy i j ≡ shifted v b p.x p.y p.sx p.sy i j
    one i j k l m n =
        let still : ℕ → ℕ → ℕ = λ z w. z in
        ap still (ap (λ (w : ℕ). from_color (form v) (to_color (form v) w)) (ap₂ (load_at v b) (s.column i k l) (s.row j m n))
        ∙ read-store (form v) _ (load_lt v b (p.sx + (i - p.x)) (p.sy + (j - p.y)) o))

-- what is answered and left, with the count beside it
pub with_count : {o : Outcome} (d : Result Tally Refusal) (b n : List ℕ) → leaves d b ≡ o → n ≡ count_of d ∷ [] → ◌≡◌ {A = Outcome × List ℕ} (leaves d b, n) (counted o)
with_count d b n e h = rw h (ap counted e)
