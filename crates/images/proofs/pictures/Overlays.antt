-- Drawing by chunks and rows leaves what drawing pixel by pixel would.
use mathlib.Core.Path.{◌≡◌, refl, sym, ap, ap₂, ◌∙◌}
use mathlib.Core.Bool.{true, false}
use mathlib.Core.List.{List, [], ◌∷◌, ◌++◌, flat_map}
use Prim.Native.Nat.{ℕ, zero, suc, ◌+◌, ◌-◌, ◌≤◌, ◌<◌}
use native.Mathlib.Omega.{arith}
use lib.IntN.{ℤ}
use lib.ListN.{length, get_or}
use Rattle.words.specs.declared.Color.{Color}
use Rattle.words.specs.Format.{Format, format_of, argb}
use Rattle.words.specs.Word.{from_color, to_color}
use Rattle.words.specs.Ink.{keeps_alpha}
use Rattle.words.proofs.Reading.{read_channels, store-read}
use Rattle.blending.specs.Blend.{Rule, blend_word}
use Rattle.blending.specs.Loops.{argb_of, pairwise, blended, stored}
use Rattle.blending.proofs.Laws.{opaque_stores}
use Rattle.blending.proofs.Runs.{argb-at, argb-length, blended_at, blended-length}
use Rattle.pixels.specs.declared.Canvas.{Canvas}
use Rattle.pixels.specs.Bytes.{form, load_at, store_at}
use Rattle.canvas.specs.declared.Clip.{Clip}
use Rattle.canvas.specs.Plot.{Plot, plot, Dye, Dot, dip}
use Rattle.pixels.specs.Hits.{Hit, touch, paint}
use Rattle.pixels.specs.Rows.{run, mark, marks, field, laid}
use Rattle.pixels.proofs.chunks.Chunks.{Taken}
use Rattle.canvas.specs.Boxes.{spots, picture}
use Rattle.canvas.specs.Call.{source_color, carried}
use Rattle.images.specs.declared.parts.Part.{Part}
use Rattle.images.specs.Chunks.{overlaid, Solid}
use Rattle.images.specs.Parts.{filled, Shows}
use Rattle.pixels.proofs.bytes.Pixels.{load_other}
use Rattle.pixels.proofs.rows.Rows.{each_same}
use Rattle.images.proofs.copy.Moves.{one_row}
use Rattle.pixels.proofs.rows.Parts.{join_after, marks_alike, field_alike}

-- ---- a row whose words were worked out before any was written

paint_values : (v : Canvas) (f g : ℕ → ℕ → ℕ → ℕ) (y : ℕ) → y < v.height → (i n : ℕ) → i + n ≤ v.width → (b : List ℕ)
    → ((k : ℕ) → i ≤ k → k < i + n → (w : ℕ) → f k y w ≡ g k y (load_at v b k y)) → paint v (marks f (run i n) y) b ≡ paint v (marks g (run i n) y) b
unfolding flat_map run mark paint touch
paint_values v f g y h i zero l b e = refl
paint_values v f g y h i (suc n) l b e =
    ap (λ (w : ℕ). paint v (marks f (run (suc i) n) y) (store_at v b i y w)) (e i (omega arith) (omega arith) (load_at v b i y))
    ∙ paint_values v f g y h (suc i) n (omega arith) (store_at v b i y (g i y (load_at v b i y))) later
  where
    later : (k : ℕ) → suc i ≤ k → k < suc i + n → (w : ℕ) → f k y w ≡ g k y (load_at v (store_at v b i y (g i y (load_at v b i y))) k y)
    later k p q w =
        e k (omega arith) (omega arith) w
        ∙ ap (g k y) (sym (load_other v b i y _ k y (record { across = omega arith; down = h }) (record { across = omega arith; down = h }) (λ z t. omega arith)))

-- ---- one chunk

argb-keeps : keeps_alpha argb ≡ true
unfolding keeps_alpha
argb-keeps = refl

pub chunk_draws : (v s : Canvas) (b b' image : List ℕ) (y x sy sx n : ℕ) (cs cs' ws ws' : List ℕ) → y < v.height → x + n ≤ v.width → length cs ≡ n → length ws ≡ n
    → Taken s image sy sx cs → cs' ≡ argb_of (form s) cs → Taken v b y x ws → ws' ≡ blended (form v) (carried v) v.xor cs' ws
    → b' ≡ paint v (marks (laid ws' x) (run x (length ws')) y) b → b' ≡ paint v (marks (overlaid v s image x y sx sy) (run x n) y) b
chunk_draws v s b b' image y x sy sx n cs cs' ws ws' hy hx lc lw tc ec tw ew e =
    e ∙ ap (λ (k : ℕ). paint v (marks (laid ws' x) (run x k) y) b) (ap length ew ∙ blended-length (form v) (carried v) v.xor cs' ws ∙ lw)
    ∙ paint_values v (laid ws' x) (overlaid v s image x y sx sy) y hy x n hx b one
  where
    color : (i : ℕ) → i < n → to_color argb (get_or cs' i 0) ≡ to_color (form s) (load_at s image (sx + i) sy)
    color i l =
        ap (λ (c : List ℕ). to_color argb (get_or c i 0)) ec
        ∙ ap (to_color argb) (argb-at (form s) cs i (omega arith) ∙ ap (λ (w : ℕ). from_color argb (to_color (form s) w)) (tc.word i (omega arith)))
        ∙ store-read argb (to_color (form s) (load_at s image (sx + i) sy)) (read_channels (form s) (load_at s image (sx + i) sy)) argb-keeps

    one : (k : ℕ) → x ≤ k → k < x + n → (w : ℕ) → laid ws' x k y w ≡ overlaid v s image x y sx sy k y (load_at v b k y)
    one k p q w =
        let i : k - x < n = omega arith in
        let z : sy + (y - y) ≡ sy = omega arith in
        let u : x + (k - x) ≡ k = omega arith in
        ap (λ (l : List ℕ). get_or l (k - x) 0) ew
        ∙ blended_at (form v) (carried v) v.xor cs' ws (k - x) (omega (arith, ap length ec, argb-length (form s) cs)) (omega arith)
        ∙ ap₂ (λ (c : Color) (a : ℕ). blend_word (form v) (carried v) v.xor c a)
        (color (k - x) i ∙ ap (λ (t : ℕ). to_color (form s) (load_at s image (sx + (k - x)) t)) (sym z))
        (tw.word (k - x) (omega arith) ∙ ap (λ (t : ℕ). load_at v b t y) u)

-- ---- an image that keeps no alpha

solid_alpha : (n : ℕ) → n < 3 → (w : ℕ) → (to_color (format_of n) w).a ≡ 255
unfolding format_of to_color
solid_alpha zero l w = refl
solid_alpha (suc zero) l w = refl
solid_alpha (suc (suc zero)) l w = refl
solid_alpha (suc (suc (suc n))) l w = absurd (omega arith)

pub solid-read : (s : Canvas) (cs cs' : List ℕ) → cs' ≡ argb_of (form s) cs → Solid s.format cs'
solid-read s cs cs' e = record { solid = λ l i m. alpha l i (omega (arith, ap length e, argb-length (form s) cs)) }
  where
    alpha : s.format < 3 → (i : ℕ) → i < length cs → (to_color argb (get_or cs' i 0)).a ≡ 255
    alpha l i m =
        ap (λ (c : List ℕ). (to_color argb (get_or c i 0)).a) e
        ∙ ap (λ (w : ℕ). (to_color argb w).a) (argb-at (form s) cs i m)
        ∙ ap (λ (c : Color). c.a) (store-read argb (to_color (form s) (get_or cs i 0)) (read_channels (form s) (get_or cs i 0)) argb-keeps)
        ∙ solid_alpha s.format l (get_or cs i 0)

-- under either rule
pub solid-stores :
    (f : Format) (k : Rule) (cs ws : List ℕ) → ((i : ℕ) → i < length cs → (to_color argb (get_or cs i 0)).a ≡ 255) →
    stored f cs ws ≡ blended f k false cs ws
unfolding stored blended pairwise
solid-stores f k [] ws h = refl
solid-stores f k (c ∷ cs) [] h = refl
solid-stores f k (c ∷ cs) (w ∷ ws) h =
    ap₂ (λ (a : ℕ) (l : List ℕ). a ∷ l) (sym (opaque_stores f k (to_color argb c) w (h 0 (omega arith))))
    (solid-stores f k cs ws (λ i l. h (suc i) (omega arith)))

-- ---- a row, and a box

pub record Overlaid (v s : Canvas) (image b₀ : List ℕ) (x y sx sy n k : ℕ) (b : List ℕ) : Type 0 where
  pub few : k ≤ n
  pub same : b ≡ paint v (marks (overlaid v s image x y sx sy) (run x k) y) b₀

pub over_none : {v s : Canvas} {image b₀ : List ℕ} {x y sx sy n : ℕ} → Overlaid v s image b₀ x y sx sy n 0 b₀
unfolding run flat_map paint
over_none = record { few = omega arith; same = refl }

pub over-more : (v s : Canvas) (image b₀ b b' : List ℕ) (x y sx sy n k m : ℕ) → Overlaid v s image b₀ x y sx sy n k b → k + m ≤ n
    → b' ≡ paint v (marks (overlaid v s image (x + k) y (sx + k) sy) (run (x + k) m) y) b → Overlaid v s image b₀ x y sx sy n (k + m) b'
over-more v s image b₀ b b' x y sx sy n k m d l e = record {
  few = l;
  same = e ∙ ap₂ (λ (hs : List Hit) (c : List ℕ). paint v hs c) (marks_alike _ (overlaid v s image x y sx sy) y (x + k) m one) d.same
      ∙ join_after v (mark (overlaid v s image x y sx sy) y) b₀ x k m;
}
  where
    one : (i : ℕ) → x + k ≤ i → i < x + k + m → overlaid v s image (x + k) y (sx + k) sy i y ≡ overlaid v s image x y sx sy i y
    one i p q =
        let z : sx + k + (i - (x + k)) ≡ sx + (i - x) = omega arith in
        let made : ℕ → ℕ → ℕ = λ t. blend_word (form v) (carried v) v.xor (to_color (form s) (load_at s image t (sy + (y - y)))) in
        ap made z

pub over_all : {v s : Canvas} {image b₀ : List ℕ} {x y sx sy n k : ℕ} {b : List ℕ} → Overlaid v s image b₀ x y sx sy n k b → n ≤ k
    → b ≡ paint v (marks (overlaid v s image x y sx sy) (run x n) y) b₀
over_all {v} {s} {image} {b₀} {x} {y} {sx} {sy} d l = d.same ∙ ap (λ (j : ℕ). paint v (marks (overlaid v s image x y sx sy) (run x j) y) b₀) (omega (arith, d.few))

-- no row, and one row more
pub no-rows : (v : Canvas) (f : ℕ → ℕ → ℕ → ℕ) (xs b : List ℕ) (y : ℕ) → b ≡ paint v (field f xs (run y 0)) b
unfolding run flat_map paint
no-rows v f xs b y = refl

pub rows_over : (v s : Canvas) (image b₀ b b' : List ℕ) (x y sx sy w k : ℕ) → b ≡ paint v (field (overlaid v s image x y sx sy) (run x w) (run y k)) b₀
    → b' ≡ paint v (marks (overlaid v s image x (y + k) sx (sy + k)) (run x w) (y + k)) b
    → b' ≡ paint v (field (overlaid v s image x y sx sy) (run x w) (run y (k + 1))) b₀
rows_over v s image b₀ b b' x y sx sy w k d e =
    e ∙ ap₂ (λ (hs : List Hit) (c : List ℕ). paint v hs c) (marks_alike _ (overlaid v s image x y sx sy) (y + k) x w one ∙ one_row row (y + k)) d
    ∙ join_after v row b₀ y k 1
  where
    row : ℕ → List Hit
    row = marks (overlaid v s image x y sx sy) (run x w)

    one : (i : ℕ) → x ≤ i → i < x + w → overlaid v s image x (y + k) sx (sy + k) i (y + k) ≡ overlaid v s image x y sx sy i (y + k)
    one i p q =
        let z : sy + k + (y + k - (y + k)) ≡ sy + (y + k - y) = omega arith in
        let made : ℕ → ℕ → ℕ = λ t. blend_word (form v) (carried v) v.xor (to_color (form s) (load_at s image (sx + (i - x)) t)) in
        ap made z

-- ---- what the definition plots

dip-append : (g : Dye → ℕ → ℕ) (ds es : List Dot) → dip g (ds ++ es) ≡ dip g ds ++ dip g es
unfolding dip
dip-append g [] es = refl
dip-append g (d ∷ ds) es = ap (λ (l : List Plot). plot (g d.dye) d.x d.y ∷ l) (dip-append g ds es)

dip_each : (g : Dye → ℕ → ℕ) (h : ℕ → List Dot) (xs : List ℕ) → dip g (flat_map h xs) ≡ flat_map (λ x. dip g (h x)) xs
unfolding flat_map dip
dip_each g h [] = refl
dip_each g h (x ∷ xs) = dip-append g (h x) (flat_map h xs) ∙ ap (λ (l : List Plot). dip g (h x) ++ l) (dip_each g h xs)

pub picture-spots : (g : Dye → ℕ → ℕ) (d : ℕ → ℕ → Dye) (xs ys : List ℕ) → dip g (picture d xs ys) ≡ spots (λ i j. g (d i j)) xs ys
unfolding picture spots dip
picture-spots g d xs ys = dip_each g _ ys ∙ each_same _ _ ys (λ j. dip_each g _ xs)

pub draws_over : (v s : Canvas) (image : List ℕ) (dx dy sx sy : ℤ) (w h : ℕ) (c : Clip) (p : Part) → Shows v s dx dy sx sy w h c p
    → filled (λ i j. blend_word (form v) (carried v) v.xor (source_color s image dx dy sx sy i j)) p ≡ filled (overlaid v s image p.x p.y p.sx p.sy) p
draws_over v s image dx dy sx sy w h c p t =
    field_alike (λ i j. blend_word (form v) (carried v) v.xor (source_color s image dx dy sx sy i j)) (overlaid v s image p.x p.y p.sx p.sy) p.x p.w p.y p.h one
  where
    one : (i j : ℕ) → p.x ≤ i → i < p.x + p.w → p.y ≤ j → j < p.y + p.h
        → blend_word (form v) (carried v) v.xor (source_color s image dx dy sx sy i j) ≡ overlaid v s image p.x p.y p.sx p.sy i j
    one i j k l m n =
        let made : ℕ → ℕ → ℕ = λ a. blend_word (form v) (carried v) v.xor (to_color (form s) a) in
        ap made (ap₂ (load_at s image) (t.column i k l) (t.row j m n))
