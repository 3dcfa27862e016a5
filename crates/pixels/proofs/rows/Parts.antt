-- Parts of rows and boxes of hits: joined at either end, alike where their inks are, and what they leave of other pixels.
use mathlib.Core.Path.{◌≡◌, refl, sym, ap, ap₂, ◌∙◌}
use mathlib.Core.List.Permᴰ
use mathlib.Core.List.{List, [], ◌∷◌, ◌++◌, append_assoc, flat_map}
use Prim.Native.Nat.{ℕ, zero, suc, ◌+◌, ◌≤◌, ◌<◌}
use native.Mathlib.Omega.{arith}
use native.Mathlib.Nat.{zero-add, add-zero, suc-add}
use Rattle.words.specs.Format.{range}
use Rattle.pixels.specs.declared.Canvas.{Canvas}
use Rattle.pixels.specs.Bytes.{form, load_at, On}
use Rattle.pixels.specs.Hits.{Hit, hit, touch, paint}
use Rattle.pixels.specs.Rows.{run, mark, marks, field}
use Rattle.pixels.proofs.bytes.Pixels.{Other, load_other}
use Rattle.pixels.proofs.Orders.{Screen, All, none, also, all_append, paint-perm, By, by_pixel}
use Rattle.pixels.proofs.Hits.{paint-append}

-- ---- runs in two parts

pub run-append : (i m n : ℕ) → run i (m + n) ≡ run i m ++ run (i + m) n
unfolding run
run-append i zero n = rw (zero-add, add-zero) refl
run-append i (suc m) n = let e : i + suc m ≡ suc i + m = omega arith in rw (suc-add m n, e) (ap (λ (l : List ℕ). i ∷ l) (run-append (suc i) m n))

each_append : {A : Type 0} (g : ℕ → List A) (xs ys : List ℕ) → flat_map g (xs ++ ys) ≡ flat_map g xs ++ flat_map g ys
unfolding flat_map
each_append g [] ys = refl
each_append g (x ∷ xs) ys = ap (λ (l : List _). g x ++ l) (each_append g xs ys) ∙ sym (append_assoc (g x) (flat_map g xs) (flat_map g ys))

pub parts : {A : Type 0} (g : ℕ → List A) (i m n : ℕ) → flat_map g (run i (m + n)) ≡ flat_map g (run i m) ++ flat_map g (run (i + m) n)
parts g i m n = ap (flat_map g) (run-append i m n) ∙ each_append g (run i m) (run (i + m) n)

pub join_after : (v : Canvas) (g : ℕ → List Hit) (b : List ℕ) (i m n : ℕ) → paint v (flat_map g (run (i + m) n)) (paint v (flat_map g (run i m)) b) ≡ paint v (flat_map g (run i (m + n))) b
join_after v g b i m n = sym (paint-append v (flat_map g (run i m)) (flat_map g (run (i + m) n)) b) ∙ ap (λ (hs : List Hit). paint v hs b) (sym (parts g i m n))

-- ---- what holds of each hit

run_all : (P : Hit → Type 0) (g : ℕ → List Hit) (i n : ℕ) → ((k : ℕ) → i ≤ k → k < i + n → All P (g k)) → All P (flat_map g (run i n))
unfolding flat_map run
run_all P g i zero h = none
run_all P g i (suc n) h = all_append (h i (omega arith) (omega arith)) (run_all P g (suc i) n (λ k l m. h k (omega arith) (omega arith)))

pub marks_all : (P : Hit → Type 0) (f : ℕ → ℕ → ℕ → ℕ) (y i n : ℕ) → ((k : ℕ) → i ≤ k → k < i + n → P (hit (f k y) k y)) → All P (marks f (run i n) y)
unfolding mark
marks_all P f y i n h = run_all P (mark f y) i n (λ k l m. also (h k l m) none)

pub field_all : (P : Hit → Type 0) (f : ℕ → ℕ → ℕ → ℕ) (x n y m : ℕ) → ((i j : ℕ) → x ≤ i → i < x + n → y ≤ j → j < y + m → P (hit (f i j) i j)) → All P (field f (run x n) (run y m))
field_all P f x n y m h = run_all P (marks f (run x n)) y m (λ j l k. marks_all P f j x n (λ i p q. h i j p q l k))

-- inks of the pixel alone may be painted in any order
pub join_before : (v : Canvas) (f : ℕ → ℕ → ℕ → ℕ) → ((x y w : ℕ) → w < range (form v) → f x y w < range (form v))
    → (g : ℕ → List Hit) (b : List ℕ) → Screen v b → (i m n : ℕ) → All (By v f) (flat_map g (run i m)) → All (By v f) (flat_map g (run (i + m) n))
    → paint v (flat_map g (run i m)) (paint v (flat_map g (run (i + m) n)) b) ≡ paint v (flat_map g (run i (m + n))) b
join_before v f k g b s i m n p q =
    sym (paint-append v (flat_map g (run (i + m) n)) (flat_map g (run i m)) b)
    ∙ paint-perm v (By v f) (by_pixel v f k) b (Permᴰ.append_comm (flat_map g (run (i + m) n)) (flat_map g (run i m))) s (all_append q p)
    ∙ ap (λ (hs : List Hit). paint v hs b) (sym (parts g i m n))

-- ---- inks that are alike on the part

pub run_alike : {A : Type 0} (g h : ℕ → List A) (i n : ℕ) → ((k : ℕ) → i ≤ k → k < i + n → g k ≡ h k) → flat_map g (run i n) ≡ flat_map h (run i n)
unfolding flat_map run
run_alike g h i zero e = refl
run_alike g h i (suc n) e = ap₂ (λ (l m : List _). l ++ m) (e i (omega arith) (omega arith)) (run_alike g h (suc i) n (λ k l m. e k (omega arith) (omega arith)))

pub marks_alike : (f g : ℕ → ℕ → ℕ → ℕ) (y i n : ℕ) → ((k : ℕ) → i ≤ k → k < i + n → f k y ≡ g k y) → marks f (run i n) y ≡ marks g (run i n) y
unfolding mark
marks_alike f g y i n e = run_alike (mark f y) (mark g y) i n (λ k l m. ap (λ (a : ℕ → ℕ). hit a k y ∷ []) (e k l m))

pub field_alike : (f g : ℕ → ℕ → ℕ → ℕ) (x n y m : ℕ) → ((i j : ℕ) → x ≤ i → i < x + n → y ≤ j → j < y + m → f i j ≡ g i j) → field f (run x n) (run y m) ≡ field g (run x n) (run y m)
field_alike f g x n y m e = run_alike (marks f (run x n)) (marks g (run x n)) y m (λ j l k. marks_alike f g j x n (λ i p q. e i j p q l k))

-- ---- other pixels

pub record Elsewhere (v : Canvas) (x y : ℕ) (h : Hit) : Type 0 where
  pub on : On v h.x h.y
  pub other : Other h.x h.y x y

pub load_elsewhere : (v : Canvas) (x y : ℕ) → On v x y → (hs : List Hit) (b : List ℕ) → All (Elsewhere v x y) hs → load_at v (paint v hs b) x y ≡ load_at v b x y
unfolding paint touch
load_elsewhere v x y o [] b none = refl
load_elsewhere v x y o (h ∷ hs) b (also e es) = load_elsewhere v x y o hs (touch v b h) es ∙ load_other v b h.x h.y _ x y e.on o e.other
