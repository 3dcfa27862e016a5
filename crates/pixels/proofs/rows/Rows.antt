-- Rows and boxes of hits: the invariant of every loop over them, and how many they are.
use mathlib.Core.Path.{◌≡◌, refl, sym, ap, ap₂, ◌∙◌}
use mathlib.Core.List.{List, [], ◌∷◌, ◌++◌, flat_map}
use Prim.Native.Nat.{ℕ, zero, suc, ◌+◌, ◌*◌, ◌-◌, ◌≤◌, ◌<◌}
use native.Mathlib.Omega.{arith}
use native.Mathlib.Nat.{suc-mul, zero-mul}
use native.Mathlib.Numerals.{add-one}
use lib.ListN.{length, length-append}
use Rattle.pixels.specs.declared.Canvas.{Canvas}
use Rattle.pixels.specs.Bytes.{pitch, size, On, Sized}
use Rattle.pixels.specs.Hits.{Hit, paint}
use Rattle.pixels.specs.Rows.{run, mark, marks, field, flat, Touched}
use Rattle.pixels.proofs.bytes.Pixels.{sized-length}
use Rattle.pixels.proofs.bytes.Places.{touch_is}
use Rattle.pixels.proofs.Hits.{paint-length, paint-append}

-- ---- the invariant: what is left leads to the same end as all of it from the start

pub record Rest (v : Canvas) (hs : List Hit) (b : List ℕ) (hs₀ : List Hit) (b₀ : List ℕ) : Type 0 where
  pub same : paint v hs b ≡ paint v hs₀ b₀

pub rest-start : {v : Canvas} {hs : List Hit} {b : List ℕ} → Rest v hs b hs b
rest-start = record { same = refl }

pub rest-length : {v : Canvas} {hs hs₀ : List Hit} {b b₀ : List ℕ} → Rest v hs b hs₀ b₀ → length b ≡ length b₀
rest-length {v} {hs} {hs₀} {b} {b₀} r = sym (paint-length v hs b) ∙ ap length r.same ∙ paint-length v hs₀ b₀

pub rest-sized : {v : Canvas} {hs hs₀ : List Hit} {b b₀ : List ℕ} → Rest v hs b hs₀ b₀ → Sized v b₀ → Sized v b
rest-sized r s = sized-length (rest-length r) s

pub run_step : (i j : ℕ) → i < j → run i (j - i) ≡ i ∷ run (i + 1) (j - (i + 1))
unfolding run
run_step i j h = let e : j - i ≡ suc (j - (i + 1)) = omega arith in rw (e, add-one) refl

pub run_none : (i j : ℕ) → j ≤ i → run i (j - i) ≡ []
unfolding run
run_none i j h = let e : j - i ≡ 0 = omega arith in rw e refl

module _ (v : Canvas) (g : ℕ → List Hit) (x x1 : ℕ) {hs₀ : List Hit} {b b₀ : List ℕ} (r : Rest v (flat_map g (run x (x1 - x))) b hs₀ b₀) where
  pub rest-turn : {b' : List ℕ} → x < x1 → b' ≡ paint v (g x) b → Rest v (flat_map g (run (x + 1) (x1 - (x + 1)))) b' hs₀ b₀
  unfolding flat_map
  rest-turn h e =
      let tail : List Hit = flat_map g (run (x + 1) (x1 - (x + 1))) in
      record { same = ap (paint v tail) e ∙ sym (paint-append v (g x) tail b) ∙ sym (ap (λ (l : List ℕ). paint v (flat_map g l) b) (run_step x x1 h)) ∙ r.same }

  pub rest_end : x1 ≤ x → b ≡ paint v hs₀ b₀
  unfolding flat_map paint
  rest_end h = rw (run_none x x1 h) at r.same

-- ---- one pixel of a row, of s bytes

module _ (v : Canvas) (b : List ℕ) (x y i s : ℕ) (r : Sized v b) (p : On v x y) (e : i ≡ y * pitch v + x) (z : size v ≡ s) where
  pub row_touch : (f : ℕ → ℕ) (b' : List ℕ) → Touched s (i * s) f b b' → b' ≡ paint v (mark (flat f) y x) b
  unfolding mark paint
  row_touch f b' t = touch_is v b x y i s r p e z b' f _ _ refl refl t.same

-- ---- what each number gives, alike for each

pub each_same : {A : Type 0} (g h : ℕ → List A) (xs : List ℕ) → ((x : ℕ) → g x ≡ h x) → flat_map g xs ≡ flat_map h xs
unfolding flat_map
each_same g h [] e = refl
each_same g h (x ∷ xs) e = ap₂ (λ (l m : List _). l ++ m) (e x) (each_same g h xs e)

-- ---- how many

run_length : (i n : ℕ) → length (run i n) ≡ n
unfolding run
run_length i zero = refl
run_length i (suc n) = ap suc (run_length (suc i) n)

each_length : {A : Type 0} (g : ℕ → List A) (k : ℕ) (xs : List ℕ) → ((x : ℕ) → length (g x) ≡ k) → length (flat_map g xs) ≡ length xs * k
unfolding flat_map
each_length g k [] h = sym (zero-mul k)
each_length g k (x ∷ xs) h = omega (arith, length-append (g x) (flat_map g xs), h x, each_length g k xs h, suc-mul (length xs) k)

pub marks-length : (f : ℕ → ℕ → ℕ → ℕ) (x m y : ℕ) → length (marks f (run x m) y) ≡ m
unfolding mark
marks-length f x m y = omega (arith, each_length (mark f y) 1 (run x m) (λ i. refl), run_length x m)

pub field-length : (f : ℕ → ℕ → ℕ → ℕ) (x m y n : ℕ) → length (field f (run x m) (run y n)) ≡ n * m
field-length f x m y n = each_length (marks f (run x m)) m (run y n) (marks-length f x m) ∙ ap (λ (k : ℕ). k * m) (run_length y n)
