-- Sums: term by term, in two parts, row by row, and the other way round.
use mathlib.Core.Path.{◌≡◌, refl, sym, ap, ap₂, ◌∙◌}
use mathlib.Core.List.{List, [], ◌∷◌}
use Prim.Native.Nat.{ℕ, zero, suc, ◌+◌, ◌-◌, ◌*◌, ◌<◌, ◌≤◌}
use native.Mathlib.Omega.{arith}
use native.Mathlib.Nat.{add-zero, add_comm, add-suc, zero-mul, suc-mul}
use Rattle.std.specs.Prelude.{sum_by}
use Rattle.std.proofs.lemmas.List.{get_or-take}
use Rattle.std.proofs.lemmas.List.Sums.{sum_by-cons}
use lib.ListN.{length, get_or, take, drop, length-drop}
use lib.Seq.{length-take-le, get_or-drop}
use Rattle.lbmp.specs.Plane.{total}

pub total_ext : (f g : ℕ → ℕ) (n : ℕ) → ((i : ℕ) → i < n → f i ≡ g i) → total f n ≡ total g n
unfolding total
total_ext f g zero e = refl
total_ext f g (suc n) e = ap₂ (λ (a b : ℕ). a + b) (total_ext f g n (λ i l. e i (omega arith))) (e n (omega arith))

pub total-none : (f : ℕ → ℕ) (n : ℕ) → ((i : ℕ) → i < n → f i ≡ 0) → total f n ≡ 0
unfolding total
total-none f zero e = refl
total-none f (suc n) e = omega (arith, total-none f n (λ i l. e i (omega arith)), e n (omega arith))

pub total-add : (f : ℕ → ℕ) (n m : ℕ) → total f (n + m) ≡ total f n + total (λ i. f (n + i)) m
unfolding total
total-add f n zero = rw (add-zero n) (sym (add-zero (total f n)))
total-add f n (suc m) = rw (add-suc n m) (omega (arith, total-add f n m))

sum_of_sums : (f g : ℕ → ℕ) (n : ℕ) → total (λ i. f i + g i) n ≡ total f n + total g n
unfolding total
sum_of_sums f g zero = refl
sum_of_sums f g (suc n) = omega (arith, sum_of_sums f g n)

pub total_swap : (g : ℕ → ℕ → ℕ) (n k : ℕ) → total (λ x. total (g x) k) n ≡ total (λ s. total (λ x. g x s) n) k
unfolding total
total_swap g n zero = total-none (λ x. 0) n (λ i l. refl)
total_swap g n (suc k) =
    sum_of_sums (λ x. total (g x) k) (λ x. g x k) n ∙ ap (λ (a : ℕ). a + total (λ x. g x k) n) (total_swap g n k)

pub total-rows : (f : ℕ → ℕ) (n w : ℕ) → total f (n * w) ≡ total (λ y. total (λ x. f (y * w + x)) w) n
unfolding total
total-rows f zero w = rw (zero-mul w) refl
total-rows f (suc n) w =
    rw (suc-mul n w) (total-add f (n * w) w ∙ ap (λ (a : ℕ). a + total (λ x. f (n * w + x)) w) (total-rows f n w))

-- ---- the sums of a list

one_more : (f : ℕ → ℕ) (n : ℕ) → total f (suc n) ≡ f 0 + total (λ i. f (suc i)) n
unfolding total
one_more f zero = add_comm 0 (f 0)
one_more f (suc n) = omega (arith, one_more f n)

sum_total : (f : ℕ → ℕ) (l : List ℕ) → sum_by f l ≡ total (λ i. f (get_or l i 0)) (length l)
unfolding total
sum_total f [] = refl
sum_total f (x ∷ l) = omega (arith, sum_by-cons f x l, sum_total f l, one_more (λ i. f (get_or (x ∷ l) i 0)) (length l))

pub sum_taken : (f : ℕ → ℕ) (n : ℕ) (l : List ℕ) → n ≤ length l → sum_by f (take n l) ≡ total (λ i. f (get_or l i 0)) n
sum_taken f n l h =
    sum_total f (take n l) ∙ ap (total (λ i. f (get_or (take n l) i 0))) (length-take-le n l h)
    ∙ total_ext _ _ n (λ i k. ap f (get_or-take n l i 0 k))

pub sum_dropped : (f : ℕ → ℕ) (n : ℕ) (l : List ℕ) → sum_by f (drop n l) ≡ total (λ i. f (get_or l (n + i) 0)) (length l - n)
sum_dropped f n l =
    sum_total f (drop n l) ∙ ap (total (λ i. f (get_or (drop n l) i 0))) (length-drop n l)
    ∙ total_ext _ _ (length l - n) (λ i _. ap f (get_or-drop n l i 0))

-- No more than there are terms, where none is above one.
pub total-le : (f : ℕ → ℕ) (n : ℕ) → ((i : ℕ) → f i ≤ 1) → total f n ≤ n
unfolding total
total-le f zero e = omega arith
total-le f (suc n) e = omega (arith, total-le f n e, e n)
